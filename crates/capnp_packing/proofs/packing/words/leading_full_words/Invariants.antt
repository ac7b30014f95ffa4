use Rattle.std.proofs.Common.{◌≤◌}
use Rattle.capnp_packing.proofs.packing.words.leading_full_words.Given as goal

abbrev pub invariant-loop-word : goal.invariant-loop-word
invariant-loop-word l = l.n ≤ l.word-index
