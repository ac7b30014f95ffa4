use Rattle.std.proofs.Common.{◌≡◌, ℕ, ◌<◌, get_or}
use Rattle.capnp_format.specs.Bytes.{words_of}
use Rattle.layout_vectors.proofs.vectors.walk.are_unmarked_words_zero.Given as goal

abbrev pub invariant-loop-i : goal.invariant-loop-i
invariant-loop-i l = (q : ℕ) → q < l.i → get_or l.row q 0 ≡ 0 → get_or (words_of l.bytes) q 0 ≡ 0
