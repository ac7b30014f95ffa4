use Rattle.std.proofs.Common.{◌≡◌, ◌≤◌, ◌*◌, length, take}
use Rattle.capnp_format.specs.Bytes.{words_of}
use Rattle.capnp_format.specs.Canonical.{used_words}
use Rattle.capnp_words.proofs.lanes.used_words_before.Given as goal

abbrev pub invariant-loop-n : goal.invariant-loop-n
invariant-loop-n l = record {
  within : (8 * l.n ≤ length l.bytes) × (l.n ≤ l.end);
  used : used_words (take l.end (words_of l.bytes)) ≡ used_words (take l.n (words_of l.bytes));
}

abbrev pub decreases-loop-n : goal.decreases-loop-n
decreases-loop-n l = l.n
