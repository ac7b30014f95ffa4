use Rattle.std.proofs.Common.{◌≡◌, ◌≤◌, ◌*◌, length, take}
use Rattle.capnp_format.specs.Bytes.{words_of}
use Rattle.capnp_format.specs.Canonical.{used_words}
use Rattle.capnp_words.proofs.lanes.used_words_bound.Given as goal

abbrev pub invariant-loop-end : goal.invariant-loop-end
invariant-loop-end l = record {
  within : 8 * l.end ≤ length l.bytes;
  used : used_words (words_of l.bytes) ≡ used_words (take l.end (words_of l.bytes));
}

abbrev pub decreases-loop-end : goal.decreases-loop-end
decreases-loop-end l = l.end
