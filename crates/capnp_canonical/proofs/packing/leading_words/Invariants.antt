use Rattle.std.proofs.Common.{◌≡◌, ◌+◌, ◌-◌, ◌*◌, ◌≤◌, length, drop}
use Rattle.capnp_canonical.specs.PackedWords.{run}
use Rattle.capnp_canonical.proofs.packing.leading_words.Given as goal

abbrev pub invariant-loop-n : goal.invariant-loop-n
invariant-loop-n l = record {
  run : l.n + run l.least l.most (255 - l.n) (drop (8 * l.n) l.bytes) ≡ run l.least l.most 255 l.bytes;
  within : 8 * l.n ≤ length l.bytes;
}

abbrev pub decreases-loop-n : goal.decreases-loop-n
decreases-loop-n l = 255 - l.n
