use Rattle.std.proofs.Common.{◌≡◌, ◌≤◌, ◌*◌, ◌-◌, length, take, replicate}
use Rattle.capnp_packing.proofs.packing.words.leading_zero_words.Given as goal

abbrev pub invariant-loop-n : goal.invariant-loop-n
invariant-loop-n l = record {
  within : 8 * l.n ≤ length l.bytes;
  zeros : take (8 * l.n) l.bytes ≡ replicate (8 * l.n) 0;
}

abbrev pub decreases-loop-n : goal.decreases-loop-n
decreases-loop-n l = 255 - l.n
