use Rattle.std.proofs.Common.{◌≡◌, take, replicate}
use Rattle.capnp_packing.proofs.packing.unpacking.fill_with_zeros.Given as goal

abbrev pub invariant-loop-byte : goal.invariant-loop-byte
invariant-loop-byte l = take l.byte-index l.to ≡ replicate l.byte-index 0
