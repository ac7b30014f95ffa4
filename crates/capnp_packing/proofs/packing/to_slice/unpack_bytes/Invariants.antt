use Rattle.std.proofs.Common.{◌≡◌, ◌≤◌, ◌++◌, length, take, drop}
use Rattle.capnp_packing.specs.Packing.{unpacked_bytes}
use Rattle.capnp_packing.proofs.packing.to_slice.unpack_bytes.Given as goal

abbrev pub invariant-loop-byte : goal.invariant-loop-byte
invariant-loop-byte l = record {
  bytes : take l.given l.to ++ unpacked_bytes l.place (drop l.byte-index l.packed) ≡ unpacked_bytes l.fn.start l.packed;
  within : l.given ≤ length l.to;
}
