use Rattle.std.proofs.Common.{◌≡◌, ◌+◌, ◌++◌, length, take, drop}
use Rattle.capnp_packing.specs.Packing.{nonzero_bytes}
use Rattle.capnp_canonical.proofs.packing.put_nonzero_bytes.Given as goal

abbrev pub invariant-loop-byte : goal.invariant-loop-byte
invariant-loop-byte l = record {
  put : take l.end l.to ++ nonzero_bytes (drop l.byte-index l.bytes) ≡ take l.at l.initial.to ++ nonzero_bytes l.bytes;
  room : l.end + length (nonzero_bytes (drop l.byte-index l.bytes)) ≡ l.at + length (nonzero_bytes l.bytes);
}
