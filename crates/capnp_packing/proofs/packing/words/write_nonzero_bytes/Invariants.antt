use Rattle.std.proofs.Common.{◌≡◌, ◌≤◌, ◌++◌, take, drop}
use Rattle.capnp_packing.specs.Packing.{nonzero_bytes}
use Rattle.capnp_packing.proofs.packing.words.write_nonzero_bytes.Given as goal

abbrev pub invariant-loop-i : goal.invariant-loop-i
invariant-loop-i l = record {
  bytes : take l.n l.to ++ nonzero_bytes (drop l.i l.bytes) ≡ nonzero_bytes l.bytes;
  within : l.n ≤ l.i;
}
