use Rattle.std.proofs.Common.{◌≡◌, length, take}
use Rattle.capnp_packing.specs.Packing.{place_at_end, unpacked_bytes}
use Rattle.capnp_packing.specs.declared.packing.place.Place.TheVariants.{Tag}
use Rattle.capnp_packing.proofs.packing.to_slice.unpacked_size.Given as goal

abbrev pub invariant-loop-byte : goal.invariant-loop-byte
invariant-loop-byte l = record {
  size : l.size ≡ length (unpacked_bytes Tag (take l.byte-index l.packed));
  place : l.place ≡ place_at_end Tag (take l.byte-index l.packed);
}
