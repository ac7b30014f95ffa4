use Rattle.std.proofs.Common.{◌+◌, ◌-◌, Some, length}
use Rattle.std.specs.Prelude.{slice_range}
use Rattle.std.specs.Io.KnownBytes.{prepend_known}
use Rattle.capnp_packing.proofs.UnpackingLemmas.{Unpacks}
use Rattle.capnp_packing.specs.declared.packing.place.Place.TheVariants.{Tag}
use Rattle.capnp_packing.proofs.packing.in_memory.unpack.Given as goal

abbrev pub invariant-loop-input : goal.invariant-loop-input
invariant-loop-input l = Unpacks 0 Tag (Some l.fn.packed) l.input.zeros l.input.place
    (prepend_known (slice_range l.input.packed.bytes l.input.packed.at l.input.packed.end) (Some l.input.packed.input.bytes.now))
    l.bytes.items

abbrev pub decreases-loop-input : goal.decreases-loop-input
decreases-loop-input l = l.max_bytes + 1 - length l.bytes.items
