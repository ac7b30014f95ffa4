use Rattle.std.proofs.Common.{◌≡◌, []}
use Rattle.std.specs.Prelude.{slice_range}
use Rattle.std.specs.Io.KnownBytes.{prepend_known}
use Rattle.capnp_packing.proofs.UnpackingLemmas.{Unpacks, idle}
use Rattle.capnp_packing.proofs.packing.unpacking_input.UnpackingInput.unpack_some.Given as goal

abbrev pub invariant-loop-self : goal.invariant-loop-self
invariant-loop-self g l = record {
  none : Unpacks l.fn.self.zeros l.fn.self.place
      (prepend_known (slice_range l.fn.self.packed.bytes l.fn.self.packed.at l.fn.self.packed.end)
      (g.R.Input.remaining l.fn.self.packed.input))
      l.self.zeros l.self.place
      (prepend_known (slice_range l.self.packed.bytes l.self.packed.at l.self.packed.end)
      (g.R.Input.remaining l.self.packed.input))
      [];
  works : g.R.Input.has_failed l.self.packed.input ≡ g.R.Input.has_failed l.fn.self.packed.input;
  told : l.self.told ≡ l.fn.self.told;
}

abbrev pub decreases-loop-self : goal.decreases-loop-self
decreases-loop-self g l = idle l.self.zeros l.self.place
