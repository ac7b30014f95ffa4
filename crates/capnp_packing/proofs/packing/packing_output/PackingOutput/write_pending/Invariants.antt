use Rattle.std.proofs.Common.{◌≡◌, ◌-◌}
use Rattle.std.specs.Prelude.{slice_range}
use Rattle.std.specs.Io.KnownBytes.{Keeps, append_known}
use Rattle.capnp_packing.proofs.packing.packing_output.PackingOutput.write_pending.Given as goal

abbrev pub invariant-loop-self : goal.invariant-loop-self
invariant-loop-self g l = record {
  keeps : Keeps
      (append_known (g.W.Output.contents l.fn.self.packed) (slice_range l.fn.self.pending l.fn.self.sent l.fn.self.end))
      (append_known (g.W.Output.contents l.self.packed) (slice_range l.self.pending l.self.sent l.self.end));
  failed : l.self.failed ≡ l.fn.self.failed;
}

abbrev pub decreases-loop-self : goal.decreases-loop-self
decreases-loop-self g l = l.self.end - l.self.sent
