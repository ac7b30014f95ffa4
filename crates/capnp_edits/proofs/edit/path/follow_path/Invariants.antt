use Rattle.std.proofs.Common.{take, Some, map}
use Rattle.capnp_format.specs.Tree.{Tree}
use Rattle.capnp_allocation.specs.Stored.{IsStored}
use Rattle.capnp_edits.specs.Paths.{IsPathFound, IsEndInside, step_of}
use Rattle.capnp_edits.proofs.edit.path.follow_path.Given as goal

abbrev pub invariant-loop-step : goal.invariant-loop-step
invariant-loop-step g l = record {
  inside : IsEndInside (g.A.BuilderArena.view l.arena).words l.here;
  found : (t : Tree) → IsStored (g.A.BuilderArena.view l.arena).words 0 0 t → IsPathFound (g.A.BuilderArena.view l.arena).words (record { segment = 0; word = 0 }) t (map step_of (take l.step-index l.path)) (Some l.here);
}
