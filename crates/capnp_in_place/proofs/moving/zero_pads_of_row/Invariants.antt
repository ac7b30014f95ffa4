use Rattle.capnp_arena_traits.specs.View.{KeepsLimits}
use Rattle.capnp_allocation.specs.Zeroed.{IsPruned}
use Rattle.capnp_in_place.specs.Moved.{Unmoves}
use Rattle.capnp_in_place.proofs.WiderObjects.Statements.{row_moves}
use Rattle.capnp_in_place.proofs.moving.zero_pads_of_row.Given as goal

abbrev pub invariant-loop-i : goal.invariant-loop-i
invariant-loop-i g l = record {
  zeroed : Unmoves (g.A.BuilderArena.view l.fn.arena).words (g.A.BuilderArena.view l.arena).words (row_moves l.from.segment l.from.at l.to.segment l.to.at l.i);
  pruned : IsPruned (g.A.BuilderArena.view l.fn.arena).words (g.A.BuilderArena.view l.arena).words;
  limits : KeepsLimits (g.A.BuilderArena.view l.fn.arena) (g.A.BuilderArena.view l.arena);
}
