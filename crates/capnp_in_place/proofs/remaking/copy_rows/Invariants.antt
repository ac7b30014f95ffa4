use Rattle.std.proofs.Common.{◌≡◌, ◌+◌, ◌*◌}
use Rattle.capnp_arena_traits.specs.View.{KeepsLimits}
use Rattle.capnp_in_place.proofs.WiderObjects.Statements.{CopiedRows}
use Rattle.capnp_in_place.proofs.remaking.copy_rows.Given as goal

abbrev pub invariant-loop-i : goal.invariant-loop-i
invariant-loop-i g l = record {
  copied : CopiedRows (g.A.BuilderArena.view l.fn.arena).words (g.A.BuilderArena.view l.arena).words l.from.segment l.from.at l.from.step l.to.segment l.to.at l.to.step l.words l.i;
  source_at : l.source ≡ l.from.at + l.i * l.from.step;
  place_at : l.place ≡ l.to.at + l.i * l.to.step;
  limits : KeepsLimits (g.A.BuilderArena.view l.fn.arena) (g.A.BuilderArena.view l.arena);
}
