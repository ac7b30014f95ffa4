use Rattle.std.proofs.Common.{◌≡◌, ℕ, ◌+◌, ◌<◌}
use Rattle.capnp_arena_traits.specs.View.{KeepsLimits}
use Rattle.capnp_format.specs.Segments.{word_at}
use Rattle.capnp_allocation.specs.Zeroed.{IsPruned}
use Rattle.capnp_builders.specs.Content.{AreCleared}
use Rattle.capnp_builders.proofs.builders.content.clear_pointers.Given as goal

abbrev pub invariant-loop-i : goal.invariant-loop-i
invariant-loop-i g l = record {
  cleared : AreCleared (g.A.BuilderArena.view l.fn.arena).words (g.A.BuilderArena.view l.arena).words l.id l.at l.i;
  null : (j : ℕ) → j < l.i → word_at (g.A.BuilderArena.view l.arena).words l.id (l.at + j) ≡ 0;
  only : IsPruned (g.A.BuilderArena.view l.fn.arena).words (g.A.BuilderArena.view l.arena).words;
  limits : KeepsLimits (g.A.BuilderArena.view l.fn.arena) (g.A.BuilderArena.view l.arena);
}
