use Rattle.std.proofs.Common.{◌≡◌, ◌+◌, ◌*◌}
use Rattle.capnp_arena_traits.specs.View.{KeepsLimits}
use Rattle.capnp_in_place.specs.RowsRemade.{AreNumbersCopied}
use Rattle.capnp_in_place.proofs.WiderObjects.NumberListBySteps.{first_numbers_of}
use Rattle.capnp_in_place.proofs.number_lists.copy_numbers.Given as goal

abbrev pub invariant-loop-i : goal.invariant-loop-i
invariant-loop-i g l = record {
  copied : AreNumbersCopied (g.A.BuilderArena.view l.fn.arena).words (g.A.BuilderArena.view l.arena).words (first_numbers_of l.old l.i) (record { segment = l.to.segment; at = l.to.at; step = l.step });
  place_at : l.place ≡ l.to.at + l.i * l.step;
  limits : KeepsLimits (g.A.BuilderArena.view l.fn.arena) (g.A.BuilderArena.view l.arena);
}
