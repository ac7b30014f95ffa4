use Rattle.std.proofs.Common.{◌≡◌, ℕ, ◌-◌, ◌<◌, ◌≤◌, length}
use Rattle.capnp_arena.specs.Bounds.{HasBounds}
use Rattle.capnp_arena.specs.Row.{shown, capacity_at}
use Rattle.capnp_arena.proofs.BoundsLemmas.{IsTooFull}
use Rattle.capnp_arena.proofs.arena.bounds.first_fit_by_bounds.Given as goal

abbrev pub invariant-loop-at : goal.invariant-loop-at
invariant-loop-at g l = record {
  inside : l.from ≤ length l.rows;
  bounded : HasBounds g.S.Segment l.rows;
  segments : shown g.S.Segment l.rows ≡ shown g.S.Segment l.initial.rows;
  capacity : capacity_at g.S.Segment l.rows ≡ capacity_at g.S.Segment l.initial.rows;
  passed : (k : ℕ) → k < l.from → IsTooFull g.S.Segment l.initial.rows l.amount k;
}

abbrev pub decreases-loop-at : goal.decreases-loop-at
decreases-loop-at g l = length l.rows - l.from
