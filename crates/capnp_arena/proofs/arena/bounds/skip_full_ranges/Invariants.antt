use Rattle.std.proofs.Common.{◌≡◌, ◌+◌, ◌-◌, ◌*◌, ◌≤◌, length}
use Rattle.capnp_arena.specs.Bounds.{HaveNoRoom, rooms}
use Rattle.capnp_arena.proofs.RangeLemmas.{IsPowerOfTwo, IsMultipleOf}
use Rattle.capnp_arena.proofs.arena.bounds.skip_full_ranges.Given as goal

abbrev pub invariant-widen : goal.invariant-widen
invariant-widen g l = record {
  power : IsPowerOfTwo l.width;
  aligned : l.rest * l.width ≡ l.from;
}

abbrev pub decreases-widen : goal.decreases-widen
decreases-widen g l = length l.rows + 1 - l.width

abbrev pub invariant-narrow : goal.invariant-narrow
invariant-narrow g l = record {
  power : IsPowerOfTwo l.width;
  aligned : IsMultipleOf l.width l.at;
  onward : l.from ≤ l.at;
  inside : l.at ≤ length l.rows;
  passed : HaveNoRoom (rooms g.S.Segment l.rows) l.from l.at l.amount;
}

abbrev pub decreases-narrow : goal.decreases-narrow
decreases-narrow g l = l.width
