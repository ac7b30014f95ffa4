use Rattle.std.proofs.Common.{◌+◌, ◌-◌, ◌/◌, ◌<◌, inl, inr, refl, arith}
use Rattle.std.proofs.lemmas.Bool.{cases_lt}
use Rattle.capnp_arena.proofs.RangeLemmas.{power_twice, power_half, rest_half, range_half, multiple_half, multiple_next}
use Rattle.capnp_arena.proofs.BoundsLemmas.{bound_at, length_rooms}
use Rattle.capnp_arena.proofs.arena.bounds.skip_full_ranges.Goals as goal

pub widen-preserved : goal.widen-preserved
widen-preserved g c = record {
  power = power_twice c.widen.width c.widen.invariant.power;
  aligned = rest_half c.args.from c.widen.width c.widen.rest c.widen.invariant.aligned (omega arith);
}

-- The range is skipped: its bound is below `amount`.
pub narrow-preserved-then-rows-at : goal.narrow-preserved-then-rows-at
narrow-preserved-then-rows-at g c =
    let wide : 1 < c.narrow.width = omega arith in
    let half = power_half c.narrow.width c.narrow.invariant.power wide in
    let width = c.narrow.width / 2 in
    let range = range_half c.narrow.at c.narrow.width c.narrow.invariant.power wide c.narrow.invariant.aligned in
    let last = c.narrow.at + width - 1 in
    let bound = bound_at g.S.Segment c.args.rows.now last last c.index-rows-at.result (omega arith) refl in
    record {
      power = half.0;
      aligned = multiple_next c.narrow.at width (multiple_half c.narrow.at c.narrow.width half.1 c.narrow.invariant.aligned);
      onward = omega arith;
      inside = omega arith;
      passed = λ k after before.
          elim (cases_lt k c.narrow.at) [
            | inl below ↦ c.narrow.invariant.passed k after below
            | inr above ↦ omega (arith, c.requires.bounded.within c.narrow.at width k range above before (omega (arith, length_rooms g.S.Segment c.args.rows.now)), bound)
          ];
    }

pub narrow-preserved : goal.narrow-preserved
narrow-preserved g c =
    let half = power_half c.narrow.width c.narrow.invariant.power (omega arith) in
    record {
      power = half.0;
      aligned = multiple_half c.narrow.at c.narrow.width half.1 c.narrow.invariant.aligned;
      onward = c.narrow.invariant.onward;
      inside = c.narrow.invariant.inside;
      passed = c.narrow.invariant.passed;
    }

pub returns-then-at-rows-clause-passed : goal.returns-then-at-rows-clause-passed
returns-then-at-rows-clause-passed g c = c.narrow.invariant.passed

-- `at` is the number of rows here.
pub returns-else-at-rows-clause-none : goal.returns-else-at-rows-clause-none
returns-else-at-rows-clause-none g c _ k after before = c.narrow.invariant.passed k after (omega arith)
