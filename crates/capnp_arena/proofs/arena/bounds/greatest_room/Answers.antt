use Rattle.std.proofs.Common.{◌≡◌, ◌+◌, ◌-◌, ◌*◌, ◌%◌, ◌≤◌, inl, inr, ap, arith}
use Rattle.std.proofs.lemmas.Bool.{cases_lt}
use Rattle.capnp_arena.specs.Bounds.{room}
use Rattle.capnp_arena.proofs.RangeLemmas.{power_one, power_twice, rest_half, range_before, range_below, twice_inside}
use Rattle.capnp_arena.proofs.BoundsLemmas.{bound_at, room_at, length_rooms}
use Rattle.capnp_arena.proofs.arena.bounds.greatest_room.Goals as goal

pub widen-init : goal.widen-init
widen-init g c = record {
  power = power_one;
  aligned = omega arith;
  some = omega arith;
  covered = λ k after before.
      omega (arith, room_at g.S.Segment c.args.rows.now c.args.at k c.index-rows-at.result c.requires.there (omega arith), ap (room g.S.Segment) c.index-rows-at.is, c.room-greatest.ensures);
}

pub widen-preserved : goal.widen-preserved
widen-preserved g c =
    let rows = c.args.rows.now in
    let width = c.widen.width in
    let end = c.args.at + 1 in
    let even : c.widen.rest % 2 ≡ 0 = omega arith in
    let twice : 2 * width ≤ end = twice_inside end width c.widen.rest c.widen.invariant.aligned even c.widen.invariant.some in
    let range = range_before end width c.widen.rest c.widen.invariant.power c.widen.invariant.aligned even c.widen.invariant.some in
    let from = end - 2 * width in
    let bound = bound_at g.S.Segment rows (c.args.at - width) (from + width - 1) c.index-rows-at-in-widen.result (omega arith) (omega arith) in
    record {
      power = power_twice width c.widen.invariant.power;
      aligned = rest_half end width c.widen.rest c.widen.invariant.aligned even;
      some = omega arith;
      covered = λ k after before.
          elim (cases_lt (k + width) end) [
            | inl below ↦ omega (arith, c.requires.bounded.within from width k range (omega arith) (omega arith) (omega (arith, length_rooms g.S.Segment rows)), bound, c.max-greatest.ensures)
            | inr above ↦ omega (arith, c.widen.invariant.covered k above before, c.max-greatest.ensures)
          ];
    }

pub overflow_sub-at : goal.overflow_sub-at
overflow_sub-at g c =
    let even : c.widen.rest % 2 ≡ 0 = omega arith in
    omega (arith, twice_inside (c.args.at + 1) c.widen.width c.widen.rest c.widen.invariant.aligned even c.widen.invariant.some)

-- Each range that ends with the row begins after those that aren't covered.
pub returns : goal.returns
returns g c from width k range ends begins before =
    let odd : c.widen.rest % 2 ≡ 1 = omega arith in
    let narrow : width ≤ c.widen.width = range_below from width c.widen.width c.widen.rest range c.widen.invariant.power (omega arith) odd in
    c.widen.invariant.covered k (omega arith) before
