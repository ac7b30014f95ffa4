use Rattle.std.proofs.Common.{◌<◌, arith}
use Rattle.capnp_arena.proofs.RowsCopied.{IsCut, room_front, room_back, copied_back, kept_back, bounded_back, copied_front, kept_front, bounded_front, many_back, many_front, back_there}
use Rattle.capnp_arena.proofs.arena.rows.copy_across_in.Goals as goal

-- The row that is copied comes before the other one: the rows are split before that one.
pub copy_from-requires-clause-there : goal.copy_from-requires-clause-there
copy_from-requires-clause-there g c =
    let rows = c.args.rows.now in
    let front = c.split_at_mut-front.result.0.now in
    let back = c.split_at_mut-front.result.1.now in
    let cut : IsCut rows front back c.args.to.row = record { parts = c.split_at_mut-front.ensures.value; long = c.split_at_mut-front.ensures.front_len; there = c.requires.rows.1 } in
    room_front g.S.Segment rows front back c.args.to.row c.args.from.row _ c.index-front-from.result cut c.if-from-to.true c.index-front-from.is c.requires.there

pub copy_from-requires-clause-inside : goal.copy_from-requires-clause-inside
copy_from-requires-clause-inside g c =
    let rows = c.args.rows.now in
    let front = c.split_at_mut-front.result.0.now in
    let back = c.split_at_mut-front.result.1.now in
    let cut : IsCut rows front back c.args.to.row = record { parts = c.split_at_mut-front.ensures.value; long = c.split_at_mut-front.ensures.front_len; there = c.requires.rows.1 } in
    room_back g.S.Segment rows front back c.args.to.row _ c.index-back-0.result cut c.index-back-0.is c.requires.inside

-- The row that is copied comes after the other one: the rows are split before the row that is
-- copied.
pub copy_from-requires-else-from-to-clause-there : goal.copy_from-requires-else-from-to-clause-there
copy_from-requires-else-from-to-clause-there g c =
    let rows = c.args.rows.now in
    let front = c.split_at_mut-front-else-from-to.result.0.now in
    let back = c.split_at_mut-front-else-from-to.result.1.now in
    let cut : IsCut rows front back c.args.from.row = record { parts = c.split_at_mut-front-else-from-to.ensures.value; long = c.split_at_mut-front-else-from-to.ensures.front_len; there = c.requires.rows.0 } in
    room_back g.S.Segment rows front back c.args.from.row _ c.index-back-0-else-from-to.result cut c.index-back-0-else-from-to.is c.requires.there

pub copy_from-requires-else-from-to-clause-inside : goal.copy_from-requires-else-from-to-clause-inside
copy_from-requires-else-from-to-clause-inside g c =
    let rows = c.args.rows.now in
    let front = c.split_at_mut-front-else-from-to.result.0.now in
    let back = c.split_at_mut-front-else-from-to.result.1.now in
    let cut : IsCut rows front back c.args.from.row = record { parts = c.split_at_mut-front-else-from-to.ensures.value; long = c.split_at_mut-front-else-from-to.ensures.front_len; there = c.requires.rows.0 } in
    let before : c.args.to.row < c.args.from.row = omega (arith, c.requires.apart, c.if-from-to.false) in
    room_front g.S.Segment rows front back c.args.from.row c.args.to.row _ c.index-front-to.result cut before c.index-front-to.is c.requires.inside

pub bounds-back-0 : goal.bounds-back-0
bounds-back-0 g c =
    let rows = c.args.rows.now in
    let front = c.split_at_mut-front.result.0.now in
    let back = c.split_at_mut-front.result.1.now in
    let cut : IsCut rows front back c.args.to.row = record { parts = c.split_at_mut-front.ensures.value; long = c.split_at_mut-front.ensures.front_len; there = c.requires.rows.1 } in
    back_there rows front back c.args.to.row cut

pub bounds-back-0-else-from-to : goal.bounds-back-0-else-from-to
bounds-back-0-else-from-to g c =
    let rows = c.args.rows.now in
    let front = c.split_at_mut-front-else-from-to.result.0.now in
    let back = c.split_at_mut-front-else-from-to.result.1.now in
    let cut : IsCut rows front back c.args.from.row = record { parts = c.split_at_mut-front-else-from-to.ensures.value; long = c.split_at_mut-front-else-from-to.ensures.front_len; there = c.requires.rows.0 } in
    back_there rows front back c.args.from.row cut

pub bounds-front-from : goal.bounds-front-from
bounds-front-from g c = omega (arith, c.split_at_mut-front.ensures.front_len, c.if-from-to.true)

pub bounds-front-to : goal.bounds-front-to
bounds-front-to g c = omega (arith, c.split_at_mut-front-else-from-to.ensures.front_len, c.requires.apart, c.if-from-to.false)

pub returns-then-from-to : goal.returns-then-from-to
returns-then-from-to g c =
    let seg = g.S.Segment in
    let rows = c.args.rows.now in
    let front = c.split_at_mut-front.result.0.now in
    let back = c.split_at_mut-front.result.1.now in
    let row = c.index-back-0.result in
    let is = c.index-back-0.is in
    let new = c.copy_from.new.self in
    let to = c.args.to.row in
    let cut : IsCut rows front back to = record { parts = c.split_at_mut-front.ensures.value; long = c.split_at_mut-front.ensures.front_len; there = c.requires.rows.1 } in
    let h = c.copy_from.ensures in
    record {
      words = copied_back seg rows front back c.args.from.row to c.index-front-from.result row new c.args.from.at c.args.to.at c.args.n cut c.if-from-to.true c.index-front-from.is is h.words;
      kept = record {
        room = kept_back seg rows front back to row new cut is h.capacity;
        many = many_back seg rows front back to new cut;
        bounded = bounded_back seg rows front back to row new cut is h.capacity h.used h.bound;
      };
    }

pub returns-else-from-to : goal.returns-else-from-to
returns-else-from-to g c =
    let seg = g.S.Segment in
    let rows = c.args.rows.now in
    let front = c.split_at_mut-front-else-from-to.result.0.now in
    let back = c.split_at_mut-front-else-from-to.result.1.now in
    let row = c.index-front-to.result in
    let is = c.index-front-to.is in
    let new = c.copy_from-else-from-to.new.self in
    let from = c.args.from.row in
    let to = c.args.to.row in
    let cut : IsCut rows front back from = record { parts = c.split_at_mut-front-else-from-to.ensures.value; long = c.split_at_mut-front-else-from-to.ensures.front_len; there = c.requires.rows.0 } in
    let before : to < from = omega (arith, c.requires.apart, c.if-from-to.false) in
    let h = c.copy_from-else-from-to.ensures in
    record {
      words = copied_front seg rows front back from to c.index-back-0-else-from-to.result row new c.args.from.at c.args.to.at c.args.n cut before c.index-back-0-else-from-to.is is h.words;
      kept = record {
        room = kept_front seg rows front back from to row new cut before is h.capacity;
        many = many_front seg rows front back from to new cut before;
        bounded = bounded_front seg rows front back from to row new cut before is h.capacity h.used h.bound;
      };
    }
