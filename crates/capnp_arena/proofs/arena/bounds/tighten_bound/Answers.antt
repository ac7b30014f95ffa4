use Rattle.std.proofs.Common.{sym, ap}
use Rattle.capnp_arena.specs.Row.{allocated, capacity}
use Rattle.capnp_arena.specs.Bounds.{room}
use Rattle.capnp_arena.specs.LendingLemmas.{each_same, room_same}
use Rattle.capnp_arena.proofs.BoundsLemmas.{bounded_lowered}
use Rattle.capnp_arena.proofs.arena.bounds.tighten_bound.Goals as goal

pub returns-clause-bounded : goal.returns-clause-bounded
returns-clause-bounded g c =
    bounded_lowered g.S.Segment c.args.rows.now c.args.at c.index-rows-at.result _ c.requires.there c.index-rows-at.is (ap (room g.S.Segment) (sym c.index-rows-at.is)) c.greatest_room-greatest.ensures c.requires.bounded

pub returns-clause-segments : goal.returns-clause-segments
returns-clause-segments g c = each_same g.S.Segment (allocated g.S.Segment) c.args.rows.now c.args.at c.index-rows-at.result _ c.index-rows-at.is (ap (allocated g.S.Segment) (sym c.index-rows-at.is))

pub returns-clause-capacity : goal.returns-clause-capacity
returns-clause-capacity g c = room_same g.S.Segment c.args.rows.now c.args.at c.index-rows-at.result _ c.index-rows-at.is (ap (capacity g.S.Segment) (sym c.index-rows-at.is))
