use Rattle.std.proofs.Common.{arith}
use Rattle.capnp_arena.proofs.RowsLemmas.{row_old, room_is}
use Rattle.capnp_arena.proofs.arena.listed.Listed.has_room.Goals as goal

pub returns : goal.returns
returns g c =
    let rows = c.args.self.now.rows.items in
    let row = c.index.result.now in
    let old = row_old g.S.Segment rows c.args.id row c.requires c.index.ensures in
    let room = room_is g.S.Segment rows c.args.id row c.requires c.index.ensures in
    (λ yes. omega (arith, old, room, c.has_room.ensures.0 yes), λ fits. c.has_room.ensures.1 (omega (arith, old, room, fits)))
