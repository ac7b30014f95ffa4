use Rattle.std.proofs.Common.{refl, sym, ap, ◌∙◌, arith}
use Rattle.std.proofs.lemmas.Bool.{false≢true}
use Rattle.capnp_arena.specs.Row.{capacity}
use Rattle.capnp_arena.proofs.RowsLemmas.{row_old, room_is}
use Rattle.capnp_arena.proofs.arena.rows.allocate_in.Goals as goal

pub allocate_fitting_in-requires-clause-fits : goal.allocate_fitting_in-requires-clause-fits
allocate_fitting_in-requires-clause-fits g c =
    let seg = g.S.Segment in
    let rows = c.args.rows.now in
    let row = c.index-rows-id.result in
    let is = c.index-rows-id.is in
    omega (arith, row_old seg rows c.args.id row c.requires is, room_is seg rows c.args.id row c.requires is, ap (λ q. q.used) is, ap (capacity seg) is, c.has_room.ensures.0 c.if-has_room.true)

pub returns-then-has_room-clause-exactly : goal.returns-then-has_room-clause-exactly
returns-then-has_room-clause-exactly g c =
    let seg = g.S.Segment in
    let rows = c.args.rows.now in
    let row = c.index-rows-id.result in
    let is = c.index-rows-id.is in
    let old = row_old seg rows c.args.id row c.requires is in
    let room = room_is seg rows c.args.id row c.requires is in
    (λ some. omega (arith, old, room, ap (λ q. q.used) is, ap (capacity seg) is, c.has_room.ensures.0 c.if-has_room.true), λ fits. refl)

pub returns-else-has_room-clause-exactly : goal.returns-else-has_room-clause-exactly
returns-else-has_room-clause-exactly g c =
    let seg = g.S.Segment in
    let rows = c.args.rows.now in
    let row = c.index-rows-id.result in
    let is = c.index-rows-id.is in
    let old = row_old seg rows c.args.id row c.requires is in
    let room = room_is seg rows c.args.id row c.requires is in
    (λ some. absurd (false≢true some), λ fits. sym c.if-has_room.false ∙ c.has_room.ensures.1 (omega (arith, old, room, ap (λ q. q.used) is, ap (capacity seg) is, fits)))
