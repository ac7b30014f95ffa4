use Rattle.std.proofs.Common.{ap, arith, ◌++◌, replicate, sym, ◌∙◌, length-set}
use Rattle.capnp_arena.specs.Row.{capacity}
use Rattle.capnp_arena.proofs.RowsLemmas.{row_old, room_is, row_over, room_same}
use Rattle.capnp_arena.proofs.BoundsLemmas.{bounded_grown}
use Rattle.capnp_arena.proofs.arena.rows.allocate_fitting_in.Goals as goal

pub allocate_fitting-requires : goal.allocate_fitting-requires
allocate_fitting-requires g c =
    let seg = g.S.Segment in
    let rows = c.args.rows.now in
    let row = c.index-rows-id.result in
    omega (arith, ap (λ q. q.used) c.index-rows-id.is, ap (capacity seg) c.index-rows-id.is, row_old seg rows c.args.id row c.requires.there c.index-rows-id.is, room_is seg rows c.args.id row c.requires.there c.index-rows-id.is, c.requires.fits)

pub returns-clause-at : goal.returns-clause-at
returns-clause-at g c =
    let row = c.index-rows-id.result in
    omega (arith, c.allocate_fitting.ensures.at, ap (λ q. q.used) c.index-rows-id.is, row_old g.S.Segment c.args.rows.now c.args.id row c.requires.there c.index-rows-id.is)

pub returns-clause-taken : goal.returns-clause-taken
returns-clause-taken g c =
    let seg = g.S.Segment in
    let rows = c.args.rows.now in
    let row = c.index-rows-id.result in
    let is = c.index-rows-id.is in
    record {
      words = row_over seg (λ ws. ws ++ replicate c.args.amount 0) rows c.args.id row c.allocate_fitting.new.self c.requires.there c.allocate_fitting.ensures.taken;
      kept = record {
        room = room_same seg rows c.args.id row c.allocate_fitting.new.self is (c.allocate_fitting.ensures.capacity ∙ ap (capacity seg) (sym is));
        many = length-set rows c.args.id _;
        bounded = bounded_grown seg rows c.args.id c.args.amount row c.allocate_fitting.new.self is c.allocate_fitting.ensures.capacity c.allocate_fitting.ensures.used c.allocate_fitting.ensures.bound;
      };
    }
