use Rattle.std.proofs.Common.{arith, ◌++◌, replicate}
use Rattle.capnp_arena.proofs.RowsLemmas.{row_old, room_is, row_written, room_same}
use Rattle.capnp_arena.proofs.BoundsLemmas.{bounded_taken}
use Rattle.capnp_arena.proofs.arena.listed.Listed.allocate_fitting.Goals as goal

pub allocate_fitting-requires : goal.allocate_fitting-requires
allocate_fitting-requires g c =
    let rows = c.args.self.now.rows.items in
    let row = c.index_mut-row.result.now in
    let e = c.index_mut-row.ensures.value in
    omega (arith, row_old g.S.Segment rows c.args.id row c.requires.there e, room_is g.S.Segment rows c.args.id row c.requires.there e, c.requires.fits)

pub invariant_of-self-clause-bounded : goal.invariant_of-self-clause-bounded
invariant_of-self-clause-bounded g c =
    bounded_taken g.S.Segment c.args.self.now.rows.items c.args.id c.args.amount c.index_mut-row.result.now c.allocate_fitting.new.self c.index_mut-row.ensures.value c.allocate_fitting.ensures.capacity c.allocate_fitting.ensures.used c.allocate_fitting.ensures.bound c.args.self.now.bounded

pub returns-clause-at : goal.returns-clause-at
returns-clause-at g c =
    omega (arith, c.allocate_fitting.ensures.at, row_old g.S.Segment c.args.self.now.rows.items c.args.id c.index_mut-row.result.now c.requires.there c.index_mut-row.ensures.value)

pub returns-clause-taken : goal.returns-clause-taken
returns-clause-taken g c =
    let rows = c.args.self.now.rows.items in
    let row = c.index_mut-row.result.now in
    let is = c.index_mut-row.ensures.value in
    record {
      words = row_written g.S.Segment (λ ws. ws ++ replicate c.args.amount 0) rows c.args.id row c.allocate_fitting.new.self c.requires.there is c.allocate_fitting.ensures.taken;
      room = room_same g.S.Segment rows c.args.id row c.allocate_fitting.new.self is c.allocate_fitting.ensures.capacity;
    }
