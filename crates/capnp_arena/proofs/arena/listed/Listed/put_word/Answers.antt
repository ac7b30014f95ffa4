use Rattle.std.proofs.Common.{◌<◌, length, set, arith}
use Rattle.capnp_arena.proofs.RowsLemmas.{row_there, row_old, row_written, room_same}
use Rattle.capnp_arena.proofs.BoundsLemmas.{bounded_same}
use Rattle.capnp_arena.proofs.arena.listed.Listed.put_word.Goals as goal

pub put_word-requires : goal.put_word-requires
put_word-requires g c =
    let rows = c.args.self.now.rows.items in
    let there : c.args.id < length rows = row_there g.S.Segment rows c.args.id c.args.at c.requires in
    omega (arith, row_old g.S.Segment rows c.args.id c.index_mut-row.result.now there c.index_mut-row.ensures.value, c.requires)

pub invariant_of-self-clause-bounded : goal.invariant_of-self-clause-bounded
invariant_of-self-clause-bounded g c =
    bounded_same g.S.Segment c.args.self.now.rows.items c.args.id c.index_mut-row.result.now c.put_word.new.self c.index_mut-row.ensures.value c.put_word.ensures.capacity c.put_word.ensures.used c.put_word.ensures.bound c.args.self.now.bounded

pub returns : goal.returns
returns g c =
    let rows = c.args.self.now.rows.items in
    let row = c.index_mut-row.result.now in
    let is = c.index_mut-row.ensures.value in
    let there : c.args.id < length rows = row_there g.S.Segment rows c.args.id c.args.at c.requires in
    record {
      words = row_written g.S.Segment (λ ws. set ws c.args.at c.args.word) rows c.args.id row c.put_word.new.self there is c.put_word.ensures.words;
      room = room_same g.S.Segment rows c.args.id row c.put_word.new.self is c.put_word.ensures.capacity;
    }
