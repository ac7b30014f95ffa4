use Rattle.std.proofs.Common.{◌<◌, length, ap, set, arith}
use Rattle.capnp_arena.proofs.RowsLemmas.{row_old, row_there}
use Rattle.capnp_arena.proofs.BoundsLemmas.{list_over}
use Rattle.capnp_arena.proofs.arena.rows.put_word_in.Goals as goal

pub bounds-rows-id : goal.bounds-rows-id
bounds-rows-id g c = row_there g.S.Segment c.args.rows.now c.args.id c.args.at c.requires

pub put_word-requires : goal.put_word-requires
put_word-requires g c =
    let seg = g.S.Segment in
    let rows = c.args.rows.now in
    let there : c.args.id < length rows = row_there seg rows c.args.id c.args.at c.requires in
    omega (arith, ap (λ q. q.used) c.index-rows-id.is, row_old seg rows c.args.id c.index-rows-id.result there c.index-rows-id.is, c.requires)

pub returns : goal.returns
returns g c =
    let seg = g.S.Segment in
    let rows = c.args.rows.now in
    let there : c.args.id < length rows = row_there seg rows c.args.id c.args.at c.requires in
    list_over seg (λ ws. set ws c.args.at c.args.word) rows c.args.id c.index-rows-id.result c.put_word.new.self there c.index-rows-id.is c.put_word.ensures
