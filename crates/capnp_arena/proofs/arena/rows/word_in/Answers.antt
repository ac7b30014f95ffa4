use Rattle.std.proofs.Common.{◌<◌, length, arith, ap, sym, ◌∙◌, slice_index}
use Rattle.capnp_arena.proofs.RowsLemmas.{row_there, row_is, row_old}
use Rattle.capnp_arena.proofs.arena.rows.word_in.Goals as goal

pub word-requires : goal.word-requires
word-requires g c =
    let rows = c.args.rows.now in
    let there : c.args.id < length rows = row_there g.S.Segment rows c.args.id c.args.at c.requires in
    omega (arith, ap (λ q. q.used) c.index-rows-id.is, row_old g.S.Segment rows c.args.id c.index-rows-id.result there c.index-rows-id.is, c.requires)

pub returns : goal.returns
returns g c =
    let rows = c.args.rows.now in
    let there : c.args.id < length rows = row_there g.S.Segment rows c.args.id c.args.at c.requires in
    c.word.ensures ∙ ap (λ ws. slice_index ws c.args.at) (sym (row_is g.S.Segment rows c.args.id c.index-rows-id.result there c.index-rows-id.is))

pub bounds-rows-id : goal.bounds-rows-id
bounds-rows-id g c =
    row_there g.S.Segment c.args.rows.now c.args.id c.args.at c.requires
