use Rattle.std.proofs.Common.{◌<◌, length, sym, ap, ◌∙◌, arith, slice_index}
use Rattle.capnp_arena.proofs.RowsLemmas.{row_there, row_old, row_is}
use Rattle.capnp_arena.proofs.arena.listed.Listed.word.Goals as goal

pub word-requires : goal.word-requires
word-requires g c =
    let rows = c.args.self.now.rows.items in
    let there : c.args.id < length rows = row_there g.S.Segment rows c.args.id c.args.at c.requires in
    omega (arith, row_old g.S.Segment rows c.args.id c.index.result.now there c.index.ensures, c.requires)

pub returns : goal.returns
returns g c =
    let rows = c.args.self.now.rows.items in
    let there : c.args.id < length rows = row_there g.S.Segment rows c.args.id c.args.at c.requires in
    c.word.ensures ∙ ap (λ ws. slice_index ws c.args.at) (sym (row_is g.S.Segment rows c.args.id c.index.result.now there c.index.ensures))
