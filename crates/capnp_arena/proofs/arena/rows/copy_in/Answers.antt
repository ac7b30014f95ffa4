use Rattle.capnp_format.specs.Bytes.{words_of}
use Rattle.capnp_arena_traits.specs.Written.{with_copied}
use Rattle.capnp_arena.specs.Row.{allocated}
use Rattle.std.proofs.Common.{ap, arith}
use Rattle.capnp_arena.proofs.RowsLemmas.{row_old}
use Rattle.capnp_arena.proofs.BoundsLemmas.{list_over}
use Rattle.capnp_arena.proofs.arena.rows.copy_in.Goals as goal

pub copy_from-requires-clause-inside : goal.copy_from-requires-clause-inside
copy_from-requires-clause-inside g c =
    let seg = g.S.Segment in
    let rows = c.args.rows.now in
    let row = c.index-rows-to.result in
    omega (arith, ap (λ q. q.used) c.index-rows-to.is, row_old seg rows c.args.to.row row c.requires.row c.index-rows-to.is, c.requires.inside)

pub returns : goal.returns
returns g c =
    list_over g.S.Segment (λ ws. with_copied ws c.args.to.at (words_of (allocated g.S.Segment c.args.row.now)) c.args.from c.args.n) c.args.rows.now c.args.to.row c.index-rows-to.result c.copy_from.new.self c.requires.row c.index-rows-to.is c.copy_from.ensures
