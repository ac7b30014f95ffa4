use Rattle.std.proofs.Common.{sym, subst}
use Rattle.capnp_arena_traits.specs.Limits.{IsSmall}
use Rattle.capnp_arena.specs.Rows.{all}
use Rattle.capnp_arena.proofs.RowsLemmas.{shown_small}
use Rattle.capnp_arena.proofs.ListedLemmas.{listed_few}
use Rattle.capnp_arena.proofs.arena.builder_arena_impl.output_of_rows.Goals as goal

pub returns-clause-small : goal.returns-clause-small
returns-clause-small g c =
    let b = c.args.rows.now in
    subst IsSmall (sym c.in_ok-segments.ensures.bytes) (shown_small g.S.Segment (all g.S.Segment b) (listed_few g.S.Segment b.there b.first b.others.items b.few))
