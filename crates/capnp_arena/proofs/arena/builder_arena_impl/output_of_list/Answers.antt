use Rattle.std.proofs.Common.{sym, subst}
use Rattle.capnp_arena_traits.specs.Limits.{IsSmall}
use Rattle.capnp_arena.proofs.RowsLemmas.{shown_small}
use Rattle.capnp_arena.proofs.arena.builder_arena_impl.output_of_list.Goals as goal

pub returns-clause-small : goal.returns-clause-small
returns-clause-small g c = subst IsSmall (sym c.in_ok-segments.ensures.bytes) (shown_small g.S.Segment c.args.list.now.rows.items c.args.list.now.few)
