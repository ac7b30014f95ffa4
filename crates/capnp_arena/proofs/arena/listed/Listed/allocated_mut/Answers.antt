use Rattle.std.proofs.Common.{◌≡◌, get_or, Some, refl, sym, ap, ◌∙◌, arith}
use Rattle.capnp_arena.proofs.RowsLemmas.{shown_at}
use Rattle.capnp_arena.proofs.BoundsLemmas.{bounded_same}
use Rattle.std.proofs.lemmas.List.{length-set}
use Rattle.capnp_arena.specs.Row.{allocated, with_allocated}
use Rattle.capnp_arena.specs.LendingLemmas.{same_capacity}
use Rattle.capnp_arena.proofs.LentLemmas.{lent_in_list}
use Rattle.capnp_arena.proofs.arena.listed.Listed.allocated_mut.Goals as goal

pub invariant_of-self-lent : goal.invariant_of-self-lent
invariant_of-self-lent g c w =
    let seg = g.S.Segment in
    let rows = c.args.self.now.rows.items in
    let row = c.index_mut-row.result.now in (
      omega (arith, c.args.self.now.few, length-set rows c.args.id (with_allocated seg row w)),
      (bounded_same seg rows c.args.id row (with_allocated seg row w) c.index_mut-row.ensures.value (same_capacity seg row w) refl refl c.args.self.now.bounded, tt),
    )

pub returns : goal.returns
returns g c =
    let seg = g.S.Segment in
    let rows = c.args.self.now.rows in
    let row = c.index_mut-row.result.now in
    let e : row ≡ get_or rows.items c.args.id row = c.index_mut-row.ensures.value in (
      (refl, λ w. lent_in_list seg c.args.self.now c.args.id w c.requires e _ _),
      record { lends = tt; now = shown_at seg rows.items c.args.id row c.requires ∙ ap (λ q. Some (allocated seg q)) (sym e) ∙ ap Some (sym c.allocated_mut.ensures.now) },
    )
