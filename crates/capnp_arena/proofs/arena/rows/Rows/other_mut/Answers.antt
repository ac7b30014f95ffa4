use Rattle.std.proofs.Common.{◌≡◌, ◌-◌, ◌<◌, ◌≤◌, length, get_or, Some, refl, sym, ap, ◌∙◌, arith}
use Rattle.std.proofs.lemmas.List.{length-set}
use Rattle.std.specs.Vec.{with_item}
use Rattle.capnp_arena.specs.Row.{allocated, most_others, with_allocated}
use Rattle.capnp_arena.specs.LendingLemmas.{same_capacity}
use Rattle.capnp_arena.proofs.BoundsLemmas.{bounded_same}
use Rattle.capnp_arena.proofs.RowsLemmas.{shown_at}
use Rattle.capnp_arena.proofs.ListedLemmas.{other_there, other_shown}
use Rattle.capnp_arena.proofs.LentLemmas.{lent_other}
use Rattle.capnp_arena.proofs.arena.rows.Rows.other_mut.Goals as goal

pub invariant_of-self-lent : goal.invariant_of-self-lent
invariant_of-self-lent g c w =
    let seg = g.S.Segment in
    let b = c.args.self.now in
    let row = c.index_mut-row.result.now in
    let few : length (with_item b.others (c.args.id - 1) (with_allocated seg row w)).items ≤ most_others b.there = omega (arith, b.few, length-set b.others.items (c.args.id - 1) (with_allocated seg row w)) in
    (few, (bounded_same seg b.others.items (c.args.id - 1) row (with_allocated seg row w) c.index_mut-row.ensures.value (same_capacity seg row w) refl refl b.bounded, tt))

pub returns : goal.returns
returns g c =
    let seg = g.S.Segment in
    let b = c.args.self.now in
    let row = c.index_mut-row.result.now in
    let there : c.args.id - 1 < length b.others.items = other_there seg b.there b.first b.others.items c.args.id c.requires.some c.requires.there in
    let e : row ≡ get_or b.others.items (c.args.id - 1) row = c.index_mut-row.ensures.value in (
      (refl, λ w. lent_other seg b c.args.id w c.requires.some there e _ _),
      record {
        lends = tt;
        now = other_shown seg b.there b.first b.others.items c.args.id c.requires.some c.requires.there ∙ shown_at seg b.others.items (c.args.id - 1) row there ∙ ap (λ q. Some (allocated seg q)) (sym e) ∙ ap Some (sym c.allocated_mut.ensures.now);
      },
    )
