use Rattle.capnp_arena.proofs.ItemsLemmas.{items_after, as_many_shown}
use Rattle.std.proofs.Common.{◌≤◌, length, sym, subst}
use Rattle.capnp_arena_traits.specs.Allocations.{max_segments}
use Rattle.capnp_arena.specs.Bounds.{FindsFit, HasBounds}
use Rattle.capnp_arena.proofs.ListedLemmas.{others_few, others_bounded}
use Rattle.capnp_arena.proofs.arena.listed.Listed.first_fit.Goals as goal

pub returns : goal.returns
returns g c =
    let seg = g.S.Segment in
    let h = c.first_fit.ensures.found in
    items_after seg (λ old new. FindsFit seg old new c.args.amount c.first_fit.result) c.args.self.now.rows c.deref_mut.result.now c.first_fit.new.rows c.deref_mut.ensures.value (as_many_shown seg c.deref_mut.result.now c.first_fit.new.rows h.segments) h

pub first_fit-requires-clause-few : goal.first_fit-requires-clause-few
first_fit-requires-clause-few g c = subst (λ rows. length rows ≤ max_segments) (sym c.deref_mut.ensures.value) c.args.self.now.few

pub first_fit-requires-clause-bounded : goal.first_fit-requires-clause-bounded
first_fit-requires-clause-bounded g c = subst (HasBounds g.S.Segment) (sym c.deref_mut.ensures.value) c.args.self.now.bounded

pub invariant_of-self : goal.invariant_of-self
invariant_of-self g c =
    let seg = g.S.Segment in
    let b = c.args.self.now in
    let is = c.deref_mut.ensures.value in
    let h = c.first_fit.ensures in
    let many = as_many_shown seg c.deref_mut.result.now c.first_fit.new.rows h.found.segments in
    record {
      few = others_few seg b.rows _ _ _ is many b.few;
      bounded = others_bounded seg b.rows _ _ is many (λ _. h.bounded) b.bounded;
    }
