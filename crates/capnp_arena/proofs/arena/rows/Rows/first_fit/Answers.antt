use Rattle.capnp_arena.proofs.ItemsLemmas.{as_many_shown, others_shown}
use Rattle.std.proofs.Common.{◌+◌, ◌≤◌, ℕ, Bool, true, false, length, refl, sym, ◌∙◌, subst, arith}
use Rattle.std.proofs.lemmas.Bool.{false≢true}
use Rattle.capnp_arena.specs.Bounds.{HasBounds, view_of_rows}
use Rattle.capnp_arena.specs.Row.{capacity, most_others}
use Rattle.capnp_arena_traits.specs.Allocations.{max_segments}
use Rattle.capnp_arena_traits.specs.Taking.{IsFirstFit, IsFull}
use Rattle.capnp_arena.proofs.ListedLemmas.{fit_first, fit_other, full_none, full_others, others_kept, others_few, others_bounded}
use Rattle.capnp_arena.proofs.arena.rows.Rows.first_fit.Goals as goal

pub returns-then-has_room : goal.returns-then-has_room
returns-then-has_room g c =
    let b = c.args.self.now in
    record {
      fit = fit_first g.S.Segment b.there b.first b.others.items c.args.amount c.if-self.true (c.has_room.ensures.0 c.if-has_room.true);
      full = λ none. absurd (false≢true (sym none));
      segments = refl;
      capacity = refl;
    }

pub returns-in-Some : goal.returns-in-Some
returns-in-Some g c =
    let seg = g.S.Segment in
    let b = c.args.self.now in
    let is = c.deref_mut.ensures.value in
    let h = c.first_fit_by_bounds.ensures.found in
    let many = as_many_shown seg c.deref_mut.result.now c.first_fit_by_bounds.new.rows h.segments in
    let none : b.first.used + c.args.amount ≤ capacity seg b.first → ⊥ = λ fits. false≢true (sym c.if-has_room.false ∙ c.has_room.ensures.1 fits) in
    record {
      fit = fit_other seg b.there b.first b.others.items c.args.amount c.in-Some.k c.if-self.true none (subst (λ rows. IsFirstFit (view_of_rows seg rows) c.args.amount c.in-Some.k) is c.in-Some.ensures.found.fit);
      full = λ none_found. absurd (false≢true (sym none_found));
      segments = others_shown seg b.there b.first b.others c.deref_mut.result.now c.first_fit_by_bounds.new.rows is many h.segments;
      capacity = others_kept seg b.there b.first b.others _ _ is many h.capacity;
    }

pub returns-in-None : goal.returns-in-None
returns-in-None g c =
    let seg = g.S.Segment in
    let b = c.args.self.now in
    let is = c.deref_mut.ensures.value in
    let h = c.first_fit_by_bounds.ensures.found in
    let many = as_many_shown seg c.deref_mut.result.now c.first_fit_by_bounds.new.rows h.segments in
    let none : b.first.used + c.args.amount ≤ capacity seg b.first → ⊥ = λ fits. false≢true (sym c.if-has_room.false ∙ c.has_room.ensures.1 fits) in
    record {
      fit = tt;
      full = λ _. full_others seg b.there b.first b.others.items c.args.amount none (subst (λ rows. IsFull (view_of_rows seg rows) c.args.amount) is (c.in-None.ensures.found.full refl));
      segments = others_shown seg b.there b.first b.others c.deref_mut.result.now c.first_fit_by_bounds.new.rows is many h.segments;
      capacity = others_kept seg b.there b.first b.others _ _ is many h.capacity;
    }

pub returns-else-self : goal.returns-else-self
returns-else-self g c =
    let b = c.args.self.now in
    record {
      fit = tt;
      full = λ _. full_none g.S.Segment b.there b.first b.others.items c.args.amount c.if-self.false;
      segments = refl;
      capacity = refl;
    }

-- The others that were lent are those of the rows.
few_others : (t : Bool) (n : ℕ) → n ≤ most_others t → n ≤ max_segments
few_others false n few = omega arith
few_others true n few = omega arith

pub first_fit_by_bounds-requires-clause-few : goal.first_fit_by_bounds-requires-clause-few
first_fit_by_bounds-requires-clause-few g c =
    let b = c.args.self.now in
    subst (λ rows. length rows ≤ max_segments) (sym c.deref_mut.ensures.value) (few_others b.there (length b.others.items) b.few)

pub first_fit_by_bounds-requires-clause-bounded : goal.first_fit_by_bounds-requires-clause-bounded
first_fit_by_bounds-requires-clause-bounded g c = subst (HasBounds g.S.Segment) (sym c.deref_mut.ensures.value) c.args.self.now.bounded

pub invariant_of-self : goal.invariant_of-self
invariant_of-self g c =
    let seg = g.S.Segment in
    let b = c.args.self.now in
    let is = c.deref_mut.ensures.value in
    let h = c.first_fit_by_bounds.ensures in
    let many = as_many_shown seg c.deref_mut.result.now c.first_fit_by_bounds.new.rows h.found.segments in
    record {
      few = others_few seg b.others _ _ _ is many b.few;
      bounded = others_bounded seg b.others _ _ is many (λ _. h.bounded) b.bounded;
    }
