use Rattle.std.proofs.Common.{rules, ◌≡◌, inl, inr, true, false, None, refl, sym, ap, ◌∙◌, subst}
use Rattle.std.proofs.lemmas.Bool.{cases_lt}
use Rattle.std.proofs.lemmas.Result.{err_from_is_err_and}
use Rattle.capnp_arena_traits.specs.View.{View}
use Rattle.capnp_edits.specs.Edits.{PutsElement, element_put, element_past, list_denied}
use Rattle.capnp_edits.proofs.Contents.{is_found}
use Rattle.capnp_edits.proofs.edit.elements.set_element.Goals as goal

pub returns-in-Some-clause-put : goal.returns-in-Some-clause-put
returns-in-Some-clause-put g c =
    let view = g.A.BuilderArena.view in
    let old = (view c.args.arena.now).words in
    let put : PutsElement old (view c.put_element.new.list.arena.now).words c.args.found c.args.number None =
    element_put c.in-Some.list (is_found c.args.found c.in_ok-list.field-0 c.in-Some.list c.in_ok-list.was c.in-Some.is) (c.has_element.ensures.there c.if-has_element.true) refl
    (rw c.list_place-place.ensures at (ap (λ (v : View). v.words) c.put_element.ensures.written)) in
    subst (λ (a : g.row.A.Denot). PutsElement old (view a).words c.args.found c.args.number None) (search rules) put

-- The list of a value is inside the message, and its elements are wide enough.
pub returns-in_default-clause-put : goal.returns-in_default-clause-put
returns-in_default-clause-put g c =
    element_past c.in-Some.list (is_found c.args.found c.in_ok-list.field-0 c.in-Some.list c.in_ok-list.was c.in-Some.is)
    (λ lies wide. elim (cases_lt c.args.number.index c.in-Some.list.count) [
      | inl less ↦ absurd (let e : false ≡ true = sym c.if-has_element.false ∙ c.has_element.ensures.past lies wide less in cc)
      | inr past ↦ past
    ]) refl refl

pub returns-in_err-list-clause-put : goal.returns-in_err-list-clause-put
returns-in_err-list-clause-put g c =
    let p = err_from_is_err_and c.from_residual.result c.from_residual.ensures.1 in
    rw (p.1, p.2) (list_denied _ c.in_err-list.was refl refl)
