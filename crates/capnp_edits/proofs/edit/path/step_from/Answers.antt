use Rattle.std.proofs.Common.{Ok, sym, ap, ◌∙◌}
use Rattle.capnp_edits.proofs.Steps.{struct_child, list_element}
use Rattle.capnp_edits.proofs.edit.path.step_from.Goals as goal

-- The step leads on from the struct, or the list, that the pointer leads to.
pub returns-in-Some-clause-steps : goal.returns-in-Some-clause-steps
returns-in-Some-clause-steps g c =
    let S = (g.A.BuilderArena.view c.args.arena.now).words in
    let place = c.in-Pointer-Child.place in
    rw c.in-Pointer-Child.is-0 (rw c.in-Pointer-Child.is-1
    (λ t stored. struct_child S place.segment place.word c.in-Pointer-Child.i t c.in-Some.parent c.child_of.result (c.in-Some.ensures.found t stored) stored c.child_of.ensures.exactly))

pub returns-in-Ok-Some-clause-steps : goal.returns-in-Ok-Some-clause-steps
returns-in-Ok-Some-clause-steps g c =
    let S = (g.A.BuilderArena.view c.args.arena.now).words in
    let place = c.in-Pointer-Element.place in
    rw c.in-Pointer-Element.is-0 (rw c.in-Pointer-Element.is-1
    (λ t stored. list_element S place.segment place.word c.in-Pointer-Element.i t c.in-Ok-Some.list c.element_of.result (ap Ok (sym c.in-Ok-Some.field-0-is) ∙ c.in-Ok-Some.ensures.found t stored) stored c.if-i-list.true c.element_of.ensures.exactly))
