use Rattle.std.proofs.Common.{◌≡◌, true, Some, None, IfSome, sym, ap, ◌∙◌, subst, map}
use Rattle.std.proofs.lemmas.Bool.{false≢true}
use Rattle.capnp_format.specs.Tree.{Tree}
use Rattle.capnp_allocation.specs.Stored.{IsStored}
use Rattle.capnp_edits.specs.declared.edit.path.PathEnd.TheVariants.{Pointer as AtPointer, Element as AtElement}
use Rattle.capnp_edits.specs.declared.edit.tasks.Task.TheVariants.{InStruct}
use Rattle.capnp_edits.specs.Edits.{refusal_of}
use Rattle.capnp_edits.specs.Paths.{IsPathFound, step_of}
use Rattle.capnp_edits.specs.Tasks.{is_in_range, task_of}
use Rattle.capnp_words.specs.declared.error.ErrorKind.TheVariants.{NoSuchPlace}
use Rattle.capnp_edits.specs.Steps.{DoesThere}
use Rattle.capnp_edits.proofs.Applied.{applied_pointer, applied_nowhere, element_kept, none_applied, out_applied}
use Rattle.capnp_edits.proofs.Filled.{element_applied}
use Rattle.capnp_edits.proofs.Tasks.{task_in_range}
use Rattle.capnp_edits.proofs.Stepped.{step_at, nothing_done, rootless_done}
use Rattle.capnp_edits.proofs.edit.apply.Goals as goal

pub returns-then-not-has_words : goal.returns-then-not-has_words
returns-then-not-has_words g c =
    rootless_done (g.A.BuilderArena.view c.args.arena.now) c.args.edit.now (λ some. false≢true (sym c.if-not-has_words.true ∙ c.has_words.ensures.enough.1 some))

pub returns-in_default : goal.returns-in_default
returns-in_default g c = nothing_done (g.A.BuilderArena.view c.args.arena.now) c.args.edit.now None (applied_nowhere _ c.args.edit.now c.in_default.ensures.found) c.in_default.ensures.found tt

pub returns-in_default-task_of : goal.returns-in_default-task_of
returns-in_default-task_of g c =
    let v = g.A.BuilderArena.view c.args.arena.now in
    nothing_done v c.args.edit.now (Some c.in-Some.end) (out_applied v.words c.args.edit.now (sym c.in_default-task_of.ensures)) c.in-Some.ensures.found
    (subst (λ o. IfSome o (λ task. DoesThere v v c.in-Some.end task (Some NoSuchPlace))) c.in_default-task_of.ensures tt)

pub returns-in-Pointer : goal.returns-in-Pointer
returns-in-Pointer g c =
    let old = g.A.BuilderArena.view c.args.arena.now in
    let new = g.A.BuilderArena.view c.edit_pointer.new.arena in
    let e = c.args.edit.now in
    let there = c.in-Pointer.place in
    let task = c.in-Some-task_of.task in
    let done = c.edit_pointer.ensures in
    let is : task_of e.op ≡ Some task = sym c.in-Some-task_of.ensures in
    let leads : (t : Tree) → IsStored old.words 0 0 t → IsPathFound old.words (record { segment = 0; word = 0 }) t (map step_of e.path.now) (Some (AtPointer there)) =
    λ t stored. subst (IsPathFound old.words (record { segment = 0; word = 0 }) t (map step_of e.path.now)) (ap Some c.in-Pointer.is) (c.in-Some.ensures.found t stored) in
    step_at old new e (AtPointer there) task (refusal_of c.edit_pointer.result) is (c.has_words.ensures.enough.0 c.if-not-has_words.false) (applied_pointer old.words new.words e there task _ is leads done.done) done.counted leads
    done.fits done.nowhere done.ends done.done

pub returns-in-InStruct : goal.returns-in-InStruct
returns-in-InStruct g c =
    let old = g.A.BuilderArena.view c.args.arena.now in
    let new = g.A.BuilderArena.view c.change_struct.new.arena in
    let e = c.args.edit.now in
    let there = c.in-Element.parent in
    let change = c.in-InStruct.change in
    let done = c.change_struct.ensures in
    let is : task_of e.op ≡ Some (InStruct change) = sym c.in-Some-task_of.ensures ∙ ap Some c.in-InStruct.is in
    let leads : (t : Tree) → IsStored old.words 0 0 t → IsPathFound old.words (record { segment = 0; word = 0 }) t (map step_of e.path.now) (Some (AtElement there)) =
    λ t stored. subst (IsPathFound old.words (record { segment = 0; word = 0 }) t (map step_of e.path.now)) (ap Some c.in-Element.is) (c.in-Some.ensures.found t stored) in
    step_at old new e (AtElement there) (InStruct change) (refusal_of c.change_struct.result) is (c.has_words.ensures.enough.0 c.if-not-has_words.false) (element_applied old new e there change _ is leads done.done) done.counted leads
    done.fits done.nowhere done.ends done.done

pub returns-in_default-task : goal.returns-in_default-task
returns-in_default-task g c =
    let v = g.A.BuilderArena.view c.args.arena.now in
    let e = c.args.edit.now in
    let there = c.in-Element.parent in
    let leads : (t : Tree) → IsStored v.words 0 0 t → IsPathFound v.words (record { segment = 0; word = 0 }) t (map step_of e.path.now) (Some (AtElement there)) =
    λ t stored. subst (IsPathFound v.words (record { segment = 0; word = 0 }) t (map step_of e.path.now)) (ap Some c.in-Element.is) (c.in-Some.ensures.found t stored) in
    nothing_done v e (Some (AtElement there)) (none_applied v.words e there c.in-Some-task_of.task (sym c.in-Some-task_of.ensures) c.in_default-task.not-InStruct leads) leads
    (subst (λ o. IfSome o (λ task. DoesThere v v (AtElement there) task (Some NoSuchPlace))) c.in-Some-task_of.ensures
    (element_kept v there c.in-Some-task_of.task (Some NoSuchPlace) c.in_default-task.not-InStruct))

pub edit_pointer-requires-clause-range : goal.edit_pointer-requires-clause-range
edit_pointer-requires-clause-range g c = task_in_range c.args.edit.now.op c.in-Some-task_of.task (sym c.in-Some-task_of.ensures)

pub change_struct-requires-clause-range : goal.change_struct-requires-clause-range
change_struct-requires-clause-range g c = subst (λ task. is_in_range task ≡ true) c.in-InStruct.is (task_in_range c.args.edit.now.op c.in-Some-task_of.task (sym c.in-Some-task_of.ensures))
