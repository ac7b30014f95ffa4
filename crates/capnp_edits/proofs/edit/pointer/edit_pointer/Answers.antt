use Rattle.std.proofs.Common.{rules, None, sym, subst}
use Rattle.capnp_edits.specs.declared.edit.path.PathEnd.TheVariants.{Pointer as AtPointer}
use Rattle.capnp_edits.specs.Edits.{refusal_of}
use Rattle.capnp_edits.specs.Steps.{IsDoneAt}
use Rattle.capnp_edits.proofs.Copied.{root_done}
use Rattle.capnp_edits.proofs.Filled.{change_done, nothing_changed}
use Rattle.capnp_edits.proofs.edit.pointer.edit_pointer.Goals as goal

pub returns-in-Make : goal.returns-in-Make
returns-in-Make g c =
    let view = g.A.BuilderArena.view in
    let old = view c.args.arena.now in
    let made = subst (λ task. IsDoneAt old (view c.init_object.new.pointer.arena.now) (AtPointer c.args.place) task (refusal_of c.init_object.result)) (sym c.in-Make.is) c.init_object.ensures.done in
    subst (λ (a : g.row.A.Denot). IsDoneAt old (view a) (AtPointer c.args.place) c.args.task (refusal_of c.init_object.result)) (search rules) made

pub returns-in-Point : goal.returns-in-Point
returns-in-Point g c =
    let view = g.A.BuilderArena.view in
    let old = view c.args.arena.now in
    let pointed = subst (λ task. IsDoneAt old (view c.set_capability_or_null.new.pointer.arena.now) (AtPointer c.args.place) task None) (sym c.in-Point.is) c.set_capability_or_null.ensures.done in
    subst (λ (a : g.row.A.Denot). IsDoneAt old (view a) (AtPointer c.args.place) c.args.task None) (search rules) pointed

pub returns-in-Write : goal.returns-in-Write
returns-in-Write g c = subst (λ task. IsDoneAt (g.A.BuilderArena.view c.args.arena.now) (g.A.BuilderArena.view c.edit_part.new.arena) (AtPointer c.args.place) task (refusal_of c.edit_part.result)) (sym c.in-Write.is) c.edit_part.ensures

pub returns-in-Search : goal.returns-in-Search
returns-in-Search g c =
    let view = g.A.BuilderArena.view in
    let old = view c.args.arena.now in
    let sought = subst (λ task. IsDoneAt old (view c.find_value.new.pointer.arena.now) (AtPointer c.args.place) task (refusal_of c.find_value.result)) (sym c.in-Search.is) c.find_value.ensures.done in
    subst (λ (a : g.row.A.Denot). IsDoneAt old (view a) (AtPointer c.args.place) c.args.task (refusal_of c.find_value.result)) (search rules) sought

pub returns-in-CopyRoot : goal.returns-in-CopyRoot
returns-in-CopyRoot g c =
    let view = g.A.BuilderArena.view in
    let old = view c.args.arena.now in
    let new = view c.copy_root.new.pointer.arena.now in
    let e = c.copy_root.ensures in
    let copied = subst (λ task. IsDoneAt old new (AtPointer c.args.place) task (refusal_of c.copy_root.result)) (sym c.in-CopyRoot.is)
    (root_done c.copy_root.result old new c.args.place c.in-CopyRoot.copying e.done e.counted e.taken e.fits) in
    subst (λ (a : g.row.A.Denot). IsDoneAt old (view a) (AtPointer c.args.place) c.args.task (refusal_of c.copy_root.result)) (search rules) copied

pub returns-in-Some : goal.returns-in-Some
returns-in-Some g c =
    let old = g.A.BuilderArena.view c.args.arena.now in
    let new = g.A.BuilderArena.view c.change_struct.new.arena in
    subst (λ task. IsDoneAt old new (AtPointer c.args.place) task (refusal_of c.change_struct.result)) (sym c.in-InStruct.is)
    (change_done old new c.args.place c.in-InStruct.change (refusal_of c.change_struct.result) c.in-Some.parent c.in-Some.ensures.found c.change_struct.ensures)

pub returns-in-None : goal.returns-in-None
returns-in-None g c =
    let old = g.A.BuilderArena.view c.args.arena.now in
    subst (λ task. IsDoneAt old old (AtPointer c.args.place) task _) (sym c.in-InStruct.is) (nothing_changed old c.args.place c.in-InStruct.change c.in-None.ensures.found)
