use Rattle.std.proofs.Common.{◌≡◌, true, sym, subst}
use Rattle.capnp_edits.specs.declared.edit.path.PathEnd.TheVariants.{Pointer as AtPointer}
use Rattle.capnp_edits.specs.declared.edit.tasks.Task.TheVariants.{Write}
use Rattle.capnp_edits.specs.declared.edit.tasks.Part.TheVariants.{ListElement, TextByte, DataByte}
use Rattle.capnp_edits.specs.Tasks.{is_in_range, is_number}
use Rattle.capnp_edits.specs.Edits.{refusal_of}
use Rattle.capnp_edits.specs.Steps.{IsDoneAt}
use Rattle.capnp_edits.proofs.Applied.{part_done}
use Rattle.capnp_edits.proofs.Contents.{element_does, text_does, data_does}
use Rattle.capnp_edits.proofs.Taken.{element_lengths, byte_lengths}
use Rattle.capnp_edits.proofs.edit.elements.edit_part.Goals as goal

pub set_element-requires-clause-number : goal.set_element-requires-clause-number
set_element-requires-clause-number g c = subst (λ part. is_in_range (Write part) ≡ true) c.in-ListElement.is c.requires.range

pub returns-in-ListElement : goal.returns-in-ListElement
returns-in-ListElement g c =
    let old = g.A.BuilderArena.view c.args.arena.now in
    let new = g.A.BuilderArena.view c.set_element.new.arena in
    let n = c.in-ListElement.number in
    let r = refusal_of c.set_element.result in
    let range : is_number n.size n.value ≡ true = subst (λ part. is_in_range (Write part) ≡ true) c.in-ListElement.is c.requires.range in
    let e = c.set_element.ensures in
    subst (λ part. IsDoneAt old new (AtPointer c.args.place) (Write part) r) (sym c.in-ListElement.is)
    (part_done c.set_element.result old new c.args.place (ListElement n) (element_does old.words new.words c.args.place n r c.get_list-found.result c.requires.there range c.get_list-found.ensures.found e.put)
    (element_lengths _ _ _ _ _ e.put) e.only.limits e.named e.only.kept)

pub returns-in-TextByte : goal.returns-in-TextByte
returns-in-TextByte g c =
    let old = g.A.BuilderArena.view c.args.arena.now in
    let new = g.A.BuilderArena.view c.write_byte.new.arena in
    let i = c.in-TextByte.index in
    let b = c.in-TextByte.value in
    let r = refusal_of c.write_byte.result in
    let e = c.write_byte.ensures in
    subst (λ part. IsDoneAt old new (AtPointer c.args.place) (Write part) r) (sym c.in-TextByte.is)
    (part_done c.write_byte.result old new c.args.place (TextByte i b) (text_does old.words new.words c.args.place i b r c.get_text-found.result c.requires.there e.byte c.get_text-found.ensures.found e.put) (byte_lengths _ _ _ _ _ _ e.put) e.only.limits e.named e.only.kept)

pub returns-in-DataByte : goal.returns-in-DataByte
returns-in-DataByte g c =
    let old = g.A.BuilderArena.view c.args.arena.now in
    let new = g.A.BuilderArena.view c.write_byte-in-DataByte.new.arena in
    let i = c.in-DataByte.index in
    let b = c.in-DataByte.value in
    let r = refusal_of c.write_byte-in-DataByte.result in
    let e = c.write_byte-in-DataByte.ensures in
    subst (λ part. IsDoneAt old new (AtPointer c.args.place) (Write part) r) (sym c.in-DataByte.is)
    (part_done c.write_byte-in-DataByte.result old new c.args.place (DataByte i b) (data_does old.words new.words c.args.place i b r c.get_data-found.result c.requires.there e.byte c.get_data-found.ensures.found e.put) (byte_lengths _ _ _ _ _ _ e.put) e.only.limits e.named e.only.kept)
