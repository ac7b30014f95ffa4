use Rattle.std.proofs.Common.{◌≡◌, true, sym, subst}
use Rattle.capnp_edits.specs.declared.edit.path.PathEnd.TheVariants.{Element as AtElement}
use Rattle.capnp_edits.specs.declared.edit.tasks.Task.TheVariants.{InStruct}
use Rattle.capnp_edits.specs.Tasks.{is_in_range}
use Rattle.capnp_edits.specs.Edits.{refusal_of}
use Rattle.capnp_edits.specs.Steps.{IsDoneAt}
use Rattle.capnp_edits.proofs.Filled.{bits_changed, content_changed}
use Rattle.capnp_edits.proofs.edit.filling.change_struct.Goals as goal

pub put_field-requires-clause-range : goal.put_field-requires-clause-range
put_field-requires-clause-range g c = subst (λ change. is_in_range (InStruct change) ≡ true) c.in-Bits.is c.requires.range

pub returns-in-Bits : goal.returns-in-Bits
returns-in-Bits g c =
    let old = g.A.BuilderArena.view c.args.arena.now in
    let new = g.A.BuilderArena.view c.put_field.new.arena in
    let e = c.put_field.ensures in
    subst (λ change. IsDoneAt old new (AtElement c.args.parent) (InStruct change) (refusal_of c.put_field.result)) (sym c.in-Bits.is)
    (bits_changed c.put_field.result old new c.args.parent c.in-Bits.number e.put e.only.limits e.named e.only.kept)

pub returns-in-Content : goal.returns-in-Content
returns-in-Content g c =
    let old = g.A.BuilderArena.view c.args.arena.now in
    let new = g.A.BuilderArena.view c.copy_content.new.arena in
    let e = c.copy_content.ensures in
    subst (λ change. IsDoneAt old new (AtElement c.args.parent) (InStruct change) (refusal_of c.copy_content.result)) (sym c.in-Content.is)
    (content_changed c.copy_content.result old new c.args.parent c.in-Content.source e.filled e.counted e.fits)
