use Rattle.std.proofs.Common.{◌≡◌, inl, false, refl, rules, sym, subst}
use Rattle.std.proofs.lemmas.Result.{err_from_is_err_and}
use Rattle.capnp_readers.specs.declared.readers.struct_reader.StructPlace.{StructPlace}
use Rattle.capnp_edits.specs.declared.edit.copying.Wanted.TheVariants.{Struct as AStruct}
use Rattle.capnp_edits.specs.Edits.{refusal_of, refusals_after}
use Rattle.capnp_edits.specs.Steps.{FillsAt}
use Rattle.capnp_edits.proofs.Copied.{unread_counted, struct_unread}
use Rattle.capnp_edits.proofs.Filled.{ContentFitsBehind, FillsPlace, fills_struct, fill_done, fill_counted, fill_nothing, fill_unread, fill_fits}
use Rattle.capnp_edits.proofs.edit.filling.copy_content.Goals as goal

pub returns-in_err-root-clause-filled : goal.returns-in_err-root-clause-filled
returns-in_err-root-clause-filled g c =
    let p = err_from_is_err_and c.from_residual.result c.from_residual.ensures.1 in
    rw (p.1, p.2) (inl (inl c.in_err-root.ensures.refused, refl))

pub returns-in_err-root-clause-counted : goal.returns-in_err-root-clause-counted
returns-in_err-root-clause-counted g c =
    let p = err_from_is_err_and c.from_residual.result c.from_residual.ensures.1 in
    rw (p.1, p.2) (unread_counted c.args.source AStruct _ _ (inl c.in_err-root.ensures.refused))

pub returns-in_err-root-clause-fits : goal.returns-in_err-root-clause-fits
returns-in_err-root-clause-fits g c = λ fits. absurd (fill_unread (g.A.BuilderArena.view c.args.arena.now) c.args.parent.segment c.args.source c.args.parent.size.pointers _ (inl c.in_err-root.ensures.refused) (fits c.args.parent refl))

pub returns-in_err-value-clause-filled : goal.returns-in_err-value-clause-filled
returns-in_err-value-clause-filled g c =
    let p = err_from_is_err_and c.from_residual-in_err-value.result c.from_residual-in_err-value.ensures.1 in
    rw (p.1, p.2) (inl (struct_unread _ (record { source = c.args.source; wanted = AStruct; canonicalize = false }) c.in_ok-root.root _ _ _ refl c.in_ok-root.ensures.found c.in_err-value.ensures.refused, refl))

pub returns-in_err-value-clause-counted : goal.returns-in_err-value-clause-counted
returns-in_err-value-clause-counted g c =
    let p = err_from_is_err_and c.from_residual-in_err-value.result c.from_residual-in_err-value.ensures.1 in
    rw (p.1, p.2) (unread_counted c.args.source AStruct _ _ (struct_unread _ (record { source = c.args.source; wanted = AStruct; canonicalize = false }) c.in_ok-root.root _ _ _ refl c.in_ok-root.ensures.found c.in_err-value.ensures.refused))

pub returns-in-Some-clause-filled : goal.returns-in-Some-clause-filled
returns-in-Some-clause-filled g c =
    let old = g.A.BuilderArena.view c.args.arena.now in
    let new = g.A.BuilderArena.view c.copy_content_from.new.self.arena.now in
    let value = c.in_ok-value.value in
    let filled = fills_struct (subst (λ p. FillsPlace old new p c.args.source (refusal_of c.copy_content_from.result)) c.in-Some.ensures.place
    (fill_done c.copy_content_from.result _ c.args.source c.in_ok-root.root value _ _ _ old new c.in-Some.place c.in_ok-root.ensures.found value.content_is.1 c.in_ok-value.ensures.read c.copy_content_from.ensures.copied c.copy_content_from.ensures.refused c.copy_content_from.ensures.taken)) in
    subst (λ (a : g.row.A.Denot). FillsAt old (g.A.BuilderArena.view a) c.args.parent c.args.source (refusal_of c.copy_content_from.result)) (search rules) filled

pub returns-in-Some-clause-counted : goal.returns-in-Some-clause-counted
returns-in-Some-clause-counted g c =
    let old = g.A.BuilderArena.view c.args.arena.now in
    let counted = fill_counted c.copy_content_from.result _ c.in_ok-value.value _ _ old (g.A.BuilderArena.view c.copy_content_from.new.self.arena.now) c.in-Some.place c.copy_content_from.ensures.copied c.copy_content_from.ensures.refused in
    subst (λ (a : g.row.A.Denot). (g.A.BuilderArena.view a).refusals ≡ refusals_after (refusal_of c.copy_content_from.result) old.refusals) (search rules) counted

-- Copying over a struct without words changes nothing.
pub returns-in-None-clause-filled : goal.returns-in-None-clause-filled
returns-in-None-clause-filled g c =
    let value = c.in_ok-value.value in
    fills_struct (fill_nothing _ c.args.source c.in_ok-root.root value _ _ (g.A.BuilderArena.view c.args.arena.now) c.args.parent c.in_ok-root.ensures.found value.content_is.1 c.in_ok-value.ensures.read (c.in-None.ensures.empty refl))

pub returns-in_err-value-clause-fits : goal.returns-in_err-value-clause-fits
returns-in_err-value-clause-fits g c = λ fits. absurd (fill_unread (g.A.BuilderArena.view c.args.arena.now) c.args.parent.segment c.args.source c.args.parent.size.pointers _ (struct_unread _ (record { source = c.args.source; wanted = AStruct; canonicalize = false }) c.in_ok-root.root _ _ _ refl c.in_ok-root.ensures.found c.in_err-value.ensures.refused) (fits c.args.parent refl))

pub returns-in-Some-clause-fits : goal.returns-in-Some-clause-fits
returns-in-Some-clause-fits g c = λ fits.
    (let old = g.A.BuilderArena.view c.args.arena.now in
    let value = c.in_ok-value.value in
    let there : ContentFitsBehind old c.in-Some.place.segment c.args.source c.in-Some.place.pointers = subst (λ (p : StructPlace). ContentFitsBehind old p.segment c.args.source p.pointers) (sym c.in-Some.ensures.place) (fits c.args.parent refl) in
    c.copy_content_from.ensures.fits (fill_fits _ c.args.source c.in_ok-root.root value _ _ c.copy_content_from.new.lim old (g.A.BuilderArena.view c.copy_content_from.new.self.arena.now) c.in-Some.place c.in_ok-root.ensures.found value.content_is.1 c.in_ok-value.ensures.read there))
