use Rattle.std.proofs.Common.{ℕ, ◌+◌, ◌≤◌, IfOk, IfErr, refl, sym, rules, arith}
use Rattle.std.proofs.lemmas.Int.{to_z-of_z}
use mir.Syntax.{w32}
use Rattle.capnp_format.specs.Bytes.{words_of}
use Rattle.capnp_format.specs.Numbers.{words_for, unpacked}
use Rattle.capnp_format.specs.Tree.{Tree, Null, Flat}
use Rattle.capnp_pointers.specs.Reading.{source_start}
use Rattle.capnp_words.specs.Sizes.{size_number}
use Rattle.capnp_copies.specs.Changes.{CopyCall, copy_call, MakesCopy, StopsCopy}
use Rattle.capnp_copies.proofs.Cleared.{place_left, refused_clear, ends_clear, copies_or_clears}
use Rattle.capnp_copies.specs.Forms.{form_of}
use Rattle.capnp_copies.specs.Growth.{CopiesOrLeaves, MakesAtMost, TakesAtMost}
use Rattle.capnp_copies.specs.Originals.{Original, numbers_original, FitsListPointer}
use Rattle.capnp_copies.proofs.FilledValues.{FlatOutcome}
use Rattle.capnp_copies.proofs.FlatRead.{word_count-flat}
use Rattle.capnp_copies.proofs.Growth.{none_itself, made_none, nothing_for_list, numbers_take, list_until_more}
use Rattle.capnp_builders.specs.ListValues.{list_read}
use Rattle.capnp_builders.proofs.OneReading.{list_apart}
use Rattle.capnp_builders.proofs.ListValues.{first_read, too_long, number_size, few_numbers, numbers_held, numbers_copied, numbers_stop}
use Rattle.capnp_copies.proofs.Originals.{pointers_listed, structs_listed, numbers_listed, exceeding}
use Rattle.capnp_builders.proofs.copy.list_value.copy_list.Goals as goal
use Rattle.capnp_allocation.specs.Makes.{call_at}

-- A list that is too long.
pub returns-then-not-fits_list_pointer : goal.returns-then-not-fits_list_pointer
returns-then-not-fits_list_pointer g c =
    let v = g.A.BuilderArena.view c.args.arena.now in
    refused_clear (list_apart c.args.value.element_size c.args.value.struct_size c.args.value.count (first_read g.B.ReaderArena c.args.value) (form_of c.args.canonicalize) c.args.lim.now c.args.lim.now)
    (too_long c.args.value.element_size c.args.value.struct_size c.args.value.count (first_read g.B.ReaderArena c.args.value) c.requires.place c.requires.null (λ fits. (let e = c.fits_list_pointer.ensures.1 fits in cc (e, c.if-not-fits_list_pointer.true))))
    (nothing_for_list c.args.value.element_size c.args.value.struct_size c.args.value.count (first_read g.B.ReaderArena c.args.value) (form_of c.args.canonicalize) c.args.lim.now (MakesAtMost c.args.to.segment v v) (made_none (none_itself v)))
    (λ j large. (sym (exceeding c.args.value.element_size c.args.value.struct_size c.args.value.count (first_read g.B.ReaderArena c.args.value) (form_of c.args.canonicalize) j large).1, refl))

-- A list of numbers.

pub copy_primitive_list-requires : goal.copy_primitive_list-requires
copy_primitive_list-requires g c =
    let value = c.args.value in
    let width : ℕ = value.struct_size.data_words + value.struct_size.pointers in
    let flat : size_number value.element_size ≤ 5 = number_size value.element_size c.in_default.not-Pointer c.in_default.not-InlineComposite in
    let fits : FitsListPointer value.element_size value.count width = c.fits_list_pointer.ensures.0 (search rules) in
    let held = numbers_held (source_start g.B.ReaderArena value.source).segments value.start value.element_size value.count width value.content.now flat value.held value.content_is value.inside in
    record { place = c.requires.place; flat = flat; few = few_numbers value.element_size value.count width flat fits; whole = held.whole; all = held.counts }

pub returns-in_default : goal.returns-in_default
returns-in_default g c =
    let value = c.args.value in
    let size : ℕ = size_number value.element_size in
    let width : ℕ = value.struct_size.data_words + value.struct_size.pointers in
    let flat : size ≤ 5 = number_size value.element_size c.in_default.not-Pointer c.in_default.not-InlineComposite in
    let held = numbers_held (source_start g.B.ReaderArena value.source).segments value.start value.element_size value.count width value.content.now flat value.held value.content_is value.inside in
    let outcome : FlatOutcome c.copy_primitive_list.result c.args.to.segment c.args.to.at (words_for size value.count) (g.A.BuilderArena.view c.args.arena.now) (g.A.BuilderArena.view c.copy_primitive_list.new.arena) (Flat size (unpacked size value.count (words_of value.content.now))) =
    record { copied = c.copy_primitive_list.ensures.copied; granted = c.copy_primitive_list.ensures.granted; refused = c.copy_primitive_list.ensures.refused; kept = c.copy_primitive_list.ensures.kept; memory = c.copy_primitive_list.ensures.memory; stands = c.copy_primitive_list.ensures.stands; fits = λ room. c.copy_primitive_list.ensures.fits (omega (arith, room, word_count-flat size value.count (words_of value.content.now))) } in
    let call : CopyCall = copy_call (form_of c.args.canonicalize) (call_at c.args.to.segment c.args.to.at (g.A.BuilderArena.view c.args.arena.now) (g.A.BuilderArena.view c.copy_primitive_list.new.arena)) c.args.lim.now c.args.lim.now in
    let listed : (P : Original Tree → Type 0) → P (numbers_original value.element_size value.count (first_read g.B.ReaderArena value)) → P (list_read g.B.ReaderArena value) =
    λ P h. numbers_listed value.element_size value.struct_size value.count (first_read g.B.ReaderArena value) P c.in_default.not-Pointer c.in_default.not-InlineComposite h in
    ends_clear c.copy_primitive_list.result (list_apart c.args.value.element_size c.args.value.struct_size c.args.value.count (first_read g.B.ReaderArena c.args.value) (form_of c.args.canonicalize) c.args.lim.now c.args.lim.now)
    (λ k large. (exceeding c.args.value.element_size c.args.value.struct_size c.args.value.count (first_read g.B.ReaderArena c.args.value) (form_of c.args.canonicalize) k large).0 (c.fits_list_pointer.ensures.0 (search rules)))
    (listed (λ o. IfOk c.copy_primitive_list.result (λ _. MakesCopy o call)) (numbers_copied value.element_size value.count (first_read g.B.ReaderArena value) call value.content.now c.copy_primitive_list.result held.stand refl outcome))
    (listed (λ o. IfErr c.copy_primitive_list.result (StopsCopy o call Null)) (numbers_stop value.element_size value.count (first_read g.B.ReaderArena value) call value.content.now c.copy_primitive_list.result held.stand (c.requires.place, c.requires.null) refl outcome))
    (listed (λ o. TakesAtMost c.copy_primitive_list.result o call) (numbers_take c.copy_primitive_list.result value.element_size value.count (first_read g.B.ReaderArena value) (form_of c.args.canonicalize) c.args.to.segment c.args.to.at (g.A.BuilderArena.view c.args.arena.now) (g.A.BuilderArena.view c.copy_primitive_list.new.arena) c.args.lim.now c.copy_primitive_list.ensures.taken))

-- Pointers, and structs.

pub clear_if_refused-requires-in-Pointer : goal.clear_if_refused-requires-in-Pointer
clear_if_refused-requires-in-Pointer g c = place_left _ _ c.copy_pointer_list-copied.result c.requires.place c.copy_pointer_list-copied.ensures.refused

pub returns-in-Pointer : goal.returns-in-Pointer
returns-in-Pointer g c =
    let nl = to_z-of_z w32 c.args.value.nesting_limit (search rules) in
    let left = pointers_listed c.args.value.element_size c.args.value.struct_size c.args.value.count (first_read g.B.ReaderArena c.args.value)
    (λ o. CopiesOrLeaves c.copy_pointer_list-copied.result o (copy_call (form_of c.args.canonicalize) (call_at c.args.to.segment c.args.to.at (g.A.BuilderArena.view c.args.arena.now) (g.A.BuilderArena.view c.copy_pointer_list-copied.new.arena)) c.args.lim.now c.copy_pointer_list-copied.new.lim))
    c.in-Pointer.is (rw (nl, c.of-form.ensures) at c.copy_pointer_list-copied.ensures) in
    copies_or_clears c.copy_pointer_list-copied.result (list_apart c.args.value.element_size c.args.value.struct_size c.args.value.count (first_read g.B.ReaderArena c.args.value) (form_of c.args.canonicalize) c.args.lim.now c.copy_pointer_list-copied.new.lim)
    (λ k large. (exceeding c.args.value.element_size c.args.value.struct_size c.args.value.count (first_read g.B.ReaderArena c.args.value) (form_of c.args.canonicalize) k large).0 (c.fits_list_pointer.ensures.0 (search rules)))
    (list_until_more c.args.value.element_size c.args.value.struct_size c.args.value.count (first_read g.B.ReaderArena c.args.value) (form_of c.args.canonicalize) c.args.lim.now c.copy_pointer_list-copied.new.lim) left c.clear_if_refused-in-Pointer.ensures.same c.clear_if_refused-in-Pointer.ensures.clears

pub clear_if_refused-requires : goal.clear_if_refused-requires
clear_if_refused-requires g c = place_left _ _ c.copy_struct_list-copied.result c.requires.place c.copy_struct_list-copied.ensures.refused

pub returns-in-InlineComposite : goal.returns-in-InlineComposite
returns-in-InlineComposite g c =
    let nl = to_z-of_z w32 c.args.value.nesting_limit (search rules) in
    let left = structs_listed c.args.value.element_size c.args.value.struct_size c.args.value.count (first_read g.B.ReaderArena c.args.value)
    (λ o. CopiesOrLeaves c.copy_struct_list-copied.result o (copy_call (form_of c.args.canonicalize) (call_at c.args.to.segment c.args.to.at (g.A.BuilderArena.view c.args.arena.now) (g.A.BuilderArena.view c.copy_struct_list-copied.new.arena)) c.args.lim.now c.copy_struct_list-copied.new.lim))
    c.in-InlineComposite.is (rw (nl, c.of-form.ensures) at c.copy_struct_list-copied.ensures) in
    copies_or_clears c.copy_struct_list-copied.result (list_apart c.args.value.element_size c.args.value.struct_size c.args.value.count (first_read g.B.ReaderArena c.args.value) (form_of c.args.canonicalize) c.args.lim.now c.copy_struct_list-copied.new.lim)
    (λ k large. (exceeding c.args.value.element_size c.args.value.struct_size c.args.value.count (first_read g.B.ReaderArena c.args.value) (form_of c.args.canonicalize) k large).0 (c.fits_list_pointer.ensures.0 (search rules)))
    (list_until_more c.args.value.element_size c.args.value.struct_size c.args.value.count (first_read g.B.ReaderArena c.args.value) (form_of c.args.canonicalize) c.args.lim.now c.copy_struct_list-copied.new.lim) left c.clear_if_refused.ensures.same c.clear_if_refused.ensures.clears
