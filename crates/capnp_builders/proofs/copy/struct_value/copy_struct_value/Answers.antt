use Rattle.std.proofs.Common.{inl, inr, sym, ◌∙◌, ℕ, ◌+◌, ◌≤◌, List, length, take, refl, ap, ap₂, arith, length-take, rules}
use Rattle.std.proofs.lemmas.Int.{to_z-of_z}
use Rattle.std.proofs.lemmas.Bool.{false≢true}
use mir.Syntax.{w32}
use Rattle.capnp_format.specs.Segments.{segment}
use Rattle.capnp_format.proofs.Slices.{length_words}
use Rattle.capnp_arena_traits.specs.View.{View}
use Rattle.capnp_pointers.specs.Reading.{Reading, words_from}
use Rattle.capnp_readers.specs.Sizes.{pointers_read}
use Rattle.capnp_pointers.proofs.Budget.OneLevelLess.{ok_so, err_so}
use Rattle.std.proofs.lemmas.Result.{err_from_is_err_and}
use Rattle.capnp_allocation.specs.Makes.{call_at}
use Rattle.capnp_copies.specs.Changes.{copy_call}
use Rattle.capnp_copies.specs.Growth.{CopiesOrLeaves}
use Rattle.capnp_copies.specs.Originals.{sections_original}
use Rattle.capnp_copies.specs.Forms.{form_of}
use Rattle.capnp_copies.proofs.Cleared.{place_past, refused_clear, copies_or_clears}
use Rattle.capnp_builders.proofs.OneReading.{sections_apart}
use Rattle.capnp_builders.specs.StructValues.{data_of}
use Rattle.capnp_copies.proofs.KeptForms.{kept_count-le}
use Rattle.capnp_copies.proofs.FilledObjects.{nothing_left}
use Rattle.capnp_copies.proofs.FilledSections.{SectionsBegun, sections_fit, sections_null, sections_inside, sections_copied, sections_stop}
use Rattle.capnp_copies.proofs.KeptForms.{SectionsCut}
use Rattle.capnp_copies.proofs.ObjectsMade.{struct_begins, no_own_room}
use Rattle.capnp_copies.proofs.Originals.{sections_large}
use Rattle.capnp_copies.proofs.TooLarge.{no_sections_room}
use Rattle.capnp_allocation.specs.Memory.{HasRoom, refusals_for}
use Rattle.capnp_allocation.proofs.Memory.{keeps_itself, spends_nothing, made_refused}
use Rattle.capnp_copies.proofs.Growth.{none_itself, none_written, none_refused, taken_so, made_none, all_within, among_within, sections_behind, sections_stop_behind, sections_until_more}
use Rattle.capnp_builders.proofs.copy.struct_value.copy_struct_value.Goals as goal

-- A struct with more data words than a struct can have, and one that the arena refuses.

pub returns-in_err-kept : goal.returns-in_err-kept
returns-in_err-kept g c =
    let v = g.A.BuilderArena.view c.args.arena.now in
    let p = err_from_is_err_and c.from_residual.result c.from_residual.ensures.1 in
    let wide = c.in_err-kept.ensures.wide in
    rw (p.1, p.2) (refused_clear (sections_apart (data_of g.B.ReaderArena c.args.value) (pointers_read g.B.ReaderArena c.args.value) c.args.value.pointer_count (form_of c.args.canonicalize) c.args.lim.now c.args.lim.now)
    (record { why = inr (inr wide); left = nothing_left v.words v.words c.args.to.segment c.args.to.at c.requires.place c.requires.null refl; memory = spends_nothing v v c.in_err-kept.field-0.0 (λ n. ap (λ i. refusals_for i n) wide.1) (keeps_itself v) })
    (inl (refl, made_none (none_itself v))) (λ j large. (wide.1 ∙ sym large.1, refl)))

pub returns-in_err-start : goal.returns-in_err-start
returns-in_err-start g c =
    let least = c.in_ok-kept.kept in
    let n : ℕ = least.data_words + least.pointers in
    let b = form_of c.args.canonicalize in
    let ws : List ℕ = data_of g.B.ReaderArena c.args.value in
    let r : Reading = pointers_read g.B.ReaderArena c.args.value in
    let old : View = g.A.BuilderArena.view c.args.arena.now in
    let made : View = g.A.BuilderArena.view c.make_struct.new.arena in
    let full : HasRoom old c.args.to.segment n → ⊥ = λ room. absurd (false≢true (c.in_err-start.ensures.memory.fits room)) in
    let named = c.in_err-start.ensures.memory.named in
    let same = c.in_err-start.ensures.refused in
    let none = made_refused old made c.args.to.segment n c.in_err-start.field-0.0 named same full in
    let cut : SectionsCut b ws r c.args.value.pointer_count least = record { inside = c.args.value.inside; of_data = c.in_ok-kept.ensures.data; of_pointers = c.in_ok-kept.ensures.pointers } in
    let makes = ap₂ (λ i j. i + j) c.in_ok-kept.ensures.data c.in_ok-kept.ensures.pointers in
    let p = err_from_is_err_and c.from_residual-in_err-start.result c.from_residual-in_err-start.ensures.1 in
    rw (p.1, p.2) (refused_clear (sections_apart ws r c.args.value.pointer_count b c.args.lim.now c.args.lim.now)
    (record {
      why = inl (
        inl (n, refl, makes, (none.0, no_own_room old c.args.to.segment n full)),
        sections_large b ws r c.args.value.pointer_count (length (segment old.words c.args.to.segment)) (old.room c.args.to.segment) (no_sections_room c.args.to.segment old b cut full),
      );
      left = nothing_left old.words made.words c.args.to.segment c.args.to.at c.requires.place c.requires.null same;
      memory = none.1;
    })
    (inl (refl, made_none (none_refused old made n c.in_err-start.field-0.0 named same))) (λ j large. absurd (omega (arith, large.0, c.in_ok-kept.ensures.narrow))))

-- The struct is made, and its data words are written.

pub write_section-requires-clause-few : goal.write_section-requires-clause-few
write_section-requires-clause-few g c = omega (arith, c.in_ok-kept.ensures.data, kept_count-le (form_of c.args.canonicalize) (data_of g.B.ReaderArena c.args.value))

pub overflow_add-place : goal.overflow_add-place
overflow_add-place g c =
    omega (arith, c.from.ensures, c.in_ok-start.ensures.start.inside.1, g.met.A.BuilderArena.within c.make_struct.new.arena c.in_ok-start.start.segment, g.met.A.BuilderArena.small c.make_struct.new.arena c.in_ok-start.start.segment)

pub copy_children-copied-requires : goal.copy_children-copied-requires
copy_children-copied-requires g c =
    let begun : SectionsBegun (form_of c.args.canonicalize) (data_of g.B.ReaderArena c.args.value) (pointers_read g.B.ReaderArena c.args.value) c.args.value.pointer_count c.in_ok-kept.kept c.args.to.segment c.args.to.at (g.A.BuilderArena.view c.args.arena.now) (g.A.BuilderArena.view c.make_struct.new.arena)
    (g.A.BuilderArena.view c.write_section.new.arena) c.in_ok-start.start = record {
      cut = record { inside = c.args.value.inside; of_data = c.in_ok-kept.ensures.data; of_pointers = c.in_ok-kept.ensures.pointers };
      begun = record { made = c.in_ok-start.ensures.made; start = c.in_ok-start.ensures.start.leads; inside = c.in_ok-start.ensures.start.inside };
      memory = c.in_ok-start.ensures.memory.granted;
      writes = c.write_section.ensures;
      place = c.requires.place;
      within = g.met.A.BuilderArena.within c.write_section.new.arena c.in_ok-start.start.segment;
      taken = c.in_ok-start.ensures.memory.taken;
      behind = c.in_ok-start.ensures.start.behind;
      near = c.in_ok-start.ensures.near;
      empty = c.in_ok-start.ensures.empty;
    } in
    record {
      nulls = rw (c.from.ensures, c.from-pointers.ensures) (record { room = sections_fit begun; null = sections_null begun });
      inside = rw c.from-pointers.ensures (sections_inside begun);
    }

-- The copy of its pointers is the last step.

pub clear_if_refused-requires : goal.clear_if_refused-requires
clear_if_refused-requires g c =
    let made : View = g.A.BuilderArena.view c.make_struct.new.arena in
    let put : View = g.A.BuilderArena.view c.write_section.new.arena in
    let start = c.in_ok-start.start in
    let ws : List ℕ = take c.in_ok-kept.kept.data_words (data_of g.B.ReaderArena c.args.value) in
    let over = none_written made put start.segment start.at ws (omega (arith, c.in_ok-start.ensures.start.inside.1, length-take c.in_ok-kept.kept.data_words (data_of g.B.ReaderArena c.args.value))) c.write_section.ensures in
    place_past _ _ c.args.to.segment c.args.to.at _ c.copy_children-copied.result (omega (arith, c.requires.place, c.in_ok-start.ensures.made.words c.args.to.segment, over.words c.args.to.segment)) c.copy_children-copied.ensures.refused

pub returns : goal.returns
returns g c =
    let value = c.args.value in
    let r : Reading = pointers_read g.B.ReaderArena value in
    let made : View = g.A.BuilderArena.view c.make_struct.new.arena in
    let put : View = g.A.BuilderArena.view c.write_section.new.arena in
    let ws : List ℕ = data_of g.B.ReaderArena value in
    let size = c.in_ok-kept.kept in
    let words_kept : size.data_words ≤ length ws = omega (arith, c.in_ok-kept.ensures.data, kept_count-le (form_of c.args.canonicalize) ws) in
    let pointers_kept : size.pointers ≤ value.pointer_count =
    omega (arith, c.in_ok-kept.ensures.pointers, kept_count-le (form_of c.args.canonicalize) (words_from r value.pointer_count), length_words r.segments r.segment r.at value.pointer_count value.inside) in
    let start = c.in_ok-start.start in
    let old : View = g.A.BuilderArena.view c.args.arena.now in
    let e = c.in_ok-start.ensures in
    let begins = struct_begins c.args.to.segment c.args.to.at size old made start c.requires.place e.memory.taken e.memory.granted e.start.behind e.start.leads e.empty in
    let over = none_written made put start.segment start.at (take size.data_words ws) (omega (arith, e.start.inside.1, length-take size.data_words ws)) c.write_section.ensures in
    let last = none_itself (g.A.BuilderArena.view c.copy_children-copied.new.arena) in
    let nl = to_z-of_z w32 value.nesting_limit (search rules) in
    let less : size.data_words + size.pointers ≤ length ws + value.pointer_count = omega (arith, words_kept, pointers_kept) in
    let begun : SectionsBegun (form_of c.args.canonicalize) (data_of g.B.ReaderArena c.args.value) (pointers_read g.B.ReaderArena c.args.value) c.args.value.pointer_count c.in_ok-kept.kept c.args.to.segment c.args.to.at (g.A.BuilderArena.view c.args.arena.now) (g.A.BuilderArena.view c.make_struct.new.arena)
    (g.A.BuilderArena.view c.write_section.new.arena) c.in_ok-start.start = record {
      cut = record { inside = c.args.value.inside; of_data = c.in_ok-kept.ensures.data; of_pointers = c.in_ok-kept.ensures.pointers };
      begun = record { made = c.in_ok-start.ensures.made; start = c.in_ok-start.ensures.start.leads; inside = c.in_ok-start.ensures.start.inside };
      memory = c.in_ok-start.ensures.memory.granted;
      writes = c.write_section.ensures;
      place = c.requires.place;
      within = g.met.A.BuilderArena.within c.write_section.new.arena c.in_ok-start.start.segment;
      taken = c.in_ok-start.ensures.memory.taken;
      behind = c.in_ok-start.ensures.start.behind;
      near = c.in_ok-start.ensures.near;
      empty = c.in_ok-start.ensures.empty;
    } in
    let left : CopiesOrLeaves c.copy_children-copied.result (sections_original ws r value.pointer_count) (copy_call (form_of c.args.canonicalize) (call_at c.args.to.segment c.args.to.at old (g.A.BuilderArena.view c.copy_children-copied.new.arena)) c.args.lim.now c.copy_children-copied.new.lim) = record {
      copied = ok_so c.copy_children-copied.result c.copy_children-copied.ensures.copied (λ x made. sections_copied begun (rw (c.from.ensures, c.from-pointers.ensures, nl, c.of-form.ensures) at made));
      refused = err_so c.copy_children-copied.result c.copy_children-copied.ensures.refused (λ k stop. sections_stop begun (rw (c.from.ensures, c.from-pointers.ensures, nl, c.of-form.ensures) at stop));
      taken = taken_so c.copy_children-copied.result _ _ _ _ (λ x. sections_behind ws r value.pointer_count size.pointers (size.data_words + size.pointers) _ _ _ _ _ _ _ _ value.inside c.in_ok-kept.ensures.pointers begins less (all_within over last x)) (λ x. sections_stop_behind ws r value.pointer_count size.pointers (size.data_words + size.pointers) _ _ _ _ _ _ _ _ pointers_kept begins less (among_within (omega arith) over last x)) (rw (c.of-form.ensures, nl, c.from-pointers.ensures) at c.copy_children-copied.ensures.taken);
    } in
    copies_or_clears c.copy_children-copied.result (sections_apart ws r value.pointer_count (form_of c.args.canonicalize) c.args.lim.now c.copy_children-copied.new.lim) (λ k large. absurd (omega (arith, large.0, c.in_ok-kept.ensures.narrow)))
    (sections_until_more ws r value.pointer_count (form_of c.args.canonicalize) c.args.lim.now c.copy_children-copied.new.lim) left c.clear_if_refused.ensures.same c.clear_if_refused.ensures.clears
