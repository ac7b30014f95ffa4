use Rattle.std.proofs.Common.{◌≡◌, inl, ℕ, ◌+◌, ◌*◌, ◌<◌, ◌≤◌, ◌^◌, length, get_or, refl, ap, ap₂, sym, ◌∙◌, arith, rules, take, subst, le_antisymm, le_refl, lt_of_le_of_lt}
use Rattle.std.proofs.lemmas.Int.{to_z-of_z}
use Rattle.std.proofs.lemmas.Bool.{false≢true}
use mir.Syntax.{w32}
use mir.Val.{SFits}
use Rattle.capnp_format.specs.Bytes.{words_of}
use Rattle.capnp_words.specs.Sizes.{size_number}
use Rattle.capnp_format.specs.Segments.{Segments, segment, word_at, IsPlace}
use Rattle.capnp_format.specs.Tree.{Flat, Pointers}
use Rattle.capnp_format.specs.Numbers.{words_for, unpacked}
use Rattle.capnp_format.proofs.Slices.{length_words}
use Rattle.capnp_allocation.specs.Made.{zero_structs, nulls, structs_words}
use Rattle.capnp_allocation.specs.Memory.{HasRoom}
use Rattle.capnp_allocation.specs.Near.{HasOwnRoom}
use Rattle.capnp_allocation.proofs.FillingMade.{IsBegun, pointers_ready, structs_ready}
use Rattle.capnp_format.specs.Word.{kind, data_words, pointer_count}
use Rattle.capnp_pointers.specs.declared.object.Place.{Place}
use Rattle.capnp_pointers.specs.declared.object.Object.TheVariants.{Struct as ObjectStruct}
use Rattle.capnp_pointers.specs.Objects.{IsObject}
use Rattle.capnp_pointers.specs.Source.{levels}
use Rattle.capnp_pointers.specs.Reading.{Reading, place_past, segment_read, word_of, words_from}
use Rattle.capnp_pointers.specs.declared.object.Purpose.TheVariants.{Value}
use Rattle.capnp_pointers.specs.Pointers.{reading}
use Rattle.capnp_pointers.proofs.CanonicalTest.FoundBySteps.{struct_room}
use Rattle.capnp_pointers.proofs.Following.NearByWord.{struct_by_word}
use Rattle.capnp_pointers.proofs.Budget.OneLevelLess.{ok_so, err_so}
use Rattle.std.proofs.lemmas.Result.{err_from_is_err_and}
use Rattle.capnp_arena_traits.specs.View.{View}
use Rattle.capnp_copies.specs.Changes.{HasNulls}
use Rattle.capnp_copies.proofs.ElementsLaid.{words_taken}
use Rattle.capnp_copies.proofs.FilledSections.{SectionsBegun, sections_fit, sections_null, sections_done, sections_refused}
use Rattle.capnp_copies.specs.Forms.{form_in}
use Rattle.capnp_copies.proofs.FlatRead.{word_count-flat}
use Rattle.capnp_copies.proofs.FilledChildren.{no_child, children_grow, child_ahead, child_copied, child_stops}
use Rattle.capnp_copies.proofs.Falls.{falls_below, falls_last, falls_in}
use Rattle.capnp_copies.proofs.FilledElements.{no_row, no_width, AtRow, source_start, part_inside as element_inside, children_inside, place_start, data_room, next_nulls, row_put, row_done, row_refused}
use Rattle.capnp_copies.proofs.FilledObjects.{nothing_made, ObjectBegun, pointers_copied, pointers_stop, widths_keep, structs_copied, structs_stop}
use Rattle.capnp_copies.proofs.FilledValues.{read_stops, null_copied, CapabilityCopied, capability_value, capability_value_stops, struct_value, struct_value_stops, pointers_value, pointers_value_stops, structs_value, structs_value_stops, FlatOutcome, flat_value, flat_stops}
use Rattle.capnp_copies.proofs.Copying.{there}
use Rattle.capnp_copies.proofs.Growth.{none_itself, none_refused, taken_so, none_taken, one_taken, stop_taken, all_taken, no_row_taken, blank_taken, row_taken, row_stop_taken, rows_taken, all_within, among_within, no_wider, read_stop_taken, null_takes, capability_value_takes, struct_takes, struct_stop_takes, flat_takes, flat_stop_takes, pointers_take, pointers_stop_take, structs_take, structs_stop_take, made_none, pointers_behind, pointers_stop_behind, structs_behind, structs_stop_behind, sections_behind, sections_stop_behind}
use Rattle.capnp_copies.proofs.ObjectsRead.{object_read, few_read}
use Rattle.capnp_copies.proofs.ObjectsMade.{Begins, struct_begins, no_own_room}
use Rattle.capnp_copies.proofs.KeptForms.{SourceKept, SectionsCut}
use Rattle.capnp_copies.proofs.Originals.{halfway, sections_large, pointers_large, structs_large}
use Rattle.capnp_copies.proofs.TightElements.{all_rows}
use Rattle.capnp_copies.proofs.TooLarge.{no_pointers_room, no_structs_room, no_sections_room}
use Rattle.capnp_copies.proofs.WordsInside.{child_there, part_inside, behind_inside, rows_inside, one_more, some_more, kept_inside, fewer_words, first_fits, row_fits, product_fits, kept_fits, child_fits, null_fits, children_fit, kept_starts}
use Rattle.capnp_pointers.proofs.CanonicalTest.ResultFromParts.{some_words}
use Rattle.capnp_copies.proofs.copy.+copies.Goals as goal

-- Positions fit 32 bits.

pub children::copy_children_inline-place_past-place-requires : goal.children::copy_children_inline-place_past-place-requires
children::copy_children_inline-place_past-place-requires g t c =
    let now = c.args.arena.now in
    null_fits c.args.to.place.at c.args.count c.loop-i.i c.requires.nulls.room c.loop-i-test.true (g.met.A.BuilderArena.within now c.args.to.place.segment) (g.met.A.BuilderArena.small now c.args.to.place.segment)

pub structs::copy_struct-overflow_add-children : goal.structs::copy_struct-overflow_add-children
structs::copy_struct-overflow_add-children g t c =
    record {
      fits = children_fit c.args.from.place.at c.args.size.data_words c.args.size.pointers
          c.requires.inside c.from.ensures c.args.from.held.1 c.args.from.held.2;
    }

pub children::copy_children_inline-loop-i-init : goal.children::copy_children_inline-loop-i-init
children::copy_children_inline-loop-i-init g t c =
    (no_child (reading g.B.ReaderArena c.args.from) (form_in c.args.to.form) c.args.to.place.segment c.args.to.place.at (g.A.BuilderArena.view c.args.arena.now) c.args.lim.now, none_taken (reading g.B.ReaderArena c.args.from) (form_in c.args.to.form) c.args.to.place.segment (g.A.BuilderArena.view c.args.arena.now) c.args.lim.now)

pub children::copy_children_inline-copy_child-requires : goal.children::copy_children_inline-copy_child-requires
children::copy_children_inline-copy_child-requires g t c κs within =
    let child = c.past-child.ensures (child_fits c.args.from.place.at c.args.count c.loop-i.i c.requires.inside c.loop-i-test.true c.args.from.held.1 c.args.from.held.2) in
    let grows = children_grow c.loop-i.invariant.0 in
    let PLACE : IsPlace (g.A.BuilderArena.view c.loop-i.arena).words c.args.to.place.segment (c.args.to.place.at + c.loop-i.i) =
    child_there c.args.to.place.at c.args.count c.loop-i.i c.requires.nulls.room c.loop-i-test.true (grows.words
    c.args.to.place.segment) in
    let NULL : word_at (g.A.BuilderArena.view c.loop-i.arena).words c.args.to.place.segment (c.args.to.place.at + c.loop-i.i) ≡ 0 =
    child_ahead c.loop-i.invariant.0 (child_there c.args.to.place.at c.args.count c.loop-i.i
    c.requires.nulls.room c.loop-i-test.true (le_refl _)) ∙ c.requires.nulls.null c.loop-i.i
    c.loop-i-test.true in
    (falls_below 1 0 (ap (λ (r : Reading). r.levels) child) c.decreases, (within.0, (within.1, rw c.place_past-place.ensures (record { place = PLACE; null = NULL }))))

pub children::copy_children_inline-returns-in_err-copy_child : goal.children::copy_children_inline-returns-in_err-copy_child
children::copy_children_inline-returns-in_err-copy_child g t c =
    let child = c.past-child.ensures (child_fits c.args.from.place.at c.args.count c.loop-i.i c.requires.inside c.loop-i-test.true c.args.from.held.1 c.args.from.held.2) in
    let p = err_from_is_err_and c.from_residual.result c.from_residual.ensures.1 in
    rw (p.1, p.2) (record {
      copied = tt;
      refused = child_stops (child_there c.args.to.place.at c.args.count c.loop-i.i c.requires.nulls.room
          c.loop-i-test.true (le_refl _)) c.loop-i-test.true c.loop-i.invariant.0 c.loop-i.invariant.1 (rw (child, c.place_past-place.ensures) at c.in_err-copy_child.ensures.refused);
      taken = stop_taken c.loop-i-test.true c.loop-i.invariant.1 (rw (child, c.place_past-place.ensures) at c.in_err-copy_child.ensures.taken);
    })

pub children::copy_children_inline-loop-i-preserved : goal.children::copy_children_inline-loop-i-preserved
children::copy_children_inline-loop-i-preserved g t c =
    let child = c.past-child.ensures (child_fits c.args.from.place.at c.args.count c.loop-i.i c.requires.inside c.loop-i-test.true c.args.from.held.1 c.args.from.held.2) in
    let few : length (segment (g.A.BuilderArena.view c.loop-i.arena).words c.args.to.place.segment) < 2 ^ 29 =
    lt_of_le_of_lt (g.met.A.BuilderArena.within c.loop-i.arena c.args.to.place.segment) (g.met.A.BuilderArena.small
    c.loop-i.arena c.args.to.place.segment) in (
      child_copied (child_there c.args.to.place.at c.args.count c.loop-i.i c.requires.nulls.room c.loop-i-test.true
          (le_refl _)) few c.loop-i.invariant.0 (rw (child, c.place_past-place.ensures) at c.in_ok-copy_child.ensures.copied),
      one_taken c.loop-i.invariant.1 (rw (child, c.place_past-place.ensures) at c.in_ok-copy_child.ensures.taken),
    )

pub children::copy_children_inline-returns : goal.children::copy_children_inline-returns
children::copy_children_inline-returns g t c =
    let all : c.loop-i.i ≡ c.args.count = le_antisymm c.loop-i.auto.i-end c.loop-i-test.false in
    record { copied = rw all at c.loop-i.invariant.0; refused = tt; taken = all_taken all c.loop-i.invariant.1 }

pub children::copy_children-returns-then-count-eq0 : goal.children::copy_children-returns-then-count-eq0
children::copy_children-returns-then-count-eq0 g t c =
    let r : Reading = reading g.B.ReaderArena c.args.from in
    let view : View = g.A.BuilderArena.view c.args.arena.now in
    record {
      copied = rw c.if-count-eq0.true (no_child r (form_in c.args.to.form) c.args.to.place.segment c.args.to.place.at view c.args.lim.now);
      refused = tt;
      taken = all_taken {i = 0} (sym c.if-count-eq0.true) (none_taken r (form_in c.args.to.form) c.args.to.place.segment view
          c.args.lim.now);
    }

pub children::copy_children_out_of_line-copy_children_inline-requires : goal.children::copy_children_out_of_line-copy_children_inline-requires
children::copy_children_out_of_line-copy_children_inline-requires g t c κs within =
    (falls_below 2 0 refl c.decreases, (within.0, (within.1, c.requires)))

pub children::copy_children_out_of_line-returns : goal.children::copy_children_out_of_line-returns
children::copy_children_out_of_line-returns g t c = c.copy_children_inline.ensures

pub children::copy_children-copy_children_out_of_line-requires : goal.children::copy_children-copy_children_out_of_line-requires
children::copy_children-copy_children_out_of_line-requires g t c κs within =
    (falls_below 3 0 refl c.decreases, (within.0, (within.1, c.requires)))

pub children::copy_children-returns : goal.children::copy_children-returns
children::copy_children-returns g t c = c.copy_children_out_of_line.ensures

-- What a pointer means, according to its word.

pub children::copy_child-returns-then-is_null : goal.children::copy_child-returns-then-is_null
children::copy_child-returns-then-is_null g t c =
    let r : Reading = reading g.B.ReaderArena c.args.from in
    let word : c.word-word.result.0 ≡ word_of r = c.word-word.ensures.value ∙ ap (λ ws. get_or ws c.args.from.place.at 0) c.args.from.held.0 in
    record { copied = null_copied {r = r} (sym word ∙ c.if-is_null.ensures.0 refl, refl) c.requires.place c.requires.null; refused = tt; taken = null_takes {r = r} (sym word ∙ c.if-is_null.ensures.0 refl, refl) }

pub children::copy_child-copy_object-requires : goal.children::copy_child-copy_object-requires
children::copy_child-copy_object-requires g t c κs within =
    (falls_last 0 refl c.decreases, (within.0, (within.1, c.requires)))

pub children::copy_child-returns-then-is_near_primitive_list : goal.children::copy_child-returns-then-is_near_primitive_list
children::copy_child-returns-then-is_near_primitive_list g t c = c.copy_near_primitive_list.ensures (form_in c.args.to.form)

pub children::copy_child-returns-then-eq : goal.children::copy_child-returns-then-eq
children::copy_child-returns-then-eq g t c = c.copy_near_struct.ensures

pub children::copy_child-returns-else-eq : goal.children::copy_child-returns-else-eq
children::copy_child-returns-else-eq g t c = c.copy_object.ensures

pub children::copy_near_struct-returns-in_err-at : goal.children::copy_near_struct-returns-in_err-at
children::copy_near_struct-returns-in_err-at g t c =
    let nl = to_z-of_z w32 c.args.from.nesting_limit (search rules) in
    let p = err_from_is_err_and c.from_residual.result c.from_residual.ensures.1 in
    record {
      copied = rw p.1 tt;
      refused = rw (p.1, p.2) (read_stops c.requires.place.place c.requires.place.null (rw nl at c.in_err-at.ensures.refused));
      taken = rw p.1 (read_stop_taken (rw nl at c.in_err-at.ensures.refused));
    }

pub children::copy_near_struct-returns : goal.children::copy_near_struct-returns
children::copy_near_struct-returns g t c =
    let r : Reading = reading g.B.ReaderArena c.args.from in
    let fits : SFits w32 c.args.from.nesting_limit = search rules in
    let nl = to_z-of_z w32 c.args.from.nesting_limit fits in
    let near : kind (word_of r) ≡ 0 = rw c.requires.word.there at c.requires.is_struct in
    let start : Place = record c.args.from.place { at = c.in_ok-at.at } in
    let wide : c.struct_size.result.data_words ≡ data_words (word_of r) = c.struct_size.ensures.data_of ∙ ap data_words c.requires.word.there in
    let many : c.struct_size.result.pointers ≡ pointer_count (word_of r) = c.struct_size.ensures.pointers_of ∙ ap pointer_count c.requires.word.there in
    let object : IsObject Value r c.args.lim.now c.read_near_struct.new.lim (ObjectStruct start c.struct_size.result) = struct_by_word start c.struct_size.result near c.args.from.held refl (rw nl at c.in_ok-at.ensures.object) wide many in
    let inner = c.inside-inner.ensures in
    let less = λ (_ : 0 < r.levels). inner.levels in
    record {
      copied = ok_so c.copy_struct.result (rw (inner.source, inner.place) at c.copy_struct.ensures.copied) (λ x made. struct_value start less object made);
      refused = err_so c.copy_struct.result (rw (inner.source, inner.place) at c.copy_struct.ensures.refused) (λ k stop. struct_value_stops start less object stop);
      taken = taken_so c.copy_struct.result _ _ _ _ (λ x. struct_takes start less object x) (λ x. struct_stop_takes start less object x) (rw (inner.source, inner.place) at c.copy_struct.ensures.taken);
    }

pub children::copy_near_struct-copy_struct-requires : goal.children::copy_near_struct-copy_struct-requires
children::copy_near_struct-copy_struct-requires g t c κs within =
    let r : Reading = reading g.B.ReaderArena c.args.from in
    let fits : SFits w32 c.args.from.nesting_limit = search rules in
    let nl = to_z-of_z w32 c.args.from.nesting_limit fits in
    let near : kind (word_of r) ≡ 0 = rw c.requires.word.there at c.requires.is_struct in
    let start : Place = record c.args.from.place { at = c.in_ok-at.at } in
    let wide : c.struct_size.result.data_words ≡ data_words (word_of r) = c.struct_size.ensures.data_of ∙ ap data_words c.requires.word.there in
    let many : c.struct_size.result.pointers ≡ pointer_count (word_of r) = c.struct_size.ensures.pointers_of ∙ ap pointer_count c.requires.word.there in
    let object : IsObject Value r c.args.lim.now c.read_near_struct.new.lim (ObjectStruct start c.struct_size.result) = struct_by_word start c.struct_size.result near c.args.from.held refl (rw nl at c.in_ok-at.ensures.object) wide many in
    let inner = c.inside-inner.ensures in
    let LESS = inner.levels in
    let SOME = object.1.meets.levels in
    let INSIDE : c.in_ok-at.at + (c.struct_size.result.data_words + c.struct_size.result.pointers) ≤ length (segment r.segments c.args.from.place.segment) = struct_room start c.struct_size.result object in
    (falls_in LESS SOME c.decreases, (within.0, (within.1, (c.requires.place, rw (inner.source, inner.place) INSIDE))))

-- What a pointer means.

pub copy_object-returns-in_err-object : goal.copy_object-returns-in_err-object
copy_object-returns-in_err-object g t c =
    let nl = to_z-of_z w32 c.args.from.nesting_limit (search rules) in
    let p = err_from_is_err_and c.from_residual.result c.from_residual.ensures.1 in
    record {
      copied = rw p.1 tt;
      refused = rw (p.1, p.2) (read_stops c.requires.place c.requires.null (rw nl at c.in_err-object.ensures.refused));
      taken = rw p.1 (read_stop_taken (rw nl at c.in_err-object.ensures.refused));
    }

pub copy_object-copy_struct-requires : goal.copy_object-copy_struct-requires
copy_object-copy_struct-requires g t c κs within =
    let fits : SFits w32 c.args.from.nesting_limit = search rules in
    let nl = to_z-of_z w32 c.args.from.nesting_limit fits in
    let object = object_read (reading g.B.ReaderArena c.args.from) c.args.lim.now c.read_object.new.lim c.in-Struct.is (ap levels nl) c.in_ok-object.ensures.object in
    let SOME = object.1.meets.levels in
    let inner = c.inside-inner.ensures in
    let LESS = inner.levels in
    let INSIDE = struct_room c.in-Struct.start c.in-Struct.size object in
    (falls_in LESS SOME c.decreases, (within.0, (within.1, (c.requires, rw (inner.source, inner.place) INSIDE))))

pub copy_object-copy_pointer_list-requires : goal.copy_object-copy_pointer_list-requires
copy_object-copy_pointer_list-requires g t c κs within =
    let FEW : c.in-Pointers.count < 2 ^ 29 = few_read c.in-Pointers.is c.in_ok-object.ensures.few in
    let fits : SFits w32 c.args.from.nesting_limit = search rules in
    let nl = to_z-of_z w32 c.args.from.nesting_limit fits in
    let object = object_read (reading g.B.ReaderArena c.args.from) c.args.lim.now c.read_object.new.lim c.in-Pointers.is (ap levels nl) c.in_ok-object.ensures.object in
    let SOME = object.1.meets.levels in
    let inner = c.inside-inner-in-Pointers.ensures in
    let LESS = inner.levels in
    (falls_in LESS SOME c.decreases, (within.0, (within.1, (c.requires, (FEW, search rules)))))

pub copy_object-copy_struct_list-requires : goal.copy_object-copy_struct_list-requires
copy_object-copy_struct_list-requires g t c κs within =
    let few : (c.in-Structs.count < 2 ^ 30) × (c.in-Structs.count * (c.in-Structs.size.data_words + c.in-Structs.size.pointers) < 2 ^ 29) = few_read c.in-Structs.is c.in_ok-object.ensures.few in
    let FEW : c.in-Structs.count < 2 ^ 30 = few.0 in
    let WORDS : c.in-Structs.count * (c.in-Structs.size.data_words + c.in-Structs.size.pointers) < 2 ^ 29 = few.1 in
    let fits : SFits w32 c.args.from.nesting_limit = search rules in
    let nl = to_z-of_z w32 c.args.from.nesting_limit fits in
    let object = object_read (reading g.B.ReaderArena c.args.from) c.args.lim.now c.read_object.new.lim c.in-Structs.is (ap levels nl) c.in_ok-object.ensures.object in
    let SOME = object.1.meets.levels in
    let inner = c.inside-inner-in-Structs.ensures in
    let LESS = inner.levels in
    (falls_in LESS SOME c.decreases, (within.0, (within.1, (c.requires, (FEW, (WORDS, search rules))))))

pub copy_object-returns-in-Null : goal.copy_object-returns-in-Null
copy_object-returns-in-Null g t c =
    let nl = to_z-of_z w32 c.args.from.nesting_limit (search rules) in
    let object = object_read (reading g.B.ReaderArena c.args.from) c.args.lim.now c.read_object.new.lim c.in-Null.is (ap levels nl) c.in_ok-object.ensures.object in
    record { copied = null_copied object c.requires.place c.requires.null; refused = tt; taken = null_takes object }

pub copy_object-returns-in-Capability : goal.copy_object-returns-in-Capability
copy_object-returns-in-Capability g t c =
    let nl = to_z-of_z w32 c.args.from.nesting_limit (search rules) in
    let object = object_read (reading g.B.ReaderArena c.args.from) c.args.lim.now c.read_object.new.lim c.in-Capability.is (ap levels nl) c.in_ok-object.ensures.object in
    let outcome : CapabilityCopied c.copy_capability.result (form_in c.args.form) c.args.to.segment c.args.to.at c.in-Capability.index (g.A.BuilderArena.view c.args.arena.now) (g.A.BuilderArena.view c.copy_capability.new.arena) =
    record { as_it_stands = c.copy_capability.ensures.as_it_stands; copied = c.copy_capability.ensures.copied; refused = c.copy_capability.ensures.refused; unchanged = c.copy_capability.ensures.unchanged } in
    record {
      copied = capability_value (reading g.B.ReaderArena c.args.from) _ _ c.copy_capability.result object c.requires.place outcome;
      refused = capability_value_stops (reading g.B.ReaderArena c.args.from) _ _ c.copy_capability.result object c.requires.place c.requires.null outcome;
      taken = capability_value_takes (reading g.B.ReaderArena c.args.from) _ _ c.copy_capability.result object outcome;
    }

pub copy_object-returns-in-Struct : goal.copy_object-returns-in-Struct
copy_object-returns-in-Struct g t c =
    let fits : SFits w32 c.args.from.nesting_limit = search rules in
    let nl = to_z-of_z w32 c.args.from.nesting_limit fits in
    let object = object_read (reading g.B.ReaderArena c.args.from) c.args.lim.now c.read_object.new.lim c.in-Struct.is (ap levels nl) c.in_ok-object.ensures.object in
    let inner = c.inside-inner.ensures in
    let less = λ (_ : 0 < levels c.args.from.nesting_limit). inner.levels in
    record {
      copied = ok_so c.copy_struct.result (rw (inner.source, inner.place) at c.copy_struct.ensures.copied) (λ x made. struct_value c.in-Struct.start less object made);
      refused = err_so c.copy_struct.result (rw (inner.source, inner.place) at c.copy_struct.ensures.refused) (λ k stop. struct_value_stops c.in-Struct.start less object stop);
      taken = taken_so c.copy_struct.result _ _ _ _ (λ x. struct_takes c.in-Struct.start less object x) (λ x. struct_stop_takes c.in-Struct.start less object x) (rw (inner.source, inner.place) at c.copy_struct.ensures.taken);
    }

pub copy_object-returns-in-Flat : goal.copy_object-returns-in-Flat
copy_object-returns-in-Flat g t c =
    let nl = to_z-of_z w32 c.args.from.nesting_limit (search rules) in
    let object = object_read (reading g.B.ReaderArena c.args.from) c.args.lim.now c.read_object.new.lim c.in-Flat.is (ap levels nl) c.in_ok-object.ensures.object in
    let outcome : FlatOutcome c.copy_primitive_list.result c.args.to.segment c.args.to.at (words_for (size_number c.in-Flat.size) c.in-Flat.count) (g.A.BuilderArena.view c.args.arena.now) (g.A.BuilderArena.view c.copy_primitive_list.new.arena) (Flat (size_number c.in-Flat.size) (unpacked (size_number c.in-Flat.size) c.in-Flat.count (words_of c.word_range-elements.result.now))) =
    record {
      copied = c.copy_primitive_list.ensures.copied;
      granted = c.copy_primitive_list.ensures.granted;
      refused = c.copy_primitive_list.ensures.refused;
      kept = c.copy_primitive_list.ensures.kept;
      memory = c.copy_primitive_list.ensures.memory;
      stands = c.copy_primitive_list.ensures.stands;
      fits = λ room. c.copy_primitive_list.ensures.fits (subst (HasOwnRoom
          (g.A.BuilderArena.view c.args.arena.now) c.args.to.segment) (word_count-flat (size_number c.in-Flat.size)
          c.in-Flat.count (words_of c.word_range-elements.result.now)) room);
    } in
    record {
      copied = flat_value (form_in c.args.form) c.copy_primitive_list.result c.in-Flat.start c.in-Flat.size object c.words_for_elements-words.ensures c.word_range-elements.ensures.words outcome;
      refused = flat_stops (form_in c.args.form) c.copy_primitive_list.result c.in-Flat.start c.in-Flat.size object c.words_for_elements-words.ensures c.word_range-elements.ensures.words (c.requires.place, c.requires.null) outcome;
      taken = taken_so c.copy_primitive_list.result _ _ _ _ (λ made. flat_takes c.in-Flat.size c.in-Flat.start object made) (λ none. flat_stop_takes c.in-Flat.size c.in-Flat.start object none) c.copy_primitive_list.ensures.taken;
    }

pub copy_object-returns-in-Pointers : goal.copy_object-returns-in-Pointers
copy_object-returns-in-Pointers g t c =
    let fits : SFits w32 c.args.from.nesting_limit = search rules in
    let nl = to_z-of_z w32 c.args.from.nesting_limit fits in
    let object = object_read (reading g.B.ReaderArena c.args.from) c.args.lim.now c.read_object.new.lim c.in-Pointers.is (ap levels nl) c.in_ok-object.ensures.object in
    let inner = c.inside-inner-in-Pointers.ensures in
    let less = λ (_ : 0 < levels c.args.from.nesting_limit). inner.levels in
    record {
      copied = ok_so c.copy_pointer_list.result (rw (inner.source, inner.place) at c.copy_pointer_list.ensures.copied) (λ x made. pointers_value c.in-Pointers.start less object made);
      refused = err_so c.copy_pointer_list.result (rw (inner.source, inner.place) at c.copy_pointer_list.ensures.refused) (λ k stop. pointers_value_stops c.in-Pointers.start less object (few_read c.in-Pointers.is c.in_ok-object.ensures.few) stop);
      taken = taken_so c.copy_pointer_list.result _ _ _ _ (λ x. pointers_take c.in-Pointers.start less object x) (λ x. pointers_stop_take c.in-Pointers.start less object x) (rw (inner.source, inner.place) at c.copy_pointer_list.ensures.taken);
    }

pub copy_object-returns-in-Structs : goal.copy_object-returns-in-Structs
copy_object-returns-in-Structs g t c =
    let fits : SFits w32 c.args.from.nesting_limit = search rules in
    let nl = to_z-of_z w32 c.args.from.nesting_limit fits in
    let object = object_read (reading g.B.ReaderArena c.args.from) c.args.lim.now c.read_object.new.lim c.in-Structs.is (ap levels nl) c.in_ok-object.ensures.object in
    let inner = c.inside-inner-in-Structs.ensures in
    let less = λ (_ : 0 < levels c.args.from.nesting_limit). inner.levels in
    record {
      copied = ok_so c.copy_struct_list.result (rw (inner.source, inner.place) at c.copy_struct_list.ensures.copied) (λ x made. structs_value c.in-Structs.start less object made);
      refused = err_so c.copy_struct_list.result (rw (inner.source, inner.place) at c.copy_struct_list.ensures.refused) (λ k stop. structs_value_stops c.in-Structs.start less object (few_read c.in-Structs.is c.in_ok-object.ensures.few) stop);
      taken = taken_so c.copy_struct_list.result _ _ _ _ (λ x. structs_take c.in-Structs.start less object x) (λ x. structs_stop_take c.in-Structs.start less object x) (rw (inner.source, inner.place) at c.copy_struct_list.ensures.taken);
    }

-- The elements of a list of structs.

pub elements::copy_elements-returns-then-kept_words-eq0-clause-copied : goal.elements::copy_elements-returns-then-kept_words-eq0-clause-copied
elements::copy_elements-returns-then-kept_words-eq0-clause-copied g t c =
    let from : Reading = reading g.B.ReaderArena c.args.from in
    let fits : SourceKept (form_in c.args.to.form) from c.args.sizes c.args.sizes.count =
    record { inside = c.requires.inside; less_data = c.requires.less.data_words; less_pointers = c.requires.less.pointers; used = widths_keep (form_in c.args.to.form) from c.args.sizes c.args.sizes.count c.requires.kept } in
    no_width from c.args.sizes c.args.sizes.count (form_in c.args.to.form) c.args.to.place.segment c.args.to.place.at
    (g.A.BuilderArena.view c.args.arena.now) c.args.lim.now fits (sym c.total-kept_words.ensures ∙ c.if-kept_words-eq0.true)

pub elements::copy_elements-returns-then-kept_words-eq0-clause-taken : goal.elements::copy_elements-returns-then-kept_words-eq0-clause-taken
elements::copy_elements-returns-then-kept_words-eq0-clause-taken g t c =
    let from : Reading = reading g.B.ReaderArena c.args.from in
    let fits : SourceKept (form_in c.args.to.form) from c.args.sizes c.args.sizes.count =
    record { inside = c.requires.inside; less_data = c.requires.less.data_words; less_pointers = c.requires.less.pointers; used = widths_keep (form_in c.args.to.form) from c.args.sizes c.args.sizes.count c.requires.kept } in
    blank_taken from c.args.sizes c.args.sizes.count (form_in c.args.to.form) c.args.to.place.segment
    (g.A.BuilderArena.view c.args.arena.now) c.args.lim.now fits (sym c.total-kept_words.ensures ∙ c.if-kept_words-eq0.true)

pub elements::copy_elements-loop-i-init : goal.elements::copy_elements-loop-i-init
elements::copy_elements-loop-i-init g t c =
    (no_row (reading g.B.ReaderArena c.args.from) c.args.sizes _ (form_in c.args.to.form) c.args.to.place.segment c.args.to.place.at (g.A.BuilderArena.view c.args.arena.now) c.args.lim.now, no_row_taken (reading g.B.ReaderArena c.args.from) c.args.sizes (form_in c.args.to.form) c.args.to.place.segment (g.A.BuilderArena.view c.args.arena.now) c.args.lim.now)

pub elements::copy_elements-overflow_mul-element : goal.elements::copy_elements-overflow_mul-element
elements::copy_elements-overflow_mul-element g t c =
    record {
      fits = product_fits c.args.from.place.at c.loop-i.i c.total-source_words.result (row_fits
          c.args.from.place.at (c.args.sizes.source.data_words + c.args.sizes.source.pointers) c.loop-i.i
          c.args.sizes.count c.requires.inside c.loop-i-test.true c.total-source_words.ensures c.args.from.held.1
          c.args.from.held.2);
    }

pub elements::copy_elements-overflow_add-element : goal.elements::copy_elements-overflow_add-element
elements::copy_elements-overflow_add-element g t c =
    record {
      fits = row_fits c.args.from.place.at (c.args.sizes.source.data_words +
          c.args.sizes.source.pointers) c.loop-i.i c.args.sizes.count c.requires.inside c.loop-i-test.true
          c.total-source_words.ensures c.args.from.held.1 c.args.from.held.2;
    }

pub elements::copy_elements-overflow_mul-row : goal.elements::copy_elements-overflow_mul-row
elements::copy_elements-overflow_mul-row g t c =
    record {
      fits = kept_fits c.args.to.place.at (c.args.sizes.kept.data_words + c.args.sizes.kept.pointers)
          c.loop-i.i c.args.sizes.count c.requires.room c.loop-i-test.true c.total-kept_words.ensures
          (g.met.A.BuilderArena.within c.args.arena.now c.args.to.place.segment) (g.met.A.BuilderArena.small
          c.args.arena.now c.args.to.place.segment);
    }

pub elements::copy_elements-overflow_add-row : goal.elements::copy_elements-overflow_add-row
elements::copy_elements-overflow_add-row g t c =
    let now = c.args.arena.now in
    record {
      fits = kept_starts c.args.to.place.at (c.args.sizes.kept.data_words + c.args.sizes.kept.pointers)
          c.loop-i.i c.args.sizes.count c.requires.room c.loop-i-test.true c.total-kept_words.ensures
          (g.met.A.BuilderArena.within now c.args.to.place.segment)
          (g.met.A.BuilderArena.small now c.args.to.place.segment);
    }

pub elements::copy_elements-overflow_add-children : goal.elements::copy_elements-overflow_add-children
elements::copy_elements-overflow_add-children g t c =
    let from : Reading = reading g.B.ReaderArena c.args.from in
    let fits : SourceKept (form_in c.args.to.form) from c.args.sizes c.args.sizes.count =
    record { inside = c.requires.inside; less_data = c.requires.less.data_words; less_pointers = c.requires.less.pointers; used = widths_keep (form_in c.args.to.form) from c.args.sizes c.args.sizes.count c.requires.kept } in
    let here : AtRow from c.args.sizes c.args.sizes.count c.loop-i.i (form_in c.args.to.form) c.args.to.place.segment c.args.to.place.at (g.A.BuilderArena.view c.args.arena.now) (g.A.BuilderArena.view c.loop-i.arena) c.args.lim.now c.loop-i.lim =
    record { fits = fits; room = c.requires.room; zero = c.requires.zero; wide = some_words c.total-kept_words.ensures c.if-kept_words-eq0.false; more = c.loop-i-test.true; rows = c.loop-i.invariant.0 } in
    record { fits = source_start here c.total-source_words.ensures c.from.ensures c.args.from.held.1 c.args.from.held.2 }

pub elements::copy_elements-overflow_add-place : goal.elements::copy_elements-overflow_add-place
elements::copy_elements-overflow_add-place g t c =
    let from : Reading = reading g.B.ReaderArena c.args.from in
    let fits : SourceKept (form_in c.args.to.form) from c.args.sizes c.args.sizes.count =
    record { inside = c.requires.inside; less_data = c.requires.less.data_words; less_pointers = c.requires.less.pointers; used = widths_keep (form_in c.args.to.form) from c.args.sizes c.args.sizes.count c.requires.kept } in
    let here : AtRow from c.args.sizes c.args.sizes.count c.loop-i.i (form_in c.args.to.form) c.args.to.place.segment c.args.to.place.at (g.A.BuilderArena.view c.args.arena.now) (g.A.BuilderArena.view c.loop-i.arena) c.args.lim.now c.loop-i.lim =
    record { fits = fits; room = c.requires.room; zero = c.requires.zero; wide = some_words c.total-kept_words.ensures c.if-kept_words-eq0.false; more = c.loop-i-test.true; rows = c.loop-i.invariant.0 } in
    let now = c.loop-i.arena in
    record {
      fits = place_start here c.total-kept_words.ensures c.from-in-loop-i.ensures (g.met.A.BuilderArena.within now c.args.to.place.segment)
          (g.met.A.BuilderArena.small now c.args.to.place.segment);
    }

pub elements::copy_elements-word_range-data-requires : goal.elements::copy_elements-word_range-data-requires
elements::copy_elements-word_range-data-requires g t c =
    let from : Reading = reading g.B.ReaderArena c.args.from in
    let fits : SourceKept (form_in c.args.to.form) from c.args.sizes c.args.sizes.count =
    record { inside = c.requires.inside; less_data = c.requires.less.data_words; less_pointers = c.requires.less.pointers; used = widths_keep (form_in c.args.to.form) from c.args.sizes c.args.sizes.count c.requires.kept } in
    let here : AtRow from c.args.sizes c.args.sizes.count c.loop-i.i (form_in c.args.to.form) c.args.to.place.segment c.args.to.place.at (g.A.BuilderArena.view c.args.arena.now) (g.A.BuilderArena.view c.loop-i.arena) c.args.lim.now c.loop-i.lim =
    record { fits = fits; room = c.requires.room; zero = c.requires.zero; wide = some_words c.total-kept_words.ensures c.if-kept_words-eq0.false; more = c.loop-i-test.true; rows = c.loop-i.invariant.0 } in
    element_inside here c.total-source_words.ensures c.from-data_words.ensures c.args.from.held.1

pub elements::copy_elements-put_words-requires-clause-inside : goal.elements::copy_elements-put_words-requires-clause-inside
elements::copy_elements-put_words-requires-clause-inside g t c =
    let from : Reading = reading g.B.ReaderArena c.args.from in
    let fits : SourceKept (form_in c.args.to.form) from c.args.sizes c.args.sizes.count =
    record { inside = c.requires.inside; less_data = c.requires.less.data_words; less_pointers = c.requires.less.pointers; used = widths_keep (form_in c.args.to.form) from c.args.sizes c.args.sizes.count c.requires.kept } in
    let here : AtRow from c.args.sizes c.args.sizes.count c.loop-i.i (form_in c.args.to.form) c.args.to.place.segment c.args.to.place.at (g.A.BuilderArena.view c.args.arena.now) (g.A.BuilderArena.view c.loop-i.arena) c.args.lim.now c.loop-i.lim =
    record { fits = fits; room = c.requires.room; zero = c.requires.zero; wide = some_words c.total-kept_words.ensures c.if-kept_words-eq0.false; more = c.loop-i-test.true; rows = c.loop-i.invariant.0 } in
    data_room here c.total-kept_words.ensures c.word_range-data.ensures.count c.from-data_words.ensures

pub elements::copy_elements-copy_children_inline-requires : goal.elements::copy_elements-copy_children_inline-requires
elements::copy_elements-copy_children_inline-requires g t c κs within =
    let from : Reading = reading g.B.ReaderArena c.args.from in
    let fits : SourceKept (form_in c.args.to.form) from c.args.sizes c.args.sizes.count =
    record { inside = c.requires.inside; less_data = c.requires.less.data_words; less_pointers = c.requires.less.pointers; used = widths_keep (form_in c.args.to.form) from c.args.sizes c.args.sizes.count c.requires.kept } in
    let here : AtRow from c.args.sizes c.args.sizes.count c.loop-i.i (form_in c.args.to.form) c.args.to.place.segment c.args.to.place.at (g.A.BuilderArena.view c.args.arena.now) (g.A.BuilderArena.view c.loop-i.arena) c.args.lim.now c.loop-i.lim =
    record { fits = fits; room = c.requires.room; zero = c.requires.zero; wide = some_words c.total-kept_words.ensures c.if-kept_words-eq0.false; more = c.loop-i-test.true; rows = c.loop-i.invariant.0 } in
    let nl = to_z-of_z w32 c.args.from.nesting_limit (search rules) in (
      falls_below 2 1 (ap levels nl) c.decreases,
      (
        within.0,
        (
          within.1,
          record {
            nulls = next_nulls here c.total-kept_words.ensures c.from-in-loop-i.ensures c.from-pointers.ensures c.word_range-data.ensures.count c.from-data_words.ensures c.put_words.ensures.length c.put_words.ensures.behind;
            inside = children_inside here c.total-source_words.ensures c.from.ensures c.from-pointers.ensures;
          },
        ),
      ),
    )

pub elements::copy_elements-loop-i-preserved : goal.elements::copy_elements-loop-i-preserved
elements::copy_elements-loop-i-preserved g t c =
    let nl = to_z-of_z w32 c.args.from.nesting_limit (search rules) in
    let from : Reading = reading g.B.ReaderArena c.args.from in
    let fits : SourceKept (form_in c.args.to.form) from c.args.sizes c.args.sizes.count =
    record { inside = c.requires.inside; less_data = c.requires.less.data_words; less_pointers = c.requires.less.pointers; used = widths_keep (form_in c.args.to.form) from c.args.sizes c.args.sizes.count c.requires.kept } in
    let here : AtRow from c.args.sizes c.args.sizes.count c.loop-i.i (form_in c.args.to.form) c.args.to.place.segment c.args.to.place.at (g.A.BuilderArena.view c.args.arena.now) (g.A.BuilderArena.view c.loop-i.arena) c.args.lim.now c.loop-i.lim =
    record { fits = fits; room = c.requires.room; zero = c.requires.zero; wide = some_words c.total-kept_words.ensures c.if-kept_words-eq0.false; more = c.loop-i-test.true; rows = c.loop-i.invariant.0 } in
    let put = row_put here c.total-source_words.ensures c.total-kept_words.ensures c.from-data_words.ensures c.args.from.held.0 c.word_range-data.ensures.words c.put_words.ensures.words in
    let none = c.put_words.ensures.taken in
    let last = none_itself (g.A.BuilderArena.view c.copy_children_inline.new.arena) in (
      row_done here c.total-source_words.ensures c.total-kept_words.ensures c.from.ensures c.from-in-loop-i.ensures c.from-pointers.ensures (ap levels nl) put c.in_ok-copy_children_inline.ensures.copied,
      row_taken fits c.loop-i-test.true c.loop-i.invariant.1 (all_within none last (rw (c.total-source_words.ensures, c.from.ensures, c.from-pointers.ensures, nl) at c.in_ok-copy_children_inline.ensures.taken)),
    )

pub elements::copy_elements-returns-in_err-copy_children_inline : goal.elements::copy_elements-returns-in_err-copy_children_inline
elements::copy_elements-returns-in_err-copy_children_inline g t c =
    let nl = to_z-of_z w32 c.args.from.nesting_limit (search rules) in
    let from : Reading = reading g.B.ReaderArena c.args.from in
    let fits : SourceKept (form_in c.args.to.form) from c.args.sizes c.args.sizes.count =
    record { inside = c.requires.inside; less_data = c.requires.less.data_words; less_pointers = c.requires.less.pointers; used = widths_keep (form_in c.args.to.form) from c.args.sizes c.args.sizes.count c.requires.kept } in
    let here : AtRow from c.args.sizes c.args.sizes.count c.loop-i.i (form_in c.args.to.form) c.args.to.place.segment c.args.to.place.at (g.A.BuilderArena.view c.args.arena.now) (g.A.BuilderArena.view c.loop-i.arena) c.args.lim.now c.loop-i.lim =
    record { fits = fits; room = c.requires.room; zero = c.requires.zero; wide = some_words c.total-kept_words.ensures c.if-kept_words-eq0.false; more = c.loop-i-test.true; rows = c.loop-i.invariant.0 } in
    let put = row_put here c.total-source_words.ensures c.total-kept_words.ensures c.from-data_words.ensures c.args.from.held.0 c.word_range-data.ensures.words c.put_words.ensures.words in
    let none = c.put_words.ensures.taken in
    let last = none_itself (g.A.BuilderArena.view c.copy_children_inline.new.arena) in
    let p = err_from_is_err_and c.from_residual.result c.from_residual.ensures.1 in
    record {
      copied = rw p.1 tt;
      refused = rw (p.1, p.2) (row_refused here c.total-source_words.ensures c.total-kept_words.ensures c.from.ensures c.from-in-loop-i.ensures c.from-pointers.ensures (ap levels nl) c.loop-i.invariant.1 put c.in_err-copy_children_inline.ensures.refused);
      taken = rw p.1 (row_stop_taken fits c.loop-i-test.true c.loop-i.invariant.1 (among_within (le_refl _) none last (rw (c.total-source_words.ensures, c.from.ensures, c.from-pointers.ensures, nl) at c.in_err-copy_children_inline.ensures.taken)));
    }

pub elements::copy_elements-returns-clause-copied : goal.elements::copy_elements-returns-clause-copied
elements::copy_elements-returns-clause-copied g t c =
    all_rows c.loop-i-test.false c.loop-i.auto.i-end c.loop-i.invariant.0

pub elements::copy_elements-returns-clause-taken : goal.elements::copy_elements-returns-clause-taken
elements::copy_elements-returns-clause-taken g t c =
    rows_taken c.args.sizes (le_antisymm c.loop-i.auto.i-end c.loop-i-test.false) c.loop-i.invariant.1

-- Lists of pointers.

pub lists::copy_pointer_list-copy_children_inline-requires : goal.lists::copy_pointer_list-copy_children_inline-requires
lists::copy_pointer_list-copy_children_inline-requires g t c κs within =
    let S : Segments = (g.A.BuilderArena.view c.args.arena.now).words in
    let M : Segments = (g.A.BuilderArena.view c.make_list.new.arena).words in
    let begun : IsBegun S M c.args.to.place.segment c.args.to.place.at c.args.count c.in_ok-start.start (Pointers (nulls c.args.count)) = record { made = c.in_ok-start.ensures.made; start = c.in_ok-start.ensures.start.leads; inside = c.in_ok-start.ensures.start.inside } in
    let NULLS : HasNulls M c.in_ok-start.start.segment c.in_ok-start.start.at c.args.count = record { room = begun.inside.1; null = pointers_ready S M c.args.to.place.segment c.args.to.place.at c.args.count c.in_ok-start.start begun } in
    (falls_below 2 2 refl c.decreases, (within.0, (within.1, record { nulls = NULLS; inside = c.requires.inside })))

pub lists::copy_pointer_list-returns : goal.lists::copy_pointer_list-returns
lists::copy_pointer_list-returns g t c =
    record {
      copied = (let begun : ObjectBegun c.args.to.place.segment c.args.to.place.at c.args.count (g.A.BuilderArena.view c.args.arena.now) (g.A.BuilderArena.view c.make_list.new.arena) c.in_ok-start.start (Pointers (nulls c.args.count)) =
          record { begun = record { made = c.in_ok-start.ensures.made; start = c.in_ok-start.ensures.start.leads; inside = c.in_ok-start.ensures.start.inside }; memory = c.in_ok-start.ensures.memory.granted } in ok_so c.copy_children_inline.result c.copy_children_inline.ensures.copied (λ x made. pointers_copied begun (record { place = c.requires.place.place; memory = c.in_ok-start.ensures.memory.granted; taken = c.in_ok-start.ensures.memory.taken; near = c.in_ok-start.ensures.near; at_end = c.in_ok-start.ensures.at_end }) made));
      refused = (let begun : ObjectBegun c.args.to.place.segment c.args.to.place.at c.args.count (g.A.BuilderArena.view c.args.arena.now) (g.A.BuilderArena.view c.make_list.new.arena) c.in_ok-start.start (Pointers (nulls c.args.count)) =
          record { begun = record { made = c.in_ok-start.ensures.made; start = c.in_ok-start.ensures.start.leads; inside = c.in_ok-start.ensures.start.inside }; memory = c.in_ok-start.ensures.memory.granted } in err_so c.copy_children_inline.result c.copy_children_inline.ensures.refused (λ k stop. pointers_stop begun (record { place = c.requires.place.place; memory = c.in_ok-start.ensures.memory.granted; taken = c.in_ok-start.ensures.memory.taken; behind = c.in_ok-start.ensures.start.behind }) c.in_ok-start.ensures.at_end stop));
      taken = (let begun : Begins c.args.to.place.segment c.in_ok-start.start.segment c.args.count (g.A.BuilderArena.view c.args.arena.now) (g.A.BuilderArena.view c.make_list.new.arena) =
          record { there = there (g.A.BuilderArena.view c.args.arena.now).words c.args.to.place.segment c.args.to.place.at c.requires.place.place; taken = c.in_ok-start.ensures.memory.taken; memory = c.in_ok-start.ensures.memory.granted; near = λ room. (c.in_ok-start.ensures.at_end room).0; far = λ full. (c.in_ok-start.ensures.start.behind.far full).0 } in taken_so c.copy_children_inline.result _ _ _ _ (λ x. pointers_behind _ _ _ _ _ _ _ _ _ _ begun x) (λ x. pointers_stop_behind _ _ _ _ _ _ _ _ _ _ begun x) c.copy_children_inline.ensures.taken);
    }

pub lists::copy_pointer_list-returns-in_err-start : goal.lists::copy_pointer_list-returns-in_err-start
lists::copy_pointer_list-returns-in_err-start g t c =
    let p = err_from_is_err_and c.from_residual.result c.from_residual.ensures.1 in
    record {
      copied = rw p.1 tt;
      refused = (let full : HasRoom (g.A.BuilderArena.view c.args.arena.now) c.args.to.place.segment c.args.count → ⊥ = λ room. absurd (false≢true (c.in_err-start.ensures.memory.fits room)) in let none = nothing_made (form_in c.args.to.form) c.args.to.place.segment c.args.to.place.at c.args.count (g.A.BuilderArena.view c.args.arena.now) (g.A.BuilderArena.view c.make_list.new.arena) c.args.lim.now c.args.lim.now c.in_err-start.field-0.0 c.requires.place.place c.requires.place.null
          c.in_err-start.ensures.memory.named c.in_err-start.ensures.refused full in rw (p.1, p.2) (halfway (inl (inl (c.args.count, refl, refl, (none.0, no_own_room (g.A.BuilderArena.view c.args.arena.now) c.args.to.place.segment c.args.count full)), pointers_large (form_in c.args.to.form) (reading g.B.ReaderArena c.args.from) c.args.count (length (segment (g.A.BuilderArena.view c.args.arena.now).words c.args.to.place.segment)) ((g.A.BuilderArena.view c.args.arena.now).room c.args.to.place.segment) (no_pointers_room (form_in c.args.to.form) (reading g.B.ReaderArena c.args.from) c.args.count c.args.to.place.segment (g.A.BuilderArena.view c.args.arena.now) full))) none.1));
      taken = rw p.1 (inl (refl, made_none (none_refused (g.A.BuilderArena.view c.args.arena.now) (g.A.BuilderArena.view c.make_list.new.arena) c.args.count c.in_err-start.field-0.0 c.in_err-start.ensures.memory.named c.in_err-start.ensures.refused)));
    }

-- Lists of structs.

pub lists::copy_struct_list-copy_elements-requires : goal.lists::copy_struct_list-copy_elements-requires
lists::copy_struct_list-copy_elements-requires g t c κs within =
    let from : Reading = reading g.B.ReaderArena c.args.from in
    let least = c.kept_widths-kept.result in
    let S : Segments = (g.A.BuilderArena.view c.args.arena.now).words in
    let M : Segments = (g.A.BuilderArena.view c.make_struct_list.new.arena).words in
    let begun : IsBegun S M c.args.to.place.segment c.args.to.place.at (1 + c.args.list.count * (least.data_words + least.pointers)) c.in_ok-made.made (zero_structs c.args.list.count least) = record { made = c.in_ok-made.ensures.made; start = c.in_ok-made.ensures.start.leads; inside = c.in_ok-made.ensures.start.inside } in
    let ROOM : c.in_ok-made.made.at + 1 + c.args.list.count * (least.data_words + least.pointers) ≤ length (segment M c.in_ok-made.made.segment) =
    rows_inside c.in_ok-made.made.at (c.args.list.count * (least.data_words + least.pointers)) begun.inside.1 in
    let ZERO : (i : ℕ) → i < c.args.list.count * (least.data_words + least.pointers) → word_at M c.in_ok-made.made.segment (c.in_ok-made.made.at + 1 + i) ≡ 0 = structs_ready S M c.args.to.place.segment c.args.to.place.at least.data_words least.pointers c.args.list.count c.in_ok-made.made begun in
    (falls_below 4 0 refl c.decreases, (within.0, (within.1, (ROOM, (ZERO, (c.requires.inside, (c.kept_widths-kept.ensures.less, c.kept_widths-kept.ensures.kept)))))))

pub lists::copy_struct_list-overflow_add-place : goal.lists::copy_struct_list-overflow_add-place
lists::copy_struct_list-overflow_add-place g t c =
    let now = c.make_struct_list.new.arena in
    let s = c.in_ok-made.made.segment in
    record { fits = omega (arith, c.in_ok-made.ensures.start.inside.1, g.met.A.BuilderArena.within now s, g.met.A.BuilderArena.small now s) }

pub lists::copy_struct_list-returns : goal.lists::copy_struct_list-returns
lists::copy_struct_list-returns g t c =
    let least = c.kept_widths-kept.result in
    let less = no_wider c.args.list.count least.data_words least.pointers c.args.list.size.data_words c.args.list.size.pointers c.kept_widths-kept.ensures.less.data_words c.kept_widths-kept.ensures.less.pointers in
    record {
      copied = (let begun : ObjectBegun c.args.to.place.segment c.args.to.place.at (1 + c.args.list.count * (least.data_words + least.pointers)) (g.A.BuilderArena.view c.args.arena.now) (g.A.BuilderArena.view c.make_struct_list.new.arena) c.in_ok-made.made (zero_structs c.args.list.count least) =
          record { begun = record { made = c.in_ok-made.ensures.made; start = c.in_ok-made.ensures.start.leads; inside = c.in_ok-made.ensures.start.inside }; memory = c.in_ok-made.ensures.memory.granted } in ok_so c.copy_elements.result c.copy_elements.ensures.copied (λ x made. structs_copied c.requires.inside c.kept_widths-kept.ensures.kept begun (record { place = c.requires.place.place; memory = c.in_ok-made.ensures.memory.granted; taken = c.in_ok-made.ensures.memory.taken; behind = c.in_ok-made.ensures.start.behind; near = c.in_ok-made.ensures.near }) made));
      refused = (let begun : ObjectBegun c.args.to.place.segment c.args.to.place.at (1 + c.args.list.count * (least.data_words + least.pointers)) (g.A.BuilderArena.view c.args.arena.now) (g.A.BuilderArena.view c.make_struct_list.new.arena) c.in_ok-made.made (zero_structs c.args.list.count least) =
          record { begun = record { made = c.in_ok-made.ensures.made; start = c.in_ok-made.ensures.start.leads; inside = c.in_ok-made.ensures.start.inside }; memory = c.in_ok-made.ensures.memory.granted } in err_so c.copy_elements.result c.copy_elements.ensures.refused (λ k stop. structs_stop c.requires.inside
          c.kept_widths-kept.ensures.kept begun (record {
            place = c.requires.place.place;
            memory = c.in_ok-made.ensures.memory.granted;
            taken = c.in_ok-made.ensures.memory.taken;
            behind = c.in_ok-made.ensures.start.behind;
            near = c.in_ok-made.ensures.near;
          }) (one_more less) stop));
      taken = (let begun : Begins c.args.to.place.segment c.in_ok-made.made.segment (1 + c.args.list.count * (least.data_words + least.pointers)) (g.A.BuilderArena.view c.args.arena.now) (g.A.BuilderArena.view c.make_struct_list.new.arena) =
          record {
            there = there (g.A.BuilderArena.view c.args.arena.now).words c.args.to.place.segment c.args.to.place.at c.requires.place.place;
            taken = c.in_ok-made.ensures.memory.taken;
            memory = c.in_ok-made.ensures.memory.granted;
            near = λ room. (c.in_ok-made.ensures.start.behind.near (some_more _) room).0;
            far = λ full. (c.in_ok-made.ensures.start.behind.far full).0;
          } in taken_so c.copy_elements.result _ _ _ _
          (λ x. structs_behind _ (record { count = c.args.list.count; source = c.args.list.size; kept = c.kept_widths-kept.result }) _ _ _ _ _ _ _ _ _ _ begun (one_more less) x)
          (λ x. structs_stop_behind _ (record { count = c.args.list.count; source = c.args.list.size; kept = c.kept_widths-kept.result }) _ _ _ _ _ _ _ _ _ _ begun (one_more less) x)
          c.copy_elements.ensures.taken);
    }

pub lists::copy_struct_list-returns-in_err-made : goal.lists::copy_struct_list-returns-in_err-made
lists::copy_struct_list-returns-in_err-made g t c =
    let least = c.kept_widths-kept.result in
    let p = err_from_is_err_and c.from_residual.result c.from_residual.ensures.1 in
    record {
      copied = rw p.1 tt;
      refused = (let full : HasRoom (g.A.BuilderArena.view c.args.arena.now) c.args.to.place.segment (1 + c.args.list.count * (least.data_words + least.pointers)) → ⊥ = λ room. absurd (false≢true (c.in_err-made.ensures.memory.fits room)) in let none = nothing_made (form_in c.args.to.form) c.args.to.place.segment c.args.to.place.at (1 + c.args.list.count * (least.data_words + least.pointers)) (g.A.BuilderArena.view c.args.arena.now) (g.A.BuilderArena.view c.make_struct_list.new.arena) c.args.lim.now c.args.lim.now c.in_err-made.field-0.0 c.requires.place.place c.requires.place.null
          c.in_err-made.ensures.memory.named c.in_err-made.ensures.refused full in rw (p.1, p.2) (halfway (inl (inl (1 + c.args.list.count * (least.data_words + least.pointers), refl, ap (structs_words c.args.list.count) c.kept_widths-kept.ensures.kept, (none.0, no_own_room (g.A.BuilderArena.view c.args.arena.now) c.args.to.place.segment (1 + c.args.list.count * (least.data_words + least.pointers)) full)), structs_large (form_in c.args.to.form) (reading g.B.ReaderArena c.args.from) c.args.list.size c.args.list.count (length (segment (g.A.BuilderArena.view c.args.arena.now).words c.args.to.place.segment)) ((g.A.BuilderArena.view c.args.arena.now).room c.args.to.place.segment) (no_structs_room (reading g.B.ReaderArena c.args.from) c.args.list.size least c.args.list.count c.args.to.place.segment (g.A.BuilderArena.view c.args.arena.now) (form_in c.args.to.form) c.requires.inside c.kept_widths-kept.ensures.kept full))) none.1));
      taken = rw p.1 (inl (refl, made_none (none_refused (g.A.BuilderArena.view c.args.arena.now) (g.A.BuilderArena.view c.make_struct_list.new.arena) (1 + c.args.list.count * (least.data_words + least.pointers)) c.in_err-made.field-0.0 c.in_err-made.ensures.memory.named c.in_err-made.ensures.refused)));
    }

-- Structs.

pub structs::copy_struct-returns-in_err-start : goal.structs::copy_struct-returns-in_err-start
structs::copy_struct-returns-in_err-start g t c =
    let least = c.kept_sections-kept.result in
    let p = err_from_is_err_and c.from_residual.result c.from_residual.ensures.1 in
    record {
      copied = rw p.1 tt;
      refused = (let full : HasRoom (g.A.BuilderArena.view c.args.arena.now) c.args.to.place.segment (least.data_words + least.pointers) → ⊥ = λ room. absurd (false≢true (c.in_err-start.ensures.memory.fits room)) in let none = nothing_made (form_in c.args.to.form) c.args.to.place.segment c.args.to.place.at (least.data_words + least.pointers) (g.A.BuilderArena.view c.args.arena.now) (g.A.BuilderArena.view c.make_struct.new.arena) c.args.lim.now c.args.lim.now c.in_err-start.field-0.0 c.requires.place.place c.requires.place.null
          c.in_err-start.ensures.memory.named c.in_err-start.ensures.refused full in let r : Reading = reading g.B.ReaderArena c.args.from in let cut : SectionsCut (form_in c.args.to.form) (words_from r c.args.size.data_words) (place_past r
          c.args.size.data_words) c.args.size.pointers least = record {
            inside = behind_inside
                c.args.from.place.at c.args.size.data_words c.args.size.pointers c.requires.inside;
            of_data = c.kept_sections-kept.ensures.data;
            of_pointers = c.kept_sections-kept.ensures.pointers;
          } in let makes = ap₂ (λ i j. i + j) cut.of_data cut.of_pointers in rw (p.1, p.2) (halfway (inl (
            inl (least.data_words + least.pointers, refl, makes, (none.0, no_own_room (g.A.BuilderArena.view c.args.arena.now) c.args.to.place.segment (least.data_words + least.pointers) full)),
            sections_large (form_in c.args.to.form) (words_from r c.args.size.data_words) (place_past r c.args.size.data_words) c.args.size.pointers (length (segment (g.A.BuilderArena.view c.args.arena.now).words c.args.to.place.segment)) ((g.A.BuilderArena.view c.args.arena.now).room c.args.to.place.segment)
                (no_sections_room c.args.to.place.segment (g.A.BuilderArena.view c.args.arena.now) (form_in c.args.to.form) cut full),
          )) none.1));
      taken = rw p.1 (inl (refl, made_none (none_refused (g.A.BuilderArena.view c.args.arena.now) (g.A.BuilderArena.view c.make_struct.new.arena) (least.data_words + least.pointers) c.in_err-start.field-0.0 c.in_err-start.ensures.memory.named c.in_err-start.ensures.refused)));
    }

pub structs::copy_struct-returns : goal.structs::copy_struct-returns
structs::copy_struct-returns g t c =
    let nl = to_z-of_z w32 c.args.from.nesting_limit (search rules) in
    let least = c.kept_sections-kept.result in
    let r : Reading = reading g.B.ReaderArena c.args.from in
    let held : words_of c.args.from.place.bytes.now ≡ segment_read r = c.args.from.held.0 in
    let section : words_of c.word_range-data.result.now ≡ take least.data_words (words_from r c.args.size.data_words) =
    (rw (c.from-data_words.ensures, held) at c.word_range-data.ensures.words) ∙ sym (words_taken r.segments r.segment r.at least.data_words c.args.size.data_words c.kept_sections-kept.ensures.less.data_words) in
    record {
      copied = (let begun : SectionsBegun (form_in c.args.to.form) (words_from r c.args.size.data_words) (place_past r c.args.size.data_words) c.args.size.pointers least c.args.to.place.segment c.args.to.place.at (g.A.BuilderArena.view c.args.arena.now) (g.A.BuilderArena.view c.make_struct.new.arena) (g.A.BuilderArena.view c.put_words.new.arena) c.in_ok-start.start = record {
        cut = record {
          inside = behind_inside c.args.from.place.at c.args.size.data_words c.args.size.pointers
              c.requires.inside;
          of_data = c.kept_sections-kept.ensures.data;
          of_pointers = c.kept_sections-kept.ensures.pointers;
        };
        begun = record { made = c.in_ok-start.ensures.made; start = c.in_ok-start.ensures.start.leads; inside = c.in_ok-start.ensures.start.inside };
        memory = c.in_ok-start.ensures.memory.granted;
        writes = rw section at c.put_words.ensures.words;
        place = c.requires.place.place;
        within = g.met.A.BuilderArena.within c.put_words.new.arena c.in_ok-start.start.segment;
        taken = c.in_ok-start.ensures.memory.taken;
        behind = c.in_ok-start.ensures.start.behind;
        near = c.in_ok-start.ensures.near;
        empty = c.in_ok-start.ensures.empty;
      } in ok_so c.copy_children.result c.copy_children.ensures.copied (λ x made. sections_done r c.args.size.data_words begun c.from.ensures c.from-2.ensures c.from-pointers.ensures (ap levels nl) made));
      refused = (let begun : SectionsBegun (form_in c.args.to.form) (words_from r c.args.size.data_words) (place_past r c.args.size.data_words) c.args.size.pointers least c.args.to.place.segment c.args.to.place.at (g.A.BuilderArena.view c.args.arena.now) (g.A.BuilderArena.view c.make_struct.new.arena) (g.A.BuilderArena.view c.put_words.new.arena) c.in_ok-start.start = record {
        cut = record {
          inside = behind_inside c.args.from.place.at c.args.size.data_words c.args.size.pointers
              c.requires.inside;
          of_data = c.kept_sections-kept.ensures.data;
          of_pointers = c.kept_sections-kept.ensures.pointers;
        };
        begun = record { made = c.in_ok-start.ensures.made; start = c.in_ok-start.ensures.start.leads; inside = c.in_ok-start.ensures.start.inside };
        memory = c.in_ok-start.ensures.memory.granted;
        writes = rw section at c.put_words.ensures.words;
        place = c.requires.place.place;
        within = g.met.A.BuilderArena.within c.put_words.new.arena c.in_ok-start.start.segment;
        taken = c.in_ok-start.ensures.memory.taken;
        behind = c.in_ok-start.ensures.start.behind;
        near = c.in_ok-start.ensures.near;
        empty = c.in_ok-start.ensures.empty;
      } in err_so c.copy_children.result c.copy_children.ensures.refused (λ k stop. sections_refused r c.args.size.data_words begun c.from.ensures c.from-2.ensures c.from-pointers.ensures (ap levels nl) stop));
      taken = (let made = struct_begins c.args.to.place.segment c.args.to.place.at least (g.A.BuilderArena.view c.args.arena.now) (g.A.BuilderArena.view c.make_struct.new.arena) c.in_ok-start.start c.requires.place.place c.in_ok-start.ensures.memory.taken c.in_ok-start.ensures.memory.granted c.in_ok-start.ensures.start.behind c.in_ok-start.ensures.start.leads c.in_ok-start.ensures.empty in let put = c.put_words.ensures.taken in let last = none_itself (g.A.BuilderArena.view c.copy_children.new.arena) in let fewer = c.kept_sections-kept.ensures.less.pointers in let cut : SectionsCut (form_in c.args.to.form) (words_from r c.args.size.data_words) (place_past r
          c.args.size.data_words) c.args.size.pointers least = record {
            inside = behind_inside
                c.args.from.place.at c.args.size.data_words c.args.size.pointers c.requires.inside;
            of_data = c.kept_sections-kept.ensures.data;
            of_pointers = c.kept_sections-kept.ensures.pointers;
          } in let long = length_words r.segments r.segment r.at c.args.size.data_words (part_inside
          c.args.from.place.at c.args.size.data_words c.args.size.data_words c.args.size.pointers
          c.requires.inside (le_refl _)) in let less : least.data_words + least.pointers ≤ length (words_from r c.args.size.data_words) +
          c.args.size.pointers = fewer_words c.kept_sections-kept.ensures.less.data_words fewer long in taken_so c.copy_children.result _ _ _ _ (λ x. sections_behind (words_from r c.args.size.data_words) (place_past r c.args.size.data_words) c.args.size.pointers least.pointers (least.data_words + least.pointers) _ _ _ _ _ _ _ _ cut.inside cut.of_pointers made less (all_within put last x))
          (λ x. sections_stop_behind (words_from r c.args.size.data_words) (place_past r c.args.size.data_words)
          c.args.size.pointers least.pointers (least.data_words + least.pointers) _ _ _ _ _ _ _ _ fewer made
          less (among_within (le_refl _) put last x))
          (rw (c.from.ensures, c.from-pointers.ensures, nl) at c.copy_children.ensures.taken));
    }

pub structs::copy_struct-copy_children-requires : goal.structs::copy_struct-copy_children-requires
structs::copy_struct-copy_children-requires g t c κs within =
    let N : Segments = (g.A.BuilderArena.view c.put_words.new.arena).words in
    let least = c.kept_sections-kept.result in
    let r : Reading = reading g.B.ReaderArena c.args.from in
    let held : words_of c.args.from.place.bytes.now ≡ segment_read r = c.args.from.held.0 in
    let section : words_of c.word_range-data.result.now ≡ take least.data_words (words_from r c.args.size.data_words) =
    (rw (c.from-data_words.ensures, held) at c.word_range-data.ensures.words) ∙ sym (words_taken r.segments r.segment r.at least.data_words c.args.size.data_words c.kept_sections-kept.ensures.less.data_words) in
    let begun : SectionsBegun (form_in c.args.to.form) (words_from r c.args.size.data_words) (place_past r c.args.size.data_words) c.args.size.pointers least c.args.to.place.segment c.args.to.place.at (g.A.BuilderArena.view c.args.arena.now) (g.A.BuilderArena.view c.make_struct.new.arena) (g.A.BuilderArena.view c.put_words.new.arena) c.in_ok-start.start = record {
      cut = record {
        inside = behind_inside c.args.from.place.at c.args.size.data_words c.args.size.pointers
            c.requires.inside;
        of_data = c.kept_sections-kept.ensures.data;
        of_pointers = c.kept_sections-kept.ensures.pointers;
      };
      begun = record { made = c.in_ok-start.ensures.made; start = c.in_ok-start.ensures.start.leads; inside = c.in_ok-start.ensures.start.inside };
      memory = c.in_ok-start.ensures.memory.granted;
      writes = rw section at c.put_words.ensures.words;
      place = c.requires.place.place;
      within = g.met.A.BuilderArena.within c.put_words.new.arena c.in_ok-start.start.segment;
      taken = c.in_ok-start.ensures.memory.taken;
      behind = c.in_ok-start.ensures.start.behind;
      near = c.in_ok-start.ensures.near;
      empty = c.in_ok-start.ensures.empty;
    } in
    let NULLS : HasNulls N c.in_ok-start.start.segment (c.in_ok-start.start.at + c.from-2.result) c.from-pointers.result = rw (c.from-2.ensures, c.from-pointers.ensures) (record { room = sections_fit begun; null = sections_null begun }) in
    let nl = to_z-of_z w32 c.args.from.nesting_limit (search rules) in
    (falls_below 4 0 (ap levels nl) c.decreases, (within.0, (within.1, record { nulls = NULLS; inside = rw (c.from.ensures, c.from-pointers.ensures) (kept_inside c.args.from.place.at c.args.size.data_words c.requires.inside c.kept_sections-kept.ensures.less.pointers) })))

pub structs::copy_struct-overflow_add-place : goal.structs::copy_struct-overflow_add-place
structs::copy_struct-overflow_add-place g t c =
    let now = c.make_struct.new.arena in
    record {
      fits = first_fits c.in_ok-start.start.at c.kept_sections-kept.result.data_words
          c.kept_sections-kept.result.pointers c.in_ok-start.ensures.start.inside.1
          (g.met.A.BuilderArena.within now c.in_ok-start.start.segment) (g.met.A.BuilderArena.small now
          c.in_ok-start.start.segment) c.from-2.ensures;
    }
