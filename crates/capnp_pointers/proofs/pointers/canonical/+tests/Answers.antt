use Rattle.std.proofs.Common.{pred, ◌≡◌, ℕ, ℤ, nat_eq, cond, ◌+◌, ◌*◌, ◌-◌, ◌<◌, ◌≤◌, length, Ok, refl, sym, ap, ap₂, ◌∙◌, subst, arith, rules, ◌≢◌, suc, ◌||◌, get_or, add-zero}
use Rattle.std.proofs.lemmas.Bool.{false≢true, ne_eqb}
use Rattle.std.proofs.lemmas.Int.{to_z-of_z}
use mir.Syntax.{w32}
use mir.Val.{to_z, of_z}
use Rattle.capnp_format.specs.Word.{kind, list_count}
use Rattle.capnp_format.specs.Segments.{segment}
use Rattle.capnp_pointers.specs.declared.object.Object.TheVariants.{Struct as ObjectStruct, Flat as ObjectFlat, Pointers as ObjectPointers, Structs as ObjectStructs}
use Rattle.capnp_pointers.specs.Source.{levels}
use Rattle.capnp_pointers.specs.Objects.{EntersNear, IsFew, IsObject}
use Rattle.capnp_pointers.specs.Reading.{Reading, word_of, place_past}
use Rattle.capnp_pointers.specs.declared.object.Purpose.TheVariants.{Value}
use Rattle.capnp_pointers.specs.Pointers.{reading_on}
use Rattle.capnp_pointers.specs.Checking.{IsTested, StartsRight}
use Rattle.capnp_pointers.proofs.CanonicalTest.FoundBySteps.{tested, pointers_room, struct_room, pointers_here, structs_here}
use Rattle.capnp_pointers.proofs.Budget.MeasuresFall.{falls_below, falls_in}
use Rattle.capnp_pointers.proofs.CanonicalTest.EndsWithin.{flat_room, flat_short, flat_size, last_of, pointers_fit, row_end, row_fits, some_section}
use Rattle.capnp_pointers.proofs.CanonicalTest.ResultFromParts.{structs_room_at, inner_levels, object_is, struct_read}
use Rattle.capnp_pointers.proofs.pointers.canonical.+tests.Goals.{test_elements-then-is_data_used, test_elements-else-is_data_used, test_elements-then-are_pointers_used, test_elements-else-are_pointers_used}
use Rattle.capnp_pointers.specs.Testing.{elements_tested, is_used, pointers_tested, some_used, test_within, unless_fault, test_values, struct_tested, structs_tested, step_result}
use Rattle.capnp_pointers.proofs.Sizes.MeasuredBySteps.{one_more, row_more}
use Rattle.capnp_pointers.proofs.CanonicalTest.TestedBySteps.{decides, empty_elsewhere, empty_there, flat_ends, flat_there, list_elsewhere, list_is, list_level, none_wide, not_near_is, not_there_is, null_tested, pointers_stop, pointers_there, refused_here, rows_halt, rows_pass, rows_stop, rows_wide, rows_wide_in_pointers, step_stopped, stopped, struct_elsewhere, struct_is, struct_there, structs_there, used_more}
use Rattle.capnp_pointers.proofs.pointers.canonical.+tests.Goals as goal

-- The elements of a list start after its tag.
behind_tag : {x : ℕ} (h : ℕ) → x ≡ h + 1 → 0 < x
behind_tag h e = omega (arith, e)

-- A loop that is at its bound.
reached : {i n : ℕ} → i ≤ n → n ≤ i → i ≡ n
reached le ge = omega (arith, le, ge)

pub test_children-loop-i-init : goal.test_children-loop-i-init
test_children-loop-i-init g t c =
    let r : Reading = reading_on g.A.ReaderArena c.args.from.now c.args.at c.args.nesting_limit in
    rw (to_z-of_z w32 c.args.nesting_limit c.ranges.nesting_limit)
    ((λ none. absurd (omega (arith, none))), λ k e. ap₂ (λ j p. test_values j (record r { at = p }) c.args.first c.args.test.now.lim) (omega (arith, e)) (sym (add-zero r.at)))

pub test_children-loop-i-preserved : goal.test_children-loop-i-preserved
test_children-loop-i-preserved g t c =
    let r : Reading = reading_on g.A.ReaderArena c.args.from.now c.args.at (to_z w32 (of_z w32 c.args.nesting_limit)) in (
      λ some. c.in_ok-head.ensures.small,
      λ k e. c.loop-i.invariant.1 (suc k) (omega (arith, e)) ∙ one_more (λ s. unless_fault (test_within r.levels s)) r c.loop-i.i (c.loop-i.i + 1) k (Ok c.loop-i.head) _ _ _ refl c.in_ok-head.ensures.computed,
    )

pub test_elements-loop-i-init : goal.test_elements-loop-i-init
test_elements-loop-i-init g t c =
    let r : Reading = reading_on g.A.ReaderArena c.args.from.now c.args.start c.args.nesting_limit in
    let d : ℕ = c.args.size.data_words in
    let q : ℕ = c.args.size.pointers in
    let head : ℕ = c.args.start + c.args.count * (d + q) in
    let from_start : r.at ≡ r.at + 0 * (d + q) = omega arith in
    let from_pointers : r.at + d ≡ r.at + 0 * (d + q) + d = omega arith in
    rw (to_z-of_z w32 c.args.nesting_limit c.ranges.nesting_limit, c.from-data_words.ensures, c.from-pointers.ensures) (
    λ k e. (
      ap₂ (λ j p. elements_tested (test_within r.levels) d q j (record r { at = p }) head c.args.test.now.lim) (omega (arith, e)) from_start,
      ap₂ (λ j p. nat_eq d 0 || some_used (record r { at = p }) d (d + q) j) (omega (arith, e)) from_start,
      ap₂ (λ j p. nat_eq q 0 || some_used (record r { at = p }) q (d + q) j) (omega (arith, e)) from_pointers,
    )
    )

pub test_elements-loop-i-preserved : goal.test_elements-loop-i-preserved
test_elements-loop-i-preserved g t c =
    let r : Reading = reading_on g.A.ReaderArena c.args.from.now c.args.start c.args.nesting_limit in
    let d : ℕ = c.args.size.data_words in
    let q : ℕ = c.args.size.pointers in
    let i : ℕ = c.loop-i.i in
    let z : Reading = reading_on g.A.ReaderArena c.args.from.now c.args.start (to_z w32 (of_z w32 c.args.nesting_limit)) in
    let data_is : c.if-is_data_used.is_data_used ≡ (c.loop-i.is_data_used || is_used (place_past z (i * (d + q))) d) =
    elim c.if-is_data_used.branch [
      | test_elements-then-is_data_used w ↦ w.is_data_used-is ∙ rw w.if-is_data_used.true refl
      | test_elements-else-is_data_used w ↦ w.is_data_used-is ∙ rw w.if-is_data_used.false (decides _ _ _ (rw (c.from-data_words.ensures, c.from-pointers.ensures, c.args.from.now.held.0) at w.is_last_word_used-is_data_used.ensures))
    ] in
    let pointers_are : c.if-are_pointers_used.are_pointers_used ≡ (c.loop-i.are_pointers_used || is_used (place_past (place_past z (i * (d + q))) d) q) =
    elim c.if-are_pointers_used.branch [
      | test_elements-then-are_pointers_used w ↦ w.are_pointers_used-is ∙ rw w.if-are_pointers_used.true refl
      | test_elements-else-are_pointers_used w ↦ w.are_pointers_used-is ∙ rw w.if-are_pointers_used.false (decides _ _ _ (rw (c.from-data_words.ensures, c.from-pointers.ensures, c.args.from.now.held.0) at w.is_last_word_used-are_pointers_used.ensures))
    ] in
    let row = rw (c.from-data_words.ensures, c.from-pointers.ensures) at c.in_ok-head.ensures in
    let first : z.at + (i * (d + q) + d) ≡ z.at + i * (d + q) + d = omega arith in
    let next : z.at + i * (d + q) + (d + q) ≡ z.at + (i + 1) * (d + q) = omega arith in
    let next_pointers : z.at + i * (d + q) + d + (d + q) ≡ z.at + (i + 1) * (d + q) + d = omega arith in
    let there = ap (λ p. pointers_tested (test_within z.levels) q (record z { at = p }) c.loop-i.head c.loop-i.test.lim) first ∙ row in (
    λ k e. (
      (c.loop-i.invariant (suc k) (omega (arith, e))).0 ∙ row_more (λ s. unless_fault (test_within z.levels s)) z d q i (i + 1) k (Ok c.loop-i.head) _ _ _ refl there,
      used_more _ _ (c.loop-i.invariant (suc k) (omega (arith, e))).1 data_is (ap (λ p. some_used (record z { at = p }) d (d + q) k) next),
      used_more _ _ (c.loop-i.invariant (suc k) (omega (arith, e))).2 pointers_are (ap (λ p. some_used (record z { at = p }) q (d + q) k) next_pointers),
    )
    )

pub test_list-test_children-requires : goal.test_list-test_children-requires
test_list-test_children-requires g t c κs within =
    let r : Reading = reading_on g.A.ReaderArena c.args.from.now c.args.at c.args.nesting_limit in
    let ready : IsTested r = c.requires.tested.ready in
    let object : IsObject Value r c.args.test.now.lim c.read_object.new.lim (ObjectPointers c.in-Pointers.start c.in-Pointers.count) =
    object_is (λ (z : ℤ). reading_on g.A.ReaderArena c.args.from.now c.args.at z) c.args.test.now.lim c.read_object.new.lim (to_z-of_z w32 c.args.nesting_limit c.ranges.nesting_limit) c.in-Pointers.is c.in-Ok.ensures.object in
    let room = subst (λ i. c.in-Pointers.start.at + c.in-Pointers.count ≤ length (segment r.segments i)) (sym (pointers_here {r = r} c.in-Pointers.start c.in-Pointers.count ready object)) (pointers_room {r = r} c.in-Pointers.start c.in-Pointers.count object) in
    (falls_in 2 (search rules) (inner_levels c.args.nesting_limit c.one_level_less.result c.ranges.nesting_limit (record { sfits = c.one_level_less.type_inv }) c.one_level_less.ensures) object.1.meets.levels c.decreases, (within, room))

pub test_list-test_struct_list-requires : goal.test_list-test_struct_list-requires
test_list-test_struct_list-requires g t c κs within =
    let r : Reading = reading_on g.A.ReaderArena c.args.from.now c.args.at c.args.nesting_limit in
    let ready : IsTested r = c.requires.tested.ready in
    let object : IsObject Value r c.args.test.now.lim c.read_object.new.lim (ObjectStructs c.in-Structs.start c.in-Structs.size c.in-Structs.count) =
    object_is (λ (z : ℤ). reading_on g.A.ReaderArena c.args.from.now c.args.at z) c.args.test.now.lim c.read_object.new.lim (to_z-of_z w32 c.args.nesting_limit c.ranges.nesting_limit) c.in-Structs.is c.in-Ok.ensures.object in
    let right : StartsRight (ObjectStructs c.in-Structs.start c.in-Structs.size c.in-Structs.count) c.args.at c.args.head = subst (λ x. StartsRight x c.args.at c.args.head) c.in-Structs.is (c.starts_canonically.ensures.0 c.if-not-starts_canonically.false) in
    let claimed : list_count (word_of r) ≡ c.list_inline_composite_word_count-claimed.result = sym (c.list_inline_composite_word_count-claimed.ensures.value ∙ ap list_count c.requires.tested.there) in
    let room = structs_room_at {r = r} c.in-Structs.start c.in-Structs.size c.in-Structs.count claimed (structs_here {r = r} c.in-Structs.start c.in-Structs.size c.in-Structs.count ready object) ready.near object in
    (falls_in 5 (search rules) (inner_levels c.args.nesting_limit c.one_level_less-inner.result c.ranges.nesting_limit (record { sfits = c.one_level_less-inner.type_inv }) c.one_level_less-inner.ensures) object.1.meets.levels c.decreases, (within, (room, behind_tag c.args.head right)))

-- A struct with at least one word that starts right starts at the head.
head_right : {n h x : ℕ} (p : ℕ) → 0 < n → x ≡ cond (nat_eq n 0) p h → x ≡ h
head_right {n} {h} p some e = e ∙ ap (λ b. cond b p h) (ne_eqb n 0 (λ none. omega (arith, none, some)))

-- The sections of a struct, if its pointers are tested before its words.

-- The elements of a list of structs.

pub test_elements-overflow_mul-at : goal.test_elements-overflow_mul-at
test_elements-overflow_mul-at g t c =
    record { fits = (row_fits c.args.start c.from-data_words.ensures c.from-pointers.ensures c.loop-i-test.true c.requires.inside c.args.from.now.held.1 c.args.from.now.held.2).0 }

pub test_elements-overflow_add-at : goal.test_elements-overflow_add-at
test_elements-overflow_add-at g t c =
    record { fits = (row_fits c.args.start c.from-data_words.ensures c.from-pointers.ensures c.loop-i-test.true c.requires.inside c.args.from.now.held.1 c.args.from.now.held.2).1 }

pub test_elements-overflow_add-first : goal.test_elements-overflow_add-first
test_elements-overflow_add-first g t c =
    record { fits = (row_fits c.args.start c.from-data_words.ensures c.from-pointers.ensures c.loop-i-test.true c.requires.inside c.args.from.now.held.1 c.args.from.now.held.2).2 }

pub test_elements-is_last_word_used-is_data_used-requires : goal.test_elements-is_last_word_used-is_data_used-requires
test_elements-is_last_word_used-is_data_used-requires g t c =
    (row_fits c.args.start c.from-data_words.ensures c.from-pointers.ensures c.loop-i-test.true c.requires.inside c.args.from.now.held.1 c.args.from.now.held.2).2

pub test_elements-is_last_word_used-are_pointers_used-requires : goal.test_elements-is_last_word_used-are_pointers_used-requires
test_elements-is_last_word_used-are_pointers_used-requires g t c =
    (row_fits c.args.start c.from-data_words.ensures c.from-pointers.ensures c.loop-i-test.true c.requires.inside c.args.from.now.held.1 c.args.from.now.held.2).3

pub test_elements-test_element_pointers-requires : goal.test_elements-test_element_pointers-requires
test_elements-test_element_pointers-requires g t c κs within =
    (falls_below 3 0 (ap levels (to_z-of_z w32 c.args.nesting_limit c.ranges.nesting_limit)) c.decreases, (within, row_end c.args.start c.from-data_words.ensures c.from-pointers.ensures c.loop-i-test.true c.requires.inside))

pub test_list-overflow_add-end : goal.test_list-overflow_add-end
test_list-overflow_add-end g t c =
    let r : Reading = reading_on g.A.ReaderArena c.args.from.now c.args.at (to_z w32 (of_z w32 c.args.nesting_limit)) in
    let object : IsObject Value r c.args.test.now.lim c.read_object.new.lim (ObjectPointers c.in-Pointers.start c.in-Pointers.count) = subst (λ o. IsObject Value r c.args.test.now.lim c.read_object.new.lim o) c.in-Pointers.is c.in-Ok.ensures.object in
    record { fits = pointers_fit {r = r} c.in-Pointers.start c.in-Pointers.count object }

pub test_list-test_primitive_list-requires : goal.test_list-test_primitive_list-requires
test_list-test_primitive_list-requires g t c =
    let r : Reading = reading_on g.A.ReaderArena c.args.from.now c.args.at (to_z w32 (of_z w32 c.args.nesting_limit)) in
    let object : IsObject Value r c.args.test.now.lim c.read_object.new.lim (ObjectFlat c.in-Flat.start c.in-Flat.size c.in-Flat.count) = subst (λ o. IsObject Value r c.args.test.now.lim c.read_object.new.lim o) c.in-Flat.is c.in-Ok.ensures.object in
    record {
      inside = flat_room {r = r} c.in-Flat.start c.in-Flat.size c.in-Flat.count object;
      small = flat_short {r = r} c.in-Flat.start c.in-Flat.size c.in-Flat.count object;
      is_flat = flat_size {r = r} c.in-Flat.start c.in-Flat.size c.in-Flat.count object;
      few = subst IsFew c.in-Flat.is c.in-Ok.ensures.few;
    }

pub test_struct-test_sections-requires : goal.test_struct-test_sections-requires
test_struct-test_sections-requires g t c κs within =
    let r : Reading = reading_on g.A.ReaderArena c.args.from.now c.args.at c.args.nesting_limit in
    let ready : IsTested r = c.requires.tested.ready in
    let start = record c.args.from.now.place { at = c.in-Ok.start } in
    let size = c.struct_size-size.result in
    let entered : EntersNear Value r c.args.test.now.lim c.read_near_struct.new.lim c.in-Ok.start =
    subst (λ (z : ℤ). EntersNear Value (reading_on g.A.ReaderArena c.args.from.now c.args.at z) c.args.test.now.lim c.read_near_struct.new.lim c.in-Ok.start) (to_z-of_z w32 c.args.nesting_limit c.ranges.nesting_limit) c.in-Ok.ensures.object in
    let object : IsObject Value r c.args.test.now.lim c.read_near_struct.new.lim (ObjectStruct start size) =
    struct_read {r = r} start size c.requires.tested.there c.requires.is_struct c.args.from.now.held refl entered c.struct_size-size.ensures.data_of c.struct_size-size.ensures.pointers_of in
    let inner = inner_levels c.args.nesting_limit c.one_level_less.result c.ranges.nesting_limit (record { sfits = c.one_level_less.type_inv }) c.one_level_less.ensures in
    (falls_in 4 (search rules) inner object.1.meets.levels c.decreases, (within, struct_room {r = r} start size object))

pub test_sections-overflow_sub-first : goal.test_sections-overflow_sub-first
test_sections-overflow_sub-first g t c =
    last_of c.args.start (some_section c.from-data_words.result c.if-not-is_last_word_used.true c.is_last_word_used.ensures)

pub test_sections-overflow_sub-behind : goal.test_sections-overflow_sub-behind
test_sections-overflow_sub-behind g t c =
    last_of (c.args.start + c.from-data_words.result) (some_section c.from-pointers.result c.if-not-is_last_word_used-2.true c.is_last_word_used-2.ensures)

pub test_place-returns-then-at-whole_words-clause-computed : goal.test_place-returns-then-at-whole_words-clause-computed
test_place-returns-then-at-whole_words-clause-computed g t c =
    let r : Reading = reading_on g.A.ReaderArena c.args.from.now c.args.at c.args.nesting_limit in
    not_there_is r.levels r c.args.head c.args.test.now.lim (λ there. omega (arith, there, c.whole_words.ensures.count, ap length c.args.from.now.held.0, c.if-at-whole_words.true))
    ∙ ap (λ a. stopped a c.args.test.now.lim) (sym c.stop_with_fault.ensures)

pub test_place-returns-then-not-is_positional-clause-computed : goal.test_place-returns-then-not-is_positional-clause-computed
test_place-returns-then-not-is_positional-clause-computed g t c =
    let r : Reading = reading_on g.A.ReaderArena c.args.from.now c.args.at c.args.nesting_limit in
    let word : c.word-word.result.0 ≡ word_of r = c.word-word.ensures.value ∙ ap (λ ws. get_or ws c.args.at 0) c.args.from.now.held.0 in
    let far : kind c.word-word.result.0 < 2 → ⊥ = λ near. false≢true (sym c.if-not-is_positional.true ∙ c.is_positional.ensures.1 near) in
    not_near_is r.levels r c.args.head c.args.test.now.lim (omega (arith, c.whole_words.ensures.count, ap length c.args.from.now.held.0, c.if-at-whole_words.false)) (subst (λ w. kind w < 2 → ⊥) word far)
    ∙ rw (sym word) (ap (λ a. stopped a c.args.test.now.lim) (sym (rw c.reason_of.ensures at c.stop_with_fault-then-not-is_positional.ensures)))

pub test_place-returns-then-is_null-clause-computed : goal.test_place-returns-then-is_null-clause-computed
test_place-returns-then-is_null-clause-computed g t c =
    let r : Reading = reading_on g.A.ReaderArena c.args.from.now c.args.at c.args.nesting_limit in
    let word : c.word-word.result.0 ≡ word_of r = c.word-word.ensures.value ∙ ap (λ ws. get_or ws c.args.at 0) c.args.from.now.held.0 in
    null_tested r.levels r c.args.head c.args.test.now.lim (omega (arith, c.whole_words.ensures.count, ap length c.args.from.now.held.0, c.if-at-whole_words.false)) (sym word ∙ c.is_null.ensures.0 c.if-is_null.true)

pub test_children-returns-in_err-head-clause-computed : goal.test_children-returns-in_err-head-clause-computed
test_children-returns-in_err-head-clause-computed g t c =
    let r : Reading = reading_on g.A.ReaderArena c.args.from.now c.args.at (to_z w32 (of_z w32 c.args.nesting_limit)) in
    let nl = to_z-of_z w32 c.args.nesting_limit c.ranges.nesting_limit in
    let rest = c.loop-i.invariant.1 (suc (c.args.count - c.loop-i.i - 1)) (omega (arith, c.loop-i-test.true)) in
    let whole = rest ∙ pointers_stop (test_within r.levels) (c.args.count - c.loop-i.i - 1) (place_past r c.loop-i.i) _ _ _ _ c.in_err-head.ensures.computed in
    rw nl at whole ∙ ap (λ x. (x, c.test_place.new.test.lim)) (step_stopped c.from_residual.result _ c.from_residual.ensures.0)

pub test_children-returns-clause-computed : goal.test_children-returns-clause-computed
test_children-returns-clause-computed g t c =
    let nl = to_z-of_z w32 c.args.nesting_limit c.ranges.nesting_limit in
    rw nl at (c.loop-i.invariant.1 0 (omega (arith, c.loop-i-test.false, c.loop-i.auto.i-end)))

pub test_struct-returns-in-Err : goal.test_struct-returns-in-Err
test_struct-returns-in-Err g t c =
    let r : Reading = reading_on g.A.ReaderArena c.args.from.now c.args.at c.args.nesting_limit in
    let nl = to_z-of_z w32 c.args.nesting_limit c.ranges.nesting_limit in
    refused_here {r = r} c.args.head c.requires.tested (rw nl at c.in-Err.ensures.refused) c.stop_with_refusal.ensures

pub test_struct-returns-then-start-at : goal.test_struct-returns-then-start-at
test_struct-returns-then-start-at g t c =
    let r : Reading = reading_on g.A.ReaderArena c.args.from.now c.args.at c.args.nesting_limit in
    let nl = to_z-of_z w32 c.args.nesting_limit c.ranges.nesting_limit in
    let size = c.struct_size-size.result in
    struct_is {r = r} c.args.head size c.requires.tested c.requires.is_struct (rw nl at c.in-Ok.ensures.object) c.struct_size-size.ensures.data_of c.struct_size-size.ensures.pointers_of
    ∙ empty_there r r.segment c.in-Ok.start size.data_words size.pointers c.args.head c.read_near_struct.new.lim (sym c.total.ensures ∙ c.if-total-eq0.true) c.if-start-at.true

pub test_struct-returns-then-total-eq0 : goal.test_struct-returns-then-total-eq0
test_struct-returns-then-total-eq0 g t c =
    let r : Reading = reading_on g.A.ReaderArena c.args.from.now c.args.at c.args.nesting_limit in
    let nl = to_z-of_z w32 c.args.nesting_limit c.ranges.nesting_limit in
    let size = c.struct_size-size.result in
    struct_is {r = r} c.args.head size c.requires.tested c.requires.is_struct (rw nl at c.in-Ok.ensures.object) c.struct_size-size.ensures.data_of c.struct_size-size.ensures.pointers_of
    ∙ empty_elsewhere r r.segment c.in-Ok.start size.data_words size.pointers c.args.head c.read_near_struct.new.lim (sym c.total.ensures ∙ c.if-total-eq0.true) c.if-start-at.false
    ∙ ap (λ a. stopped a c.read_near_struct.new.lim) (sym c.stop_with_fault.ensures)

pub test_struct-returns-then-start-head : goal.test_struct-returns-then-start-head
test_struct-returns-then-start-head g t c =
    let r : Reading = reading_on g.A.ReaderArena c.args.from.now c.args.at c.args.nesting_limit in
    let nl = to_z-of_z w32 c.args.nesting_limit c.ranges.nesting_limit in
    let size = c.struct_size-size.result in
    struct_is {r = r} c.args.head size c.requires.tested c.requires.is_struct (rw nl at c.in-Ok.ensures.object) c.struct_size-size.ensures.data_of c.struct_size-size.ensures.pointers_of
    ∙ struct_elsewhere r r.segment c.in-Ok.start size.data_words size.pointers c.args.head c.read_near_struct.new.lim (λ none. c.if-total-eq0.false (c.total.ensures ∙ none)) c.if-start-head.true
    ∙ ap (λ a. stopped a c.read_near_struct.new.lim) (sym c.stop_with_fault-then-start-head.ensures)

pub test_struct-returns : goal.test_struct-returns
test_struct-returns g t c =
    let r : Reading = reading_on g.A.ReaderArena c.args.from.now c.args.at c.args.nesting_limit in
    let nl = to_z-of_z w32 c.args.nesting_limit c.ranges.nesting_limit in
    let size = c.struct_size-size.result in
    let inner = inner_levels c.args.nesting_limit c.one_level_less.result c.ranges.nesting_limit (record { sfits = c.one_level_less.type_inv }) c.one_level_less.ensures in
    struct_is {r = r} c.args.head size c.requires.tested c.requires.is_struct (rw nl at c.in-Ok.ensures.object) c.struct_size-size.ensures.data_of c.struct_size-size.ensures.pointers_of
    ∙ struct_there r r.segment c.in-Ok.start size.data_words size.pointers c.args.head c.read_near_struct.new.lim (λ none. c.if-total-eq0.false (c.total.ensures ∙ none)) c.if-start-head.false
    ∙ subst (λ n. struct_tested (test_within n) size.data_words size.pointers (record r { levels = n; at = c.in-Ok.start }) c.read_near_struct.new.lim ≡ (step_result c.test_sections.result c.test_sections.new.test.answer, c.test_sections.new.test.lim)) inner
    c.test_sections.ensures

pub test_list-returns-in-Err : goal.test_list-returns-in-Err
test_list-returns-in-Err g t c =
    let r : Reading = reading_on g.A.ReaderArena c.args.from.now c.args.at c.args.nesting_limit in
    let nl = to_z-of_z w32 c.args.nesting_limit c.ranges.nesting_limit in
    refused_here {r = r} c.args.head c.requires.tested (rw nl at c.in-Err.ensures.refused) c.stop_with_refusal.ensures

pub test_list-returns-then-not-starts_canonically : goal.test_list-returns-then-not-starts_canonically
test_list-returns-then-not-starts_canonically g t c =
    let r : Reading = reading_on g.A.ReaderArena c.args.from.now c.args.at c.args.nesting_limit in
    let object : IsObject Value r c.args.test.now.lim c.read_object.new.lim c.in-Ok.object = rw (to_z-of_z w32 c.args.nesting_limit c.ranges.nesting_limit) at c.in-Ok.ensures.object in
    let other : StartsRight c.in-Ok.object c.args.at c.args.head → ⊥ = λ right. false≢true (sym c.if-not-starts_canonically.true ∙ c.starts_canonically.ensures.1 right) in
    list_is {r = r} c.args.head _ _ {x = c.in-Ok.object} c.requires.tested c.requires.is_list refl object
    ∙ list_elsewhere r c.in-Ok.object c.args.head c.read_object.new.lim (list_level {r = r} _ _ c.in-Ok.object c.requires.tested c.requires.is_list object).1 other
    ∙ ap (λ a. stopped a c.read_object.new.lim) (sym c.stop_with_fault.ensures)

pub test_list-returns-in-Flat : goal.test_list-returns-in-Flat
test_list-returns-in-Flat g t c =
    let r : Reading = reading_on g.A.ReaderArena c.args.from.now c.args.at c.args.nesting_limit in
    let object : IsObject Value r c.args.test.now.lim c.read_object.new.lim c.in-Ok.object = rw (to_z-of_z w32 c.args.nesting_limit c.ranges.nesting_limit) at c.in-Ok.ensures.object in
    let start = c.in-Flat.start in
    let same : IsObject Value r c.args.test.now.lim c.read_object.new.lim (ObjectFlat start c.in-Flat.size c.in-Flat.count) = rw c.in-Flat.is at object in
    let right = rw c.in-Flat.is at (c.starts_canonically.ensures.0 c.if-not-starts_canonically.false) in
    list_is {r = r} c.args.head _ _ c.requires.tested c.requires.is_list c.in-Flat.is object
    ∙ flat_there r start.segment start.at _ c.in-Flat.count c.args.head c.read_object.new.lim right
    ∙ flat_ends c.test_primitive_list.result (record r { segment = start.segment; at = start.at }) c.test_primitive_list.new.answer c.read_object.new.lim _ c.in-Flat.size c.in-Flat.count same.4.0.0 c.test_primitive_list.ensures.tells c.test_primitive_list.ensures.never c.test_primitive_list.ensures.failed

pub test_list-returns-in-Pointers : goal.test_list-returns-in-Pointers
test_list-returns-in-Pointers g t c =
    let r : Reading = reading_on g.A.ReaderArena c.args.from.now c.args.at c.args.nesting_limit in
    let object : IsObject Value r c.args.test.now.lim c.read_object.new.lim c.in-Ok.object = rw (to_z-of_z w32 c.args.nesting_limit c.ranges.nesting_limit) at c.in-Ok.ensures.object in
    let start = c.in-Pointers.start in
    let same : IsObject Value r c.args.test.now.lim c.read_object.new.lim (ObjectPointers start c.in-Pointers.count) = rw c.in-Pointers.is at object in
    let right = rw c.in-Pointers.is at (c.starts_canonically.ensures.0 c.if-not-starts_canonically.false) in
    let inner = inner_levels c.args.nesting_limit c.one_level_less.result c.ranges.nesting_limit (record { sfits = c.one_level_less.type_inv }) c.one_level_less.ensures in
    let here = pointers_here {r = r} start c.in-Pointers.count c.requires.tested.ready same in
    list_is {r = r} c.args.head _ _ c.requires.tested c.requires.is_list c.in-Pointers.is object
    ∙ pointers_there r start.segment start.at c.in-Pointers.count c.args.head c.read_object.new.lim right
    ∙ ap (λ s. pointers_tested (test_within (pred r.levels)) c.in-Pointers.count (record r { levels = pred r.levels; segment = s; at = start.at }) (start.at + c.in-Pointers.count) c.read_object.new.lim) (sym here)
    ∙ rw inner at c.test_children.ensures.computed

pub test_list-returns-in-Structs : goal.test_list-returns-in-Structs
test_list-returns-in-Structs g t c =
    let r : Reading = reading_on g.A.ReaderArena c.args.from.now c.args.at c.args.nesting_limit in
    let object : IsObject Value r c.args.test.now.lim c.read_object.new.lim c.in-Ok.object = rw (to_z-of_z w32 c.args.nesting_limit c.ranges.nesting_limit) at c.in-Ok.ensures.object in
    let start = c.in-Structs.start in
    let same : IsObject Value r c.args.test.now.lim c.read_object.new.lim (ObjectStructs start c.in-Structs.size c.in-Structs.count) = rw c.in-Structs.is at object in
    let right = rw c.in-Structs.is at (c.starts_canonically.ensures.0 c.if-not-starts_canonically.false) in
    let inner = inner_levels c.args.nesting_limit c.one_level_less-inner.result c.ranges.nesting_limit (record { sfits = c.one_level_less-inner.type_inv }) c.one_level_less-inner.ensures in
    let here = structs_here {r = r} start c.in-Structs.size c.in-Structs.count c.requires.tested.ready same in
    let claimed : c.list_inline_composite_word_count-claimed.result ≡ list_count (word_of r) = c.list_inline_composite_word_count-claimed.ensures.value ∙ ap list_count c.requires.tested.there in
    list_is {r = r} c.args.head _ _ c.requires.tested c.requires.is_list c.in-Structs.is object
    ∙ structs_there r start.segment start.at c.in-Structs.count c.args.head c.in-Structs.size c.read_object.new.lim right
    ∙ ap (λ s. structs_tested (test_within (pred r.levels)) (list_count (word_of r)) c.in-Structs.size c.in-Structs.count (record r { levels = pred r.levels; segment = s; at = start.at }) c.read_object.new.lim) (sym here)
    ∙ rw (inner, claimed) at c.test_struct_list.ensures

pub test_struct_list-returns-then-total-eq0 : goal.test_struct_list-returns-then-total-eq0
test_struct_list-returns-then-total-eq0 g t c =
    let r : Reading = reading_on g.A.ReaderArena c.args.from.now c.args.start c.args.nesting_limit in
    let none : c.args.size.data_words + c.args.size.pointers ≡ 0 = sym c.total-2.ensures ∙ c.if-total-eq0.true in
    let exact : c.args.count * (c.args.size.data_words + c.args.size.pointers) ≡ c.args.claimed = sym (ap₂ (λ x y. x * y) c.from.ensures (c.from-2.ensures ∙ c.total.ensures)) ∙ c.if-from.false ∙ c.from-3.ensures in
    none_wide (test_within (levels c.args.nesting_limit)) c.args.size c.args.claimed c.args.count r c.args.test.now.lim exact none

-- The elements of a list of structs, of which i are tested.

pub test_elements-returns-in_err-head : goal.test_elements-returns-in_err-head
test_elements-returns-in_err-head g t c =
    let r : Reading = reading_on g.A.ReaderArena c.args.from.now c.args.start (to_z w32 (of_z w32 c.args.nesting_limit)) in
    let nl = to_z-of_z w32 c.args.nesting_limit c.ranges.nesting_limit in
    let d : ℕ = c.args.size.data_words in
    let q : ℕ = c.args.size.pointers in
    let i : ℕ = c.loop-i.i in
    let f = test_within r.levels in
    let stops = rw (c.from-data_words.ensures, c.from-pointers.ensures) at c.in_err-head.ensures in
    let rest = (c.loop-i.invariant (suc (c.args.count - i - 1)) (omega (arith, c.loop-i-test.true))).0 in
    let whole = rows_halt f d q c.args.count r c.args.test.now.lim c.test_element_pointers.new.test.lim c.test_element_pointers.new.test.answer (rest ∙ rows_stop f d q (c.args.count - i - 1) (place_past r (i * (d + q))) c.loop-i.head c.test_element_pointers.new.test.answer c.loop-i.test.lim c.test_element_pointers.new.test.lim stops) in
    rw nl at whole ∙ ap (λ x. (x, c.test_element_pointers.new.test.lim)) (step_stopped c.from_residual.result _ c.from_residual.ensures.0)

pub test_elements-returns-then-not-is_data_used : goal.test_elements-returns-then-not-is_data_used
test_elements-returns-then-not-is_data_used g t c =
    let r : Reading = reading_on g.A.ReaderArena c.args.from.now c.args.start c.args.nesting_limit in
    let nl = to_z-of_z w32 c.args.nesting_limit c.ranges.nesting_limit in
    let d : ℕ = c.args.size.data_words in
    let q : ℕ = c.args.size.pointers in
    let all = rw (nl, c.if-not-is_data_used.true) at (c.loop-i.invariant 0 (omega (arith, c.loop-i-test.false, c.loop-i.auto.i-end))) in
    rows_wide (test_within r.levels) d q c.args.count c.loop-i.head r c.args.test.now.lim c.loop-i.test.lim all.0 all.1 ∙ ap (λ a. stopped a c.loop-i.test.lim) (sym c.stop_with_fault.ensures)

pub test_elements-returns-then-not-are_pointers_used : goal.test_elements-returns-then-not-are_pointers_used
test_elements-returns-then-not-are_pointers_used g t c =
    let r : Reading = reading_on g.A.ReaderArena c.args.from.now c.args.start c.args.nesting_limit in
    let nl = to_z-of_z w32 c.args.nesting_limit c.ranges.nesting_limit in
    let d : ℕ = c.args.size.data_words in
    let q : ℕ = c.args.size.pointers in
    let all = rw (nl, c.if-not-is_data_used.false, c.if-not-are_pointers_used.true) at (c.loop-i.invariant 0 (omega (arith, c.loop-i-test.false, c.loop-i.auto.i-end))) in
    rows_wide_in_pointers (test_within r.levels) d q c.args.count c.loop-i.head r c.args.test.now.lim c.loop-i.test.lim all.0 all.1 all.2 ∙ ap (λ a. stopped a c.loop-i.test.lim) (sym c.stop_with_fault-then-not-are_pointers_used.ensures)

pub test_elements-returns : goal.test_elements-returns
test_elements-returns g t c =
    let r : Reading = reading_on g.A.ReaderArena c.args.from.now c.args.start c.args.nesting_limit in
    let nl = to_z-of_z w32 c.args.nesting_limit c.ranges.nesting_limit in
    let d : ℕ = c.args.size.data_words in
    let q : ℕ = c.args.size.pointers in
    let all = rw (nl, c.if-not-is_data_used.false, c.if-not-are_pointers_used.false) at (c.loop-i.invariant 0 (omega (arith, c.loop-i-test.false, c.loop-i.auto.i-end))) in
    rows_pass (test_within r.levels) d q c.args.count c.loop-i.head r c.args.test.now.lim c.loop-i.test.lim all.0 all.1 all.2
