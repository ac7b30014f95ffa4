use Rattle.std.proofs.Common.{◌≡◌, ℕ, suc, ◌+◌, ◌*◌, ◌-◌, Ok, refl, ap, ap₂, sym, ◌∙◌, subst, arith, rules, pred}
use Rattle.std.proofs.lemmas.Int.{to_z-of_z}
use mir.Syntax.{w32}
use mir.Val.{to_z, of_z}
use Rattle.capnp_arena_traits.specs.Allocations.{max_segment_words}
use Rattle.capnp_pointers.specs.Enter.{object_shape}
use Rattle.capnp_pointers.specs.Measure.{fold_pointers}
use Rattle.capnp_pointers.specs.Objects.{IsObject}
use Rattle.capnp_pointers.specs.declared.object.Purpose.TheVariants.{Value}
use Rattle.capnp_pointers.specs.Reading.{Reading, place_past}
use Rattle.capnp_pointers.specs.Pointers.{reading, reading_on}
use Rattle.capnp_pointers.proofs.Budget.MeasuresFall.{falls_in}
use Rattle.capnp_pointers.proofs.Sizes.MeasuredBySteps.{no_pointers, one_more, one_stops, row_more, row_stops}
use Rattle.capnp_pointers.proofs.CanonicalTest.ResultFromParts.{inner_levels}
use Rattle.capnp_pointers.proofs.OneObject.ReadAsStated.{object_is, stopped_is}
use Rattle.capnp_messages.specs.MadeWords.{made_within}
use Rattle.capnp_messages.proofs.MadeSteps.{Counted, leaf_counted, no_copy, pointers_counted, struct_counted, structs_counted, structs_inside, structs_level, sum_over, unread}
use Rattle.capnp_messages.proofs.messages.copy_size.+copy_size.Goals as goal

pub add_pointers-returns-in-Err : goal.add_pointers-returns-in-Err
add_pointers-returns-in-Err g t c =
    let r : Reading = reading_on g.A.ReaderArena c.args.from.now c.args.at (to_z w32 (of_z w32 c.args.nesting_limit)) in
    let nl = to_z-of_z w32 c.args.nesting_limit c.ranges.nesting_limit in
    let rest = c.loop-i.invariant (suc (c.args.count - c.loop-i.i - 1)) (omega (arith, c.loop-i-test.true)) in
    let whole = rest ∙ one_stops (made_within max_segment_words r.levels) (place_past r c.loop-i.i) (c.args.count - c.loop-i.i - 1) _ _ _ _ c.in-Err.ensures in
    rw nl at whole

pub add_pointers-loop-i-preserved : goal.add_pointers-loop-i-preserved
add_pointers-loop-i-preserved g t c =
    let r : Reading = reading_on g.A.ReaderArena c.args.from.now c.args.at (to_z w32 (of_z w32 c.args.nesting_limit)) in
    λ k e. c.loop-i.invariant (suc k) (omega (arith, e)) ∙ one_more (made_within max_segment_words r.levels) r c.loop-i.i (c.loop-i.i + 1) k _ _ _ _ refl c.in-Ok.ensures

pub add_pointers-returns : goal.add_pointers-returns
add_pointers-returns g t c =
    let nl = to_z-of_z w32 c.args.nesting_limit c.ranges.nesting_limit in
    rw nl at (c.loop-i.invariant 0 (omega (arith, c.loop-i-test.false, c.loop-i.auto.i-end)))

pub add_elements-returns-then-size-eq0 : goal.add_elements-returns-then-size-eq0
add_elements-returns-then-size-eq0 g t c =
    let r : Reading = reading g.A.ReaderArena c.args.from.now in
    rw c.if-size-eq0.true (no_pointers (made_within max_segment_words r.levels) r c.args.size.data_words c.args.count c.args.words c.args.lim.now)

pub add_elements-returns-in-Err : goal.add_elements-returns-in-Err
add_elements-returns-in-Err g t c =
    let r : Reading = reading g.A.ReaderArena c.args.from.now in
    let d : ℕ = c.args.size.data_words in
    let q : ℕ = c.args.size.pointers in
    let at : c.from-in-loop-i.result + c.from-in-loop-i-2.result * (c.from-data.result + c.from.result) + c.from-data.result ≡ r.at + (c.loop-i.i * (d + q) + d) =
    ap₂ (λ x y. x + y) (ap₂ (λ x y. x + y) c.from-in-loop-i.ensures (ap₂ (λ x y. x * y) c.from-in-loop-i-2.ensures (ap₂ (λ x y. x + y) c.from-data.ensures (c.from.ensures ∙ c.from-pointers.ensures)))) c.from-data.ensures ∙ omega arith in
    let nl = to_z-of_z w32 c.args.from.now.nesting_limit (search rules) in
    let i : ℕ = c.loop-i.i in
    let stops = ap (λ p. fold_pointers (made_within max_segment_words r.levels) q (record r { at = p }) c.loop-i.sum c.loop-i.lim) (omega arith) ∙ rw (at, nl, c.from-pointers.ensures) at c.in-Err.ensures in
    c.loop-i.invariant (suc (c.args.count - i - 1)) (omega (arith, c.loop-i-test.true))
    ∙ row_stops (made_within max_segment_words r.levels) (place_past r (i * (d + q))) d q (c.args.count - i - 1) _ _ _ _ stops

pub add_elements-loop-i-preserved : goal.add_elements-loop-i-preserved
add_elements-loop-i-preserved g t c =
    let r : Reading = reading g.A.ReaderArena c.args.from.now in
    let d : ℕ = c.args.size.data_words in
    let q : ℕ = c.args.size.pointers in
    let at : c.from-in-loop-i.result + c.from-in-loop-i-2.result * (c.from-data.result + c.from.result) + c.from-data.result ≡ r.at + (c.loop-i.i * (d + q) + d) =
    ap₂ (λ x y. x + y) (ap₂ (λ x y. x + y) c.from-in-loop-i.ensures (ap₂ (λ x y. x * y) c.from-in-loop-i-2.ensures (ap₂ (λ x y. x + y) c.from-data.ensures (c.from.ensures ∙ c.from-pointers.ensures)))) c.from-data.ensures ∙ omega arith in
    let nl = to_z-of_z w32 c.args.from.now.nesting_limit (search rules) in
    λ k e. c.loop-i.invariant (suc k) (omega (arith, e)) ∙ row_more (made_within max_segment_words r.levels) r d q c.loop-i.i (c.loop-i.i + 1) k _ _ _ _ refl (rw (at, nl, c.from-pointers.ensures) at c.in-Ok.ensures)

pub add_elements-returns : goal.add_elements-returns
add_elements-returns g t c =
    c.loop-i.invariant 0 (omega (arith, c.loop-i-test.false, c.loop-i.auto.i-end))

pub add_value-returns-in-Err : goal.add_value-returns-in-Err
add_value-returns-in-Err g t c =
    let r : Reading = reading_on g.A.ReaderArena c.args.from.now c.args.at c.args.nesting_limit in
    let nl = to_z-of_z w32 c.args.nesting_limit c.ranges.nesting_limit in
    unread max_segment_words r c.args.words c.args.lim.now c.read_object.new.lim c.in-Err.kind (stopped_is Value r c.args.lim.now c.read_object.new.lim c.in-Err.kind (λ e. absurd (cc e)) (rw nl at c.in-Err.ensures.refused))

pub add_value-returns-in-Err-refuse_capability : goal.add_value-returns-in-Err-refuse_capability
add_value-returns-in-Err-refuse_capability g t c =
    let r : Reading = reading_on g.A.ReaderArena c.args.from.now c.args.at c.args.nesting_limit in
    let nl = to_z-of_z w32 c.args.nesting_limit c.ranges.nesting_limit in
    let object : IsObject Value r c.args.lim.now c.read_object.new.lim c.in-Ok.object = rw nl at c.in-Ok.ensures.object in
    no_copy max_segment_words r c.args.words c.args.lim.now c.read_object.new.lim (object_shape c.in-Ok.object) c.in-Err-refuse_capability.kind (object_is Value r c.args.lim.now c.read_object.new.lim c.in-Ok.object object) (sym c.in-Err-refuse_capability.ensures)

pub add_value-returns-in-Err-sum_of_words : goal.add_value-returns-in-Err-sum_of_words
add_value-returns-in-Err-sum_of_words g t c =
    let r : Reading = reading_on g.A.ReaderArena c.args.from.now c.args.at c.args.nesting_limit in
    let nl = to_z-of_z w32 c.args.nesting_limit c.ranges.nesting_limit in
    let object : IsObject Value r c.args.lim.now c.read_object.new.lim c.in-Ok.object = rw nl at c.in-Ok.ensures.object in
    sum_over max_segment_words c.args.words r c.args.lim.now c.read_object.new.lim c.in-Ok.object c.in-Err-sum_of_words.kind object (sym c.in-Ok-refuse_capability.ensures) (rw c.object_words.ensures at (c.in-Err-sum_of_words.ensures c.read_object.new.lim))

pub add_value-returns-in-Null : goal.add_value-returns-in-Null
add_value-returns-in-Null g t c =
    let r : Reading = reading_on g.A.ReaderArena c.args.from.now c.args.at c.args.nesting_limit in
    let nl = to_z-of_z w32 c.args.nesting_limit c.ranges.nesting_limit in
    let counted : Counted max_segment_words c.args.words r c.args.lim.now c.read_object.new.lim c.in-Ok.object c.in-Ok-sum_of_words.sum =
    record { is_read = rw nl at c.in-Ok.ensures.object; permits = sym c.in-Ok-refuse_capability.ensures; sum = rw c.object_words.ensures at (c.in-Ok-sum_of_words.ensures c.read_object.new.lim) } in
    leaf_counted c.in-Ok.object _ c.in-Null.is (λ f s y. refl) counted

pub add_value-returns-in-Capability : goal.add_value-returns-in-Capability
add_value-returns-in-Capability g t c =
    let r : Reading = reading_on g.A.ReaderArena c.args.from.now c.args.at c.args.nesting_limit in
    let nl = to_z-of_z w32 c.args.nesting_limit c.ranges.nesting_limit in
    let counted : Counted max_segment_words c.args.words r c.args.lim.now c.read_object.new.lim c.in-Ok.object c.in-Ok-sum_of_words.sum =
    record { is_read = rw nl at c.in-Ok.ensures.object; permits = sym c.in-Ok-refuse_capability.ensures; sum = rw c.object_words.ensures at (c.in-Ok-sum_of_words.ensures c.read_object.new.lim) } in
    leaf_counted c.in-Ok.object _ c.in-Capability.is (λ f s y. refl) counted

pub add_value-returns-in-Flat : goal.add_value-returns-in-Flat
add_value-returns-in-Flat g t c =
    let r : Reading = reading_on g.A.ReaderArena c.args.from.now c.args.at c.args.nesting_limit in
    let nl = to_z-of_z w32 c.args.nesting_limit c.ranges.nesting_limit in
    let counted : Counted max_segment_words c.args.words r c.args.lim.now c.read_object.new.lim c.in-Ok.object c.in-Ok-sum_of_words.sum =
    record { is_read = rw nl at c.in-Ok.ensures.object; permits = sym c.in-Ok-refuse_capability.ensures; sum = rw c.object_words.ensures at (c.in-Ok-sum_of_words.ensures c.read_object.new.lim) } in
    leaf_counted c.in-Ok.object _ c.in-Flat.is (λ f s y. refl) counted

pub add_value-returns-in-Struct : goal.add_value-returns-in-Struct
add_value-returns-in-Struct g t c =
    let r : Reading = reading_on g.A.ReaderArena c.args.from.now c.args.at c.args.nesting_limit in
    let nl = to_z-of_z w32 c.args.nesting_limit c.ranges.nesting_limit in
    let inner = inner_levels c.args.nesting_limit c.one_level_less-inner.result c.ranges.nesting_limit (record { sfits = c.one_level_less-inner.type_inv }) c.one_level_less-inner.ensures in
    let counted : Counted max_segment_words c.args.words r c.args.lim.now c.read_object.new.lim c.in-Ok.object c.in-Ok-sum_of_words.sum =
    record { is_read = rw nl at c.in-Ok.ensures.object; permits = sym c.in-Ok-refuse_capability.ensures; sum = rw c.object_words.ensures at (c.in-Ok-sum_of_words.ensures c.read_object.new.lim) } in
    struct_counted c.in-Ok.object c.in-Struct.start c.in-Struct.size c.in-Struct.is counted inner ∙ c.add_elements.ensures

pub add_value-returns-in-Pointers : goal.add_value-returns-in-Pointers
add_value-returns-in-Pointers g t c =
    let r : Reading = reading_on g.A.ReaderArena c.args.from.now c.args.at c.args.nesting_limit in
    let nl = to_z-of_z w32 c.args.nesting_limit c.ranges.nesting_limit in
    let inner = inner_levels c.args.nesting_limit c.one_level_less-inner.result c.ranges.nesting_limit (record { sfits = c.one_level_less-inner.type_inv }) c.one_level_less-inner.ensures in
    let counted : Counted max_segment_words c.args.words r c.args.lim.now c.read_object.new.lim c.in-Ok.object c.in-Ok-sum_of_words.sum =
    record { is_read = rw nl at c.in-Ok.ensures.object; permits = sym c.in-Ok-refuse_capability.ensures; sum = rw c.object_words.ensures at (c.in-Ok-sum_of_words.ensures c.read_object.new.lim) } in
    pointers_counted c.in-Ok.object c.in-Pointers.start c.in-Pointers.count c.in-Pointers.is counted inner ∙ c.add_pointers.ensures

pub add_value-returns-in-Structs : goal.add_value-returns-in-Structs
add_value-returns-in-Structs g t c =
    let r : Reading = reading_on g.A.ReaderArena c.args.from.now c.args.at c.args.nesting_limit in
    let nl = to_z-of_z w32 c.args.nesting_limit c.ranges.nesting_limit in
    let inner = inner_levels c.args.nesting_limit c.one_level_less-inner.result c.ranges.nesting_limit (record { sfits = c.one_level_less-inner.type_inv }) c.one_level_less-inner.ensures in
    let counted : Counted max_segment_words c.args.words r c.args.lim.now c.read_object.new.lim c.in-Ok.object c.in-Ok-sum_of_words.sum =
    record { is_read = rw nl at c.in-Ok.ensures.object; permits = sym c.in-Ok-refuse_capability.ensures; sum = rw c.object_words.ensures at (c.in-Ok-sum_of_words.ensures c.read_object.new.lim) } in
    structs_counted c.in-Ok.object c.in-Structs.start c.in-Structs.size c.in-Structs.count c.in-Structs.is counted inner ∙ c.add_elements-in-Structs.ensures

pub add_value-add_elements-requires-in-Structs : goal.add_value-add_elements-requires-in-Structs
add_value-add_elements-requires-in-Structs g t c =
    let r : Reading = reading_on g.A.ReaderArena c.args.from.now c.args.at c.args.nesting_limit in
    let nl = to_z-of_z w32 c.args.nesting_limit c.ranges.nesting_limit in
    let inner = inner_levels c.args.nesting_limit c.one_level_less-inner.result c.ranges.nesting_limit (record { sfits = c.one_level_less-inner.type_inv }) c.one_level_less-inner.ensures in
    let object : IsObject Value r c.args.lim.now c.read_object.new.lim c.in-Ok.object = rw nl at c.in-Ok.ensures.object in
    let inside = structs_inside r c.args.lim.now c.read_object.new.lim c.in-Ok.object c.in-Structs.start c.in-Structs.size c.in-Structs.count c.in-Structs.is object in
    let level = structs_level r c.args.lim.now c.read_object.new.lim c.in-Ok.object c.in-Structs.start c.in-Structs.size c.in-Structs.count c.in-Structs.is object in
    λ κs le. (falls_in 2 (search rules) inner level c.decreases, (le, inside))
