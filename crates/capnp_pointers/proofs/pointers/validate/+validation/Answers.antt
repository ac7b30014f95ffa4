use Rattle.std.proofs.Common.{◌≡◌, ℕ, suc, ◌+◌, ◌*◌, ◌-◌, get_or, refl, ap, ap₂, sym, ◌∙◌, arith, rules, pred}
use Rattle.std.proofs.lemmas.Int.{to_z-of_z}
use mir.Syntax.{w32}
use mir.Val.{to_z, of_z}
use Rattle.capnp_pointers.specs.declared.object.Purpose.TheVariants.{Value}
use Rattle.capnp_pointers.specs.Enter.{object_shape}
use Rattle.capnp_pointers.specs.Objects.{EntersNear, IsObject}
use Rattle.capnp_pointers.specs.Reading.{Reading, place_past, word_of}
use Rattle.capnp_pointers.specs.Measure.{fold_pointers}
use Rattle.capnp_pointers.specs.Pointers.{reading, reading_on}
use Rattle.capnp_pointers.specs.Validation.{tally_shape, tally_words, validate_within}
use Rattle.capnp_pointers.proofs.Budget.MeasuresFall.{falls_in}
use Rattle.capnp_pointers.proofs.Sizes.MeasuredBySteps.{no_pointers, one_more, one_stops, row_more, row_stops}
use Rattle.capnp_pointers.proofs.CanonicalTest.ResultFromParts.{inner_levels}
use Rattle.capnp_pointers.proofs.Validation.ValidatedBySteps.{null_valid, object_ends, object_opens, stopped_result, struct_opens, unread}
use Rattle.capnp_pointers.proofs.Budget.OneLevelLess.{Opened, object_inside, object_level}
use Rattle.capnp_pointers.proofs.pointers.validate.+validation.Goals as goal

pub validate_pointer-returns-then-is_null : goal.validate_pointer-returns-then-is_null
validate_pointer-returns-then-is_null g t c =
    let r : Reading = reading_on g.A.ReaderArena c.args.from.now c.args.at c.args.nesting_limit in
    let word : c.word-word.result.0 ≡ word_of r = c.word-word.ensures.value ∙ ap (λ ws. get_or ws c.args.at 0) c.args.from.now.held.0 in
    null_valid r c.args.walk.now.tally c.args.walk.now.lim (sym word ∙ c.if-is_null.ensures.0 refl)

pub validate_object-returns-in-Err : goal.validate_object-returns-in-Err
validate_object-returns-in-Err g t c =
    let nl = to_z-of_z w32 c.args.nesting_limit c.ranges.nesting_limit in
    unread c.args.walk.now.tally (rw nl at c.in-Err.ensures.refused)

pub validate_object-returns-in_default : goal.validate_object-returns-in_default
validate_object-returns-in_default g t c =
    let r : Reading = reading_on g.A.ReaderArena c.args.from.now c.args.at c.args.nesting_limit in
    let nl = to_z-of_z w32 c.args.nesting_limit c.ranges.nesting_limit in
    let object : IsObject Value r c.args.walk.now.lim c.read_object.new.lim c.in-Ok.object = rw nl at c.in-Ok.ensures.object in
    let inner = inner_levels c.args.nesting_limit c.one_level_less-inner.result c.ranges.nesting_limit (record { sfits = c.one_level_less-inner.type_inv }) c.one_level_less-inner.ensures in
    object_ends r c.args.walk.now.lim c.read_object.new.lim c.in-Ok.object c.args.walk.now.tally c.add.new.self _ (c.levels_left.ensures ∙ inner) c.add.ensures object c.in_default.ensures

pub validate_object-validate_elements-requires : goal.validate_object-validate_elements-requires
validate_object-validate_elements-requires g t c =
    let r : Reading = reading_on g.A.ReaderArena c.args.from.now c.args.at c.args.nesting_limit in
    let nl = to_z-of_z w32 c.args.nesting_limit c.ranges.nesting_limit in
    let opened : Opened Value r c.args.walk.now.lim c.read_object.new.lim c.in-Ok.object c.in-Some.rows = record { is_read = rw nl at c.in-Ok.ensures.object; has = c.in-Some.ensures } in
    let inner = inner_levels c.args.nesting_limit c.one_level_less-inner.result c.ranges.nesting_limit (record { sfits = c.one_level_less-inner.type_inv }) c.one_level_less-inner.ensures in
    let inside = object_inside c.in-Ok.object opened in
    λ κs le. (falls_in 3 (search rules) inner (object_level c.in-Ok.object opened) c.decreases, (le, inside))

pub validate_object-returns : goal.validate_object-returns
validate_object-returns g t c =
    let r : Reading = reading_on g.A.ReaderArena c.args.from.now c.args.at c.args.nesting_limit in
    let nl = to_z-of_z w32 c.args.nesting_limit c.ranges.nesting_limit in
    let opened : Opened Value r c.args.walk.now.lim c.read_object.new.lim c.in-Ok.object c.in-Some.rows = record { is_read = rw nl at c.in-Ok.ensures.object; has = c.in-Some.ensures } in
    let inner = inner_levels c.args.nesting_limit c.one_level_less-inner.result c.ranges.nesting_limit (record { sfits = c.one_level_less-inner.type_inv }) c.one_level_less-inner.ensures in
    object_opens r c.args.walk.now.lim c.read_object.new.lim c.in-Ok.object c.args.walk.now.tally c.add.new.self _ c.in-Some.rows (object_level c.in-Ok.object opened) refl (c.add.ensures ∙ ap (λ n. tally_shape n (object_shape c.in-Ok.object) c.args.walk.now.tally) (c.levels_left.ensures ∙ inner)) opened.is_read opened.has
    ∙ rw inner at c.validate_elements.ensures

pub validate_pointers-returns-in_err-validate_pointer : goal.validate_pointers-returns-in_err-validate_pointer
validate_pointers-returns-in_err-validate_pointer g t c =
    let r : Reading = reading_on g.A.ReaderArena c.args.from.now c.args.at (to_z w32 (of_z w32 c.args.nesting_limit)) in
    let nl = to_z-of_z w32 c.args.nesting_limit c.ranges.nesting_limit in
    let rest = c.loop-i.invariant (suc (c.args.count - c.loop-i.i - 1)) (omega (arith, c.loop-i-test.true)) in
    let whole = rest ∙ one_stops (validate_within r.levels) (place_past r c.loop-i.i) (c.args.count - c.loop-i.i - 1) _ _ _ _ c.in_err-validate_pointer.ensures in
    rw nl at whole ∙ ap (λ x. (x, c.validate_pointer.new.walk.lim)) (sym (stopped_result c.from_residual.result _ c.from_residual.ensures.0))

pub validate_pointers-loop-i-preserved : goal.validate_pointers-loop-i-preserved
validate_pointers-loop-i-preserved g t c =
    let r : Reading = reading_on g.A.ReaderArena c.args.from.now c.args.at (to_z w32 (of_z w32 c.args.nesting_limit)) in
    λ k e. c.loop-i.invariant (suc k) (omega (arith, e)) ∙ one_more (validate_within r.levels) r c.loop-i.i (c.loop-i.i + 1) k _ _ _ _ refl c.in_ok-validate_pointer.ensures

pub validate_pointers-returns : goal.validate_pointers-returns
validate_pointers-returns g t c =
    let nl = to_z-of_z w32 c.args.nesting_limit c.ranges.nesting_limit in
    rw nl at (c.loop-i.invariant 0 (omega (arith, c.loop-i-test.false, c.loop-i.auto.i-end)))

pub validate_elements-returns-then-pointers-eq0 : goal.validate_elements-returns-then-pointers-eq0
validate_elements-returns-then-pointers-eq0 g t c =
    let r : Reading = reading g.A.ReaderArena c.args.from.now in
    let d : ℕ = c.args.data_words in
    rw c.if-pointers-eq0.true (no_pointers (validate_within r.levels) r d c.args.count c.args.walk.now.tally c.args.walk.now.lim)

pub validate_elements-returns-in_err-validate_pointers : goal.validate_elements-returns-in_err-validate_pointers
validate_elements-returns-in_err-validate_pointers g t c =
    let r : Reading = reading g.A.ReaderArena c.args.from.now in
    let d : ℕ = c.args.data_words in
    let q : ℕ = c.args.pointers in
    let at : c.from-in-loop-i.result + c.from-in-loop-i-2.result * (c.from.result + c.from-2.result) + c.from-in-loop-i-3.result ≡ r.at + (c.loop-i.i * (d + q) + d) =
    ap₂ (λ x y. x + y) (ap₂ (λ x y. x + y) c.from-in-loop-i.ensures (ap₂ (λ x y. x * y) c.from-in-loop-i-2.ensures (ap₂ (λ x y. x + y) c.from.ensures c.from-2.ensures))) c.from-in-loop-i-3.ensures ∙ omega arith in
    let nl = to_z-of_z w32 c.args.from.now.nesting_limit (search rules) in
    let i : ℕ = c.loop-i.i in
    let stops = ap (λ p. fold_pointers (validate_within r.levels) q (record r { at = p }) c.loop-i.walk.tally c.loop-i.walk.lim) (omega arith) ∙ rw (at, nl) at c.in_err-validate_pointers.ensures in
    c.loop-i.invariant (suc (c.args.count - i - 1)) (omega (arith, c.loop-i-test.true))
    ∙ row_stops (validate_within r.levels) (place_past r (i * (d + q))) d q (c.args.count - i - 1) _ _ _ _ stops
    ∙ ap (λ x. (x, c.validate_pointers.new.walk.lim)) (sym (stopped_result c.from_residual.result _ c.from_residual.ensures.0))

pub validate_elements-loop-i-preserved : goal.validate_elements-loop-i-preserved
validate_elements-loop-i-preserved g t c =
    let r : Reading = reading g.A.ReaderArena c.args.from.now in
    let d : ℕ = c.args.data_words in
    let q : ℕ = c.args.pointers in
    let at : c.from-in-loop-i.result + c.from-in-loop-i-2.result * (c.from.result + c.from-2.result) + c.from-in-loop-i-3.result ≡ r.at + (c.loop-i.i * (d + q) + d) =
    ap₂ (λ x y. x + y) (ap₂ (λ x y. x + y) c.from-in-loop-i.ensures (ap₂ (λ x y. x * y) c.from-in-loop-i-2.ensures (ap₂ (λ x y. x + y) c.from.ensures c.from-2.ensures))) c.from-in-loop-i-3.ensures ∙ omega arith in
    let nl = to_z-of_z w32 c.args.from.now.nesting_limit (search rules) in
    λ k e. c.loop-i.invariant (suc k) (omega (arith, e)) ∙ row_more (validate_within r.levels) r d q c.loop-i.i (c.loop-i.i + 1) k _ _ _ _ refl (rw (at, nl) at c.in_ok-validate_pointers.ensures)

pub validate_elements-returns : goal.validate_elements-returns
validate_elements-returns g t c =
    c.loop-i.invariant 0 (omega (arith, c.loop-i-test.false, c.loop-i.auto.i-end))

pub validate_struct-returns-in-Err : goal.validate_struct-returns-in-Err
validate_struct-returns-in-Err g t c =
    let nl = to_z-of_z w32 c.args.nesting_limit c.ranges.nesting_limit in
    unread c.args.walk.now.tally (rw nl at c.in-Err.ensures.refused)

pub validate_struct-returns-then-count-eq0 : goal.validate_struct-returns-then-count-eq0
validate_struct-returns-then-count-eq0 g t c =
    let r : Reading = reading_on g.A.ReaderArena c.args.from.now c.args.at c.args.nesting_limit in
    let nl = to_z-of_z w32 c.args.nesting_limit c.ranges.nesting_limit in
    let entered : EntersNear Value r c.args.walk.now.lim c.read_near_struct.new.lim c.in-Ok.start = rw nl at c.in-Ok.ensures.object in
    let inner = inner_levels c.args.nesting_limit c.one_level_less-inner.result c.ranges.nesting_limit (record { sfits = c.one_level_less-inner.type_inv }) c.one_level_less-inner.ensures in
    let words : c.total.result ≡ c.from.result + c.from-count.result = c.total.ensures ∙ ap₂ (λ d q. d + q) (sym c.from.ensures) (sym c.from-count.ensures) in
    let added : c.add_words.new.self ≡ tally_words (pred r.levels) (c.from.result + c.from-count.result) c.args.walk.now.tally = c.add_words.ensures ∙ ap₂ (λ n w. tally_words n w c.args.walk.now.tally) (c.levels_left.ensures ∙ inner) words in
    struct_opens c.args.walk.now.tally c.add_words.new.self (pred r.levels) _ _ c.requires.word c.requires.is_struct entered (c.from.ensures ∙ c.struct_size-size.ensures.data_of) (c.from-count.ensures ∙ c.struct_size-size.ensures.pointers_of) refl added
    ∙ rw c.if-count-eq0.true refl

pub validate_struct-returns : goal.validate_struct-returns
validate_struct-returns g t c =
    let r : Reading = reading_on g.A.ReaderArena c.args.from.now c.args.at c.args.nesting_limit in
    let nl = to_z-of_z w32 c.args.nesting_limit c.ranges.nesting_limit in
    let entered : EntersNear Value r c.args.walk.now.lim c.read_near_struct.new.lim c.in-Ok.start = rw nl at c.in-Ok.ensures.object in
    let inner = inner_levels c.args.nesting_limit c.one_level_less-inner.result c.ranges.nesting_limit (record { sfits = c.one_level_less-inner.type_inv }) c.one_level_less-inner.ensures in
    let words : c.total.result ≡ c.from.result + c.from-count.result = c.total.ensures ∙ ap₂ (λ d q. d + q) (sym c.from.ensures) (sym c.from-count.ensures) in
    let added : c.add_words.new.self ≡ tally_words (pred r.levels) (c.from.result + c.from-count.result) c.args.walk.now.tally = c.add_words.ensures ∙ ap₂ (λ n w. tally_words n w c.args.walk.now.tally) (c.levels_left.ensures ∙ inner) words in
    struct_opens c.args.walk.now.tally c.add_words.new.self (pred r.levels) _ _ c.requires.word c.requires.is_struct entered (c.from.ensures ∙ c.struct_size-size.ensures.data_of) (c.from-count.ensures ∙ c.struct_size-size.ensures.pointers_of) refl added
    ∙ rw inner at c.validate_pointers.ensures
