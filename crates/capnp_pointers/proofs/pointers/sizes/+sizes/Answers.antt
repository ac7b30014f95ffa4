use Rattle.std.proofs.Common.{◌≡◌, ℕ, suc, ◌+◌, ◌*◌, ◌-◌, ◌^◌, ◌<◌, get_or, refl, ap, ap₂, sym, ◌∙◌, arith, rules, add-zero, Err, pred}
use Rattle.std.proofs.lemmas.Bool.{false≢true}
use Rattle.std.proofs.lemmas.Int.{to_z-of_z}
use mir.Syntax.{w32}
use mir.Val.{to_z, of_z}
use Rattle.capnp_format.specs.Word.{kind, data_words, pointer_count}
use Rattle.capnp_pointers.specs.declared.object.Purpose.TheVariants.{Size}
use Rattle.capnp_pointers.specs.Enter.{object_shape}
use Rattle.capnp_pointers.specs.Objects.{near_at}
use Rattle.capnp_pointers.specs.Outcomes.{Entered}
use Rattle.capnp_pointers.specs.Reading.{Reading, place_past, word_of}
use Rattle.capnp_pointers.specs.Measure.{fold_pointers, measure_within, shape_size}
use Rattle.capnp_pointers.specs.Pointers.{reading, reading_on}
use Rattle.capnp_pointers.proofs.Sizes.MeasuredBySteps.{measure_err, object_added, object_over, capability_ends, null_added, one_more, one_stops, row_more, row_stops, no_pointers, no_capability, no_children, children_in_rows, ended_err, near_struct}
use Rattle.capnp_pointers.proofs.Budget.OneLevelLess.{one_level_in, Opened, object_level, object_inside}
use Rattle.capnp_pointers.proofs.pointers.sizes.+sizes.Goals as goal

pub add_object-returns-in-Err : goal.add_object-returns-in-Err
add_object-returns-in-Err g t c =
    let r : Reading = reading_on g.A.ReaderArena c.args.from.now c.args.at c.args.nesting_limit in
    let nl = to_z-of_z w32 c.args.nesting_limit c.ranges.nesting_limit in
    measure_err r c.args.walk.now.sums.size c.args.walk.now.lim _ _ (rw nl at c.in-Err.ensures.computed)

pub add_object-returns-in_err-add_words : goal.add_object-returns-in_err-add_words
add_object-returns-in_err-add_words g t c =
    let r : Reading = reading_on g.A.ReaderArena c.args.from.now c.args.at c.args.nesting_limit in
    let nl = to_z-of_z w32 c.args.nesting_limit c.ranges.nesting_limit in
    let over : c.args.walk.now.sums.size.word_count + (shape_size (object_shape c.in-Ok.object)).word_count < 2 ^ 64 → ⊥ = λ h. false≢true ((rw c.words_of_object.ensures at c.in_err-add_words.ensures.exactly).1 h) in
    object_over r c.args.walk.now.sums.size c.args.walk.now.lim _ (object_shape c.in-Ok.object) c.args.walk.now.sums.fits (rw nl at c.in-Ok.ensures.computed) over
    ∙ ap (λ x. (x, c.measure_object.new.lim)) (ap Err (sym c.in_err-add_words.ensures.named) ∙ sym (ended_err c.from_residual.result _ c.from_residual.ensures.0))

pub add_object-returns-in-Capability : goal.add_object-returns-in-Capability
add_object-returns-in-Capability g t c =
    let r : Reading = reading_on g.A.ReaderArena c.args.from.now c.args.at c.args.nesting_limit in
    let nl = to_z-of_z w32 c.args.nesting_limit c.ranges.nesting_limit in
    capability_ends c.add_capability.result r c.args.walk.now.sums.size _ c.args.walk.now.lim _ c.in-Ok.object _ c.in-Capability.is c.args.walk.now.sums.fits (rw nl at c.in-Ok.ensures.computed) (rw c.words_of_object.ensures at c.in_ok-add_words.ensures.sum) c.add_capability.ensures.exactly c.add_capability.ensures.sum c.add_capability.ensures.named

pub add_object-returns-in_default-rows_of_object : goal.add_object-returns-in_default-rows_of_object
add_object-returns-in_default-rows_of_object g t c =
    let r : Reading = reading_on g.A.ReaderArena c.args.from.now c.args.at c.args.nesting_limit in
    let nl = to_z-of_z w32 c.args.nesting_limit c.ranges.nesting_limit in
    let sum = rw c.words_of_object.ensures at c.in_ok-add_words.ensures.sum in
    object_added r c.args.walk.now.sums.size c.add_words.new.self.size c.args.walk.now.lim _ (object_shape c.in-Ok.object) c.args.walk.now.sums.fits (rw nl at c.in-Ok.ensures.computed) sum.0 (rw (no_capability c.in-Ok.object c.in_default.not-Capability) (sum.1 ∙ sym (add-zero _))) c.add_words.new.self.fits
    ∙ no_children (measure_within (pred r.levels)) (record r { levels = pred r.levels }) c.in-Ok.object _ _ c.in_default-rows_of_object.ensures

pub add_object-add_elements-requires : goal.add_object-add_elements-requires
add_object-add_elements-requires g t c =
    let r : Reading = reading_on g.A.ReaderArena c.args.from.now c.args.at c.args.nesting_limit in
    let opened : Opened Size r c.args.walk.now.lim c.measure_object.new.lim c.in-Ok.object c.in-Some.rows = record { is_read = rw (to_z-of_z w32 c.args.nesting_limit c.ranges.nesting_limit) at c.in-Ok.ensures.object; has = c.in-Some.ensures } in
    let level = object_level c.in-Ok.object opened in
    let less = one_level_in c.args.nesting_limit c.ranges.nesting_limit level in
    let inside = object_inside c.in-Ok.object opened in
    let sum = c.in_ok-add_words.ensures.sum in
    let words = c.in_ok-add_words.ensures.exactly.0 refl in
    λ κs le. (omega (arith, less, level, c.decreases), (le, inside))

pub add_object-returns : goal.add_object-returns
add_object-returns g t c =
    let r : Reading = reading_on g.A.ReaderArena c.args.from.now c.args.at c.args.nesting_limit in
    let nl = to_z-of_z w32 c.args.nesting_limit c.ranges.nesting_limit in
    let opened : Opened Size r c.args.walk.now.lim c.measure_object.new.lim c.in-Ok.object c.in-Some.rows = record { is_read = rw nl at c.in-Ok.ensures.object; has = c.in-Some.ensures } in
    let less = one_level_in c.args.nesting_limit c.ranges.nesting_limit (object_level c.in-Ok.object opened) in
    let sum = rw c.words_of_object.ensures at c.in_ok-add_words.ensures.sum in
    object_added r c.args.walk.now.sums.size c.add_words.new.self.size c.args.walk.now.lim _ (object_shape c.in-Ok.object) c.args.walk.now.sums.fits (rw nl at c.in-Ok.ensures.computed) sum.0 (rw (no_capability c.in-Ok.object c.in_default.not-Capability) (sum.1 ∙ sym (add-zero _))) c.add_words.new.self.fits
    ∙ children_in_rows (measure_within (pred r.levels)) (record r { levels = pred r.levels }) c.in-Ok.object c.in-Some.rows _ _ c.in-Some.ensures
    ∙ rw less at c.add_elements.ensures

pub add_pointer-returns-then-is_null : goal.add_pointer-returns-then-is_null
add_pointer-returns-then-is_null g t c =
    let r : Reading = reading_on g.A.ReaderArena c.args.from.now c.args.at c.args.nesting_limit in
    let word : c.word-word.result.0 ≡ word_of r = c.word-word.ensures.value ∙ ap (λ ws. get_or ws c.args.at 0) c.args.from.now.held.0 in
    null_added r c.args.walk.now.sums.size c.args.walk.now.lim c.args.walk.now.sums.fits (sym word ∙ c.if-is_null.ensures.0 refl)

pub add_element_pointers-returns-in_err-add_pointer : goal.add_element_pointers-returns-in_err-add_pointer
add_element_pointers-returns-in_err-add_pointer g t c =
    let r : Reading = reading_on g.A.ReaderArena c.args.from.now c.args.at (to_z w32 (of_z w32 c.args.nesting_limit)) in
    let nl = to_z-of_z w32 c.args.nesting_limit c.ranges.nesting_limit in
    let rest = c.loop-i.invariant (suc (c.args.count - c.loop-i.i - 1)) (omega (arith, c.loop-i-test.true)) in
    let whole = rest ∙ one_stops (measure_within r.levels) (place_past r c.loop-i.i) (c.args.count - c.loop-i.i - 1) _ _ _ _ c.in_err-add_pointer.ensures in
    rw nl at whole ∙ ap (λ x. (x, c.add_pointer.new.walk.lim)) (sym (ended_err c.from_residual.result _ c.from_residual.ensures.0))

pub add_element_pointers-loop-i-preserved : goal.add_element_pointers-loop-i-preserved
add_element_pointers-loop-i-preserved g t c =
    let r : Reading = reading_on g.A.ReaderArena c.args.from.now c.args.at (to_z w32 (of_z w32 c.args.nesting_limit)) in
    λ k e. c.loop-i.invariant (suc k) (omega (arith, e)) ∙ one_more (measure_within r.levels) r c.loop-i.i (c.loop-i.i + 1) k _ _ _ _ refl c.in_ok-add_pointer.ensures

pub add_element_pointers-returns : goal.add_element_pointers-returns
add_element_pointers-returns g t c =
    let nl = to_z-of_z w32 c.args.nesting_limit c.ranges.nesting_limit in
    rw nl at (c.loop-i.invariant 0 (omega (arith, c.loop-i-test.false, c.loop-i.auto.i-end)))

pub add_elements-returns-then-pointers-eq0 : goal.add_elements-returns-then-pointers-eq0
add_elements-returns-then-pointers-eq0 g t c =
    let r : Reading = reading g.A.ReaderArena c.args.from.now in
    let d : ℕ = c.args.data_words in
    let q : ℕ = c.args.pointers in
    rw c.if-pointers-eq0.true (no_pointers (measure_within r.levels) r d c.args.count c.args.walk.now.sums.size c.args.walk.now.lim)

pub add_elements-returns-in_err-add_element_pointers : goal.add_elements-returns-in_err-add_element_pointers
add_elements-returns-in_err-add_element_pointers g t c =
    let r : Reading = reading g.A.ReaderArena c.args.from.now in
    let d : ℕ = c.args.data_words in
    let q : ℕ = c.args.pointers in
    let at : c.from-in-loop-i.result + c.from-in-loop-i-2.result * (c.from.result + c.from-2.result) + c.from-in-loop-i-3.result ≡ r.at + (c.loop-i.i * (d + q) + d) =
    ap₂ (λ x y. x + y) (ap₂ (λ x y. x + y) c.from-in-loop-i.ensures (ap₂ (λ x y. x * y) c.from-in-loop-i-2.ensures (ap₂ (λ x y. x + y) c.from.ensures c.from-2.ensures))) c.from-in-loop-i-3.ensures ∙ omega arith in
    let nl = to_z-of_z w32 c.args.from.now.nesting_limit (search rules) in
    let i : ℕ = c.loop-i.i in
    let stops = ap (λ p. fold_pointers (measure_within r.levels) q (record r { at = p }) c.loop-i.walk.sums.size c.loop-i.walk.lim) (omega arith) ∙ rw (at, nl) at c.in_err-add_element_pointers.ensures in
    c.loop-i.invariant (suc (c.args.count - i - 1)) (omega (arith, c.loop-i-test.true))
    ∙ row_stops (measure_within r.levels) (place_past r (i * (d + q))) d q (c.args.count - i - 1) _ _ _ _ stops
    ∙ ap (λ x. (x, c.add_element_pointers.new.walk.lim)) (sym (ended_err c.from_residual.result _ c.from_residual.ensures.0))

pub add_elements-loop-i-preserved : goal.add_elements-loop-i-preserved
add_elements-loop-i-preserved g t c =
    let r : Reading = reading g.A.ReaderArena c.args.from.now in
    let d : ℕ = c.args.data_words in
    let q : ℕ = c.args.pointers in
    let at : c.from-in-loop-i.result + c.from-in-loop-i-2.result * (c.from.result + c.from-2.result) + c.from-in-loop-i-3.result ≡ r.at + (c.loop-i.i * (d + q) + d) =
    ap₂ (λ x y. x + y) (ap₂ (λ x y. x + y) c.from-in-loop-i.ensures (ap₂ (λ x y. x * y) c.from-in-loop-i-2.ensures (ap₂ (λ x y. x + y) c.from.ensures c.from-2.ensures))) c.from-in-loop-i-3.ensures ∙ omega arith in
    let nl = to_z-of_z w32 c.args.from.now.nesting_limit (search rules) in
    λ k e. c.loop-i.invariant (suc k) (omega (arith, e)) ∙ row_more (measure_within r.levels) r d q c.loop-i.i (c.loop-i.i + 1) k _ _ _ _ refl (rw (at, nl) at c.in_ok-add_element_pointers.ensures)

pub add_elements-returns : goal.add_elements-returns
add_elements-returns g t c =
    c.loop-i.invariant 0 (omega (arith, c.loop-i-test.false, c.loop-i.auto.i-end))

pub add_struct-returns-in-Err : goal.add_struct-returns-in-Err
add_struct-returns-in-Err g t c =
    let r : Reading = reading_on g.A.ReaderArena c.args.from.now c.args.at c.args.nesting_limit in
    let nl = to_z-of_z w32 c.args.nesting_limit c.ranges.nesting_limit in
    measure_err r c.args.walk.now.sums.size c.args.walk.now.lim _ _ (rw nl at c.in-Err.ensures.computed)

pub add_struct-returns-in_err-add_words : goal.add_struct-returns-in_err-add_words
add_struct-returns-in_err-add_words g t c =
    let r : Reading = reading_on g.A.ReaderArena c.args.from.now c.args.at c.args.nesting_limit in
    let nl = to_z-of_z w32 c.args.nesting_limit c.ranges.nesting_limit in
    let is_struct : kind (word_of r) ≡ 0 = rw c.requires.word.there at c.requires.is_struct in
    let shaped = near_struct r c.in-Ok.start is_struct in
    let words : c.from.result ≡ data_words (word_of r) + pointer_count (word_of r) = c.from.ensures ∙ c.struct_word_size-words.ensures ∙ ap (λ x. data_words x + pointer_count x) c.requires.word.there in
    object_over r c.args.walk.now.sums.size c.args.walk.now.lim _ _ c.args.walk.now.sums.fits (rw (nl, shaped) at c.in-Ok.ensures.computed) (λ h. false≢true (c.in_err-add_words.ensures.exactly.1 (rw words h)))
    ∙ ap (λ x. (x, c.measure_near.new.lim)) (ap Err (sym c.in_err-add_words.ensures.named) ∙ sym (ended_err c.from_residual.result _ c.from_residual.ensures.0))

pub add_struct-returns-then-count-eq0 : goal.add_struct-returns-then-count-eq0
add_struct-returns-then-count-eq0 g t c =
    let r : Reading = reading_on g.A.ReaderArena c.args.from.now c.args.at c.args.nesting_limit in
    let nl = to_z-of_z w32 c.args.nesting_limit c.ranges.nesting_limit in
    let is_struct : kind (word_of r) ≡ 0 = rw c.requires.word.there at c.requires.is_struct in
    let shaped = near_struct r c.in-Ok.start is_struct in
    let words : c.from.result ≡ data_words (word_of r) + pointer_count (word_of r) = c.from.ensures ∙ c.struct_word_size-words.ensures ∙ ap (λ x. data_words x + pointer_count x) c.requires.word.there in
    let many : pointer_count (word_of r) ≡ 0 = sym (c.from-count.ensures ∙ c.struct_size-size.ensures.pointers_of ∙ ap pointer_count c.requires.word.there) ∙ c.if-count-eq0.true in
    let sum = rw words at c.in_ok-add_words.ensures.sum in
    object_added r c.args.walk.now.sums.size c.add_words.new.self.size c.args.walk.now.lim _ _ c.args.walk.now.sums.fits (rw (nl, shaped) at c.in-Ok.ensures.computed) sum.0 (sum.1 ∙ sym (add-zero _)) c.add_words.new.self.fits
    ∙ rw many refl

pub add_struct-returns : goal.add_struct-returns
add_struct-returns g t c =
    let r : Reading = reading_on g.A.ReaderArena c.args.from.now c.args.at c.args.nesting_limit in
    let nl = to_z-of_z w32 c.args.nesting_limit c.ranges.nesting_limit in
    let is_struct : kind (word_of r) ≡ 0 = rw c.requires.word.there at c.requires.is_struct in
    let shaped = near_struct r c.in-Ok.start is_struct in
    let words : c.from.result ≡ data_words (word_of r) + pointer_count (word_of r) = c.from.ensures ∙ c.struct_word_size-words.ensures ∙ ap (λ x. data_words x + pointer_count x) c.requires.word.there in
    let less = one_level_in c.args.nesting_limit c.ranges.nesting_limit (let measured : Entered Size r c.args.walk.now.lim c.measure_near.new.lim (near_at r c.in-Ok.start) = rw nl at c.in-Ok.ensures.object in measured.meets.levels) in
    let wide : c.from-2.result ≡ data_words (word_of r) = c.from-2.ensures ∙ c.struct_size-size.ensures.data_of ∙ ap data_words c.requires.word.there in
    let many : c.from-count.result ≡ pointer_count (word_of r) = c.from-count.ensures ∙ c.struct_size-size.ensures.pointers_of ∙ ap pointer_count c.requires.word.there in
    let sum = rw words at c.in_ok-add_words.ensures.sum in
    object_added r c.args.walk.now.sums.size c.add_words.new.self.size c.args.walk.now.lim _ _ c.args.walk.now.sums.fits (rw (nl, shaped) at c.in-Ok.ensures.computed) sum.0 (sum.1 ∙ sym (add-zero _)) c.add_words.new.self.fits
    ∙ rw (less, wide, many) at c.add_pointers.ensures
