use Rattle.std.proofs.Common.{take, drop, ◌≡◌, ℕ, suc, ◌+◌, ◌*◌, ◌-◌, get_or, refl, ap, ap₂, sym, ◌∙◌, arith, rules}
use Rattle.std.proofs.lemmas.Int.{to_z-of_z}
use mir.Syntax.{w32}
use Rattle.capnp_pointers.specs.declared.object.Purpose.TheVariants.{Value}
use Rattle.capnp_pointers.specs.Objects.{IsObject}
use Rattle.capnp_pointers.specs.Reading.{Reading, place_past, word_of, words_from}
use Rattle.capnp_pointers.specs.Pointers.{reading, reading_on}
use Rattle.capnp_pointers.proofs.Budget.MeasuresFall.{falls_in}
use Rattle.capnp_pointers.proofs.CanonicalTest.ResultFromParts.{inner_levels}
use Rattle.typed_conforming.specs.Tables.{wanted, word_kind}
use Rattle.typed_conforming.specs.Walk.{check_place, check_within, schema_pointer}
use Rattle.typed_conforming.proofs.Steps.{held, inside, level, no_pointers, not_read, null_conforms, object_ends, object_opens, object_unfit, one_more, one_stops, row_more, row_stops}
use Rattle.typed_conforming.proofs.conforms.+conforming.Goals as goal

pub check_pointer-returns-then-is_null : goal.check_pointer-returns-then-is_null
check_pointer-returns-then-is_null g t c =
    let r : Reading = reading_on g.A.ReaderArena c.args.from.now c.args.at c.args.from.now.nesting_limit in
    let d : ℕ = c.args.data_words in
    let i : ℕ = c.args.index in
    let there : Reading = place_past (place_past r d) i in
    let word : c.word-word.result.0 ≡ word_of there = c.word-word.ensures.value ∙ ap (λ ws. get_or ws (c.args.at + d + i) 0) c.args.from.now.held.0 in
    null_conforms c.args.row.table.now (schema_pointer c.args.row.table.now c.args.row.row (words_from r d) i) there c.args.walk.now.lim (sym word ∙ c.if-is_null.ensures.0 refl)

pub check_pointer-returns-in-List : goal.check_pointer-returns-in-List
check_pointer-returns-in-List g t c =
    let r : Reading = reading_on g.A.ReaderArena c.args.from.now c.args.at c.args.from.now.nesting_limit in
    let d : ℕ = c.args.data_words in
    let i : ℕ = c.args.index in
    let kind_is : word_kind c.wanted_word-wanted.result ≡ wanted c.args.row.table.now c.args.row.row (words_from r d) i = c.wanted_word-wanted.ensures ∙ ap (λ ws. wanted c.args.row.table.now c.args.row.row (take d (drop c.args.at ws)) i) c.args.from.now.held.0 in
    ap (λ k. check_place c.args.row.table.now (record { kind = k; row = c.args.row.row; index = i }) (place_past (place_past r d) i) c.args.walk.now.lim) (sym kind_is) ∙ c.check_wanted_list.ensures c.args.row.table.now

pub check_pointer-returns-in_default : goal.check_pointer-returns-in_default
check_pointer-returns-in_default g t c =
    let r : Reading = reading_on g.A.ReaderArena c.args.from.now c.args.at c.args.from.now.nesting_limit in
    let d : ℕ = c.args.data_words in
    let i : ℕ = c.args.index in
    let kind_is : word_kind c.wanted_word-wanted.result ≡ wanted c.args.row.table.now c.args.row.row (words_from r d) i = c.wanted_word-wanted.ensures ∙ ap (λ ws. wanted c.args.row.table.now c.args.row.row (take d (drop c.args.at ws)) i) c.args.from.now.held.0 in
    ap (λ k. check_place c.args.row.table.now (record { kind = k; row = c.args.row.row; index = i }) (place_past (place_past r d) i) c.args.walk.now.lim) (sym kind_is ∙ sym c.word_kind.ensures) ∙ c.check_object.ensures

pub check_object-returns-in-Err : goal.check_object-returns-in-Err
check_object-returns-in-Err g t c =
    let r : Reading = reading_on g.A.ReaderArena c.args.from.now c.args.at c.args.from.now.nesting_limit in
    let nl = to_z-of_z w32 c.args.from.now.nesting_limit (search rules) in
    rw c.misfit_of-walk.ensures (not_read c.args.table.now c.args.pointer r _ _ _ (rw nl at c.in-Err.ensures.refused))

pub check_object-returns-in-Some : goal.check_object-returns-in-Some
check_object-returns-in-Some g t c =
    let r : Reading = reading_on g.A.ReaderArena c.args.from.now c.args.at c.args.from.now.nesting_limit in
    let nl = to_z-of_z w32 c.args.from.now.nesting_limit (search rules) in
    let object : IsObject Value r c.args.walk.now.lim c.read_object.new.lim c.in-Ok.object = rw nl at c.in-Ok.ensures.object in
    rw c.misfit_of-walk-in-Some.ensures (object_unfit c.args.table.now c.args.pointer r c.args.walk.now.lim c.read_object.new.lim c.in-Ok.object c.in-Some.error object (sym (c.in-Some.ensures r.segments (held r _ _ c.in-Ok.object object))))

pub check_object-returns-in_default : goal.check_object-returns-in_default
check_object-returns-in_default g t c =
    let r : Reading = reading_on g.A.ReaderArena c.args.from.now c.args.at c.args.from.now.nesting_limit in
    let nl = to_z-of_z w32 c.args.from.now.nesting_limit (search rules) in
    let object : IsObject Value r c.args.walk.now.lim c.read_object.new.lim c.in-Ok.object = rw nl at c.in-Ok.ensures.object in
    object_ends c.args.table.now c.args.pointer r c.args.walk.now.lim c.read_object.new.lim c.in-Ok.object object (sym (c.in-None.ensures r.segments (held r _ _ c.in-Ok.object object))) c.in_default.ensures

pub check_object-check_elements-requires : goal.check_object-check_elements-requires
check_object-check_elements-requires g t c κs within =
    let r : Reading = reading_on g.A.ReaderArena c.args.from.now c.args.at c.args.from.now.nesting_limit in
    let nl = to_z-of_z w32 c.args.from.now.nesting_limit (search rules) in
    let object : IsObject Value r c.args.walk.now.lim c.read_object.new.lim c.in-Ok.object = rw nl at c.in-Ok.ensures.object in
    let inner = inner_levels c.args.from.now.nesting_limit c.one_level_less.result (search rules) (record { sfits = c.one_level_less.type_inv }) c.one_level_less.ensures in
    (falls_in 3 (search rules) inner (level r _ _ c.in-Some-elements_of.elements c.in-Ok.object object c.in-Some-elements_of.ensures) c.decreases, (within, inside r _ _ c.in-Some-elements_of.elements c.in-Ok.object object c.in-Some-elements_of.ensures))

pub check_object-returns : goal.check_object-returns
check_object-returns g t c =
    let r : Reading = reading_on g.A.ReaderArena c.args.from.now c.args.at c.args.from.now.nesting_limit in
    let nl = to_z-of_z w32 c.args.from.now.nesting_limit (search rules) in
    let object : IsObject Value r c.args.walk.now.lim c.read_object.new.lim c.in-Ok.object = rw nl at c.in-Ok.ensures.object in
    let inner = inner_levels c.args.from.now.nesting_limit c.one_level_less.result (search rules) (record { sfits = c.one_level_less.type_inv }) c.one_level_less.ensures in
    object_opens c.args.table.now c.args.pointer r c.args.walk.now.lim c.read_object.new.lim c.in-Ok.object _ c.in-Some-elements_of.elements (level r _ _ c.in-Some-elements_of.elements c.in-Ok.object object c.in-Some-elements_of.ensures) refl object (sym (c.in-None.ensures r.segments (held r _ _ c.in-Ok.object object))) c.in-Some-elements_of.ensures
    ∙ rw (inner, c.row_below-below.ensures.table, c.row_below-below.ensures.row) at c.check_elements.ensures

pub check_pointers-returns-in-Err : goal.check_pointers-returns-in-Err
check_pointers-returns-in-Err g t c =
    let r : Reading = reading_on g.A.ReaderArena c.args.from.now c.args.at c.args.from.now.nesting_limit in
    let d : ℕ = c.args.data_words in
    let i : ℕ = c.loop-i.i in
    c.loop-i.invariant (suc (c.args.pointers - i - 1)) (omega (arith, c.loop-i-test.true))
    ∙ one_stops (check_within c.args.row.table.now r.levels) (schema_pointer c.args.row.table.now c.args.row.row (words_from r d)) (place_past (place_past r d) i) i (c.args.pointers - i - 1) _ _ _ c.in-Err.ensures

pub check_pointers-loop-i-preserved : goal.check_pointers-loop-i-preserved
check_pointers-loop-i-preserved g t c =
    let r : Reading = reading_on g.A.ReaderArena c.args.from.now c.args.at c.args.from.now.nesting_limit in
    let d : ℕ = c.args.data_words in
    let i : ℕ = c.loop-i.i in
    λ k e. c.loop-i.invariant (suc k) (omega (arith, e)) ∙ one_more (check_within c.args.row.table.now r.levels) (schema_pointer c.args.row.table.now c.args.row.row (words_from r d)) (place_past r d) i k _ _ c.in-Ok.ensures

pub check_pointers-returns : goal.check_pointers-returns
check_pointers-returns g t c =
    c.loop-i.invariant 0 (omega (arith, c.loop-i-test.false, c.loop-i.auto.i-end))

pub check_elements-returns-then-pointers-eq0 : goal.check_elements-returns-then-pointers-eq0
check_elements-returns-then-pointers-eq0 g t c =
    let r : Reading = reading g.A.ReaderArena c.args.from.now in
    rw c.if-pointers-eq0.true (no_pointers (check_within c.args.row.table.now r.levels) (schema_pointer c.args.row.table.now c.args.row.row) r c.args.data_words c.args.count c.args.walk.now.lim)

pub check_elements-returns-in-Err : goal.check_elements-returns-in-Err
check_elements-returns-in-Err g t c =
    let r : Reading = reading g.A.ReaderArena c.args.from.now in
    let d : ℕ = c.args.data_words in
    let q : ℕ = c.args.pointers in
    let i : ℕ = c.loop-i.i in
    let at : c.from-in-loop-i.result + c.from-in-loop-i-2.result * (c.from.result + c.from-2.result) ≡ r.at + i * (d + q) =
    ap₂ (λ x y. x + y) c.from-in-loop-i.ensures (ap₂ (λ x y. x * y) c.from-in-loop-i-2.ensures (ap₂ (λ x y. x + y) c.from.ensures c.from-2.ensures)) in
    c.loop-i.invariant (suc (c.args.count - i - 1)) (omega (arith, c.loop-i-test.true))
    ∙ row_stops (check_within c.args.row.table.now r.levels) (schema_pointer c.args.row.table.now c.args.row.row) (place_past r (i * (d + q))) d q (c.args.count - i - 1) _ _ _ (rw at at c.in-Err.ensures)

pub check_elements-loop-i-preserved : goal.check_elements-loop-i-preserved
check_elements-loop-i-preserved g t c =
    let r : Reading = reading g.A.ReaderArena c.args.from.now in
    let d : ℕ = c.args.data_words in
    let q : ℕ = c.args.pointers in
    let i : ℕ = c.loop-i.i in
    let at : c.from-in-loop-i.result + c.from-in-loop-i-2.result * (c.from.result + c.from-2.result) ≡ r.at + i * (d + q) =
    ap₂ (λ x y. x + y) c.from-in-loop-i.ensures (ap₂ (λ x y. x * y) c.from-in-loop-i-2.ensures (ap₂ (λ x y. x + y) c.from.ensures c.from-2.ensures)) in
    λ k e. c.loop-i.invariant (suc k) (omega (arith, e)) ∙ row_more (check_within c.args.row.table.now r.levels) (schema_pointer c.args.row.table.now c.args.row.row) r d q i k _ _ (rw at at c.in-Ok.ensures)

pub check_elements-returns : goal.check_elements-returns
check_elements-returns g t c =
    c.loop-i.invariant 0 (omega (arith, c.loop-i-test.false, c.loop-i.auto.i-end))
