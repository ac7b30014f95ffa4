use Rattle.std.proofs.Common.{◌≡◌, ℕ, suc, ◌+◌, ◌*◌, ◌-◌, None, Ok, refl, ap, ap₂, ◌∙◌, arith, rules, pred}
use Rattle.std.proofs.lemmas.Int.{to_z-of_z}
use mir.Syntax.{w32}
use Rattle.capnp_pointers.specs.declared.object.Purpose.TheVariants.{Value}
use Rattle.capnp_pointers.specs.Objects.{IsObjectRead}
use Rattle.capnp_pointers.specs.Reading.{Reading, place_past}
use Rattle.capnp_pointers.specs.Measure.{fold_pointers}
use Rattle.capnp_pointers.specs.Pointers.{reading, reading_on}
use Rattle.capnp_pointers.specs.Source.{levels}
use Rattle.capnp_pointers.proofs.Budget.MeasuresFall.{falls_in}
use Rattle.capnp_pointers.proofs.Sizes.MeasuredBySteps.{no_pointers, one_more, row_more}
use Rattle.capnp_pointers.proofs.Budget.OneLevelLess.{Opened, object_inside, object_level}
use Rattle.capnp_walks.specs.Listing.{into_array}
use Rattle.capnp_walks.specs.Walks.{unless_stopped, walk_elements, walk_within}
use Rattle.capnp_walks.proofs.Stepped.{object_ends, object_opens, pointer_stops, refusal_stops, row_stops}
use Rattle.capnp_walks.proofs.walks.walk.+walk.Goals as goal

pub walk_pointers-returns-in-Some : goal.walk_pointers-returns-in-Some
walk_pointers-returns-in-Some g t c =
    let nl = to_z-of_z w32 c.args.from.now.nesting_limit (search rules) in
    let r : Reading = reading_on g.A.ReaderArena c.args.from.now c.args.at c.args.from.now.nesting_limit in
    c.loop-i.invariant (suc (c.args.pointers - c.loop-i.i - 1)) (omega (arith, c.loop-i-test.true))
    ∙ pointer_stops (walk_within into_array r.levels c.args.parent) (place_past r c.loop-i.i) (c.args.pointers - c.loop-i.i - 1) (c.loop-i.objects, c.loop-i.count) _ _ _ _ (rw nl at c.in-Some.ensures)

pub walk_pointers-loop-i-preserved : goal.walk_pointers-loop-i-preserved
walk_pointers-loop-i-preserved g t c =
    let nl = to_z-of_z w32 c.args.from.now.nesting_limit (search rules) in
    let r : Reading = reading_on g.A.ReaderArena c.args.from.now c.args.at c.args.from.now.nesting_limit in
    λ k e. c.loop-i.invariant (suc k) (omega (arith, e)) ∙ one_more (unless_stopped (walk_within into_array r.levels c.args.parent)) r c.loop-i.i (c.loop-i.i + 1) k ((c.loop-i.objects, c.loop-i.count), None) _ _ _ refl (rw nl at c.in-None.ensures)

pub walk_pointers-returns : goal.walk_pointers-returns
walk_pointers-returns g t c = c.loop-i.invariant 0 (omega (arith, c.loop-i-test.false, c.loop-i.auto.i-end))

pub walk_elements-returns-then-pointers-eq0 : goal.walk_elements-returns-then-pointers-eq0
walk_elements-returns-then-pointers-eq0 g t c =
    let r : Reading = reading g.A.ReaderArena c.args.from.now in
    let d : ℕ = c.args.data_words in
    rw c.if-pointers-eq0.true (no_pointers (unless_stopped (walk_within into_array r.levels c.args.parent)) r d c.args.elements ((c.args.objects.now, c.args.count.now), None) c.args.lim.now)

pub walk_elements-returns-in-Some : goal.walk_elements-returns-in-Some
walk_elements-returns-in-Some g t c =
    let r : Reading = reading g.A.ReaderArena c.args.from.now in
    let d : ℕ = c.args.data_words in
    let q : ℕ = c.args.pointers in
    let f = walk_within into_array r.levels c.args.parent in
    let there : c.from-in-loop-i.result + c.from-in-loop-i-2.result * (c.from.result + c.from-2.result) + c.from-in-loop-i-3.result ≡ r.at + (c.loop-i.i * (d + q) + d) =
    ap₂ (λ x y. x + y) (ap₂ (λ x y. x + y) c.from-in-loop-i.ensures (ap₂ (λ x y. x * y) c.from-in-loop-i-2.ensures (ap₂ (λ x y. x + y) c.from.ensures c.from-2.ensures))) c.from-in-loop-i-3.ensures ∙ omega arith in
    let i : ℕ = c.loop-i.i in
    let found = ap (λ p. fold_pointers (unless_stopped f) q (record r { at = p }) ((c.loop-i.objects, c.loop-i.count), None) c.loop-i.lim) (omega arith) ∙ rw there at c.in-Some.ensures in
    c.loop-i.invariant (suc (c.args.elements - i - 1)) (omega (arith, c.loop-i-test.true))
    ∙ row_stops f (place_past r (i * (d + q))) d q (c.args.elements - i - 1) (c.loop-i.objects, c.loop-i.count) _ _ _ _ found

pub walk_elements-loop-i-preserved : goal.walk_elements-loop-i-preserved
walk_elements-loop-i-preserved g t c =
    let r : Reading = reading g.A.ReaderArena c.args.from.now in
    let d : ℕ = c.args.data_words in
    let q : ℕ = c.args.pointers in
    let f = walk_within into_array r.levels c.args.parent in
    let there : c.from-in-loop-i.result + c.from-in-loop-i-2.result * (c.from.result + c.from-2.result) + c.from-in-loop-i-3.result ≡ r.at + (c.loop-i.i * (d + q) + d) =
    ap₂ (λ x y. x + y) (ap₂ (λ x y. x + y) c.from-in-loop-i.ensures (ap₂ (λ x y. x * y) c.from-in-loop-i-2.ensures (ap₂ (λ x y. x + y) c.from.ensures c.from-2.ensures))) c.from-in-loop-i-3.ensures ∙ omega arith in
    λ k e. c.loop-i.invariant (suc k) (omega (arith, e)) ∙ row_more (unless_stopped f) r d q c.loop-i.i (c.loop-i.i + 1) k ((c.loop-i.objects, c.loop-i.count), None) _ _ _ refl (rw there at c.in-None.ensures)

pub walk_elements-returns : goal.walk_elements-returns
walk_elements-returns g t c =
    c.loop-i.invariant 0 (omega (arith, c.loop-i-test.false, c.loop-i.auto.i-end))

pub walk_object-returns-in-Err : goal.walk_object-returns-in-Err
walk_object-returns-in-Err g t c =
    let r : Reading = reading_on g.A.ReaderArena c.args.from.now c.args.at c.args.nesting_limit in
    let nl = to_z-of_z w32 c.args.nesting_limit c.ranges.nesting_limit in
    refusal_stops into_array c.args.parent r (c.args.objects.now, c.args.count.now) c.args.lim.now c.read.new.lim c.in-Err.refusal (rw nl at c.in-Err.ensures.computed)

pub walk_object-returns-in_default : goal.walk_object-returns-in_default
walk_object-returns-in_default g t c =
    let r : Reading = reading_on g.A.ReaderArena c.args.from.now c.args.at c.args.nesting_limit in
    let nl = to_z-of_z w32 c.args.nesting_limit c.ranges.nesting_limit in
    object_ends into_array c.args.parent r (c.args.objects.now, c.args.count.now) _ c.args.lim.now c.read.new.lim c.in-Ok.object c.in_default.ensures (rw nl at c.in-Ok.ensures.computed) c.add_object.ensures

pub walk_object-walk_elements-requires : goal.walk_object-walk_elements-requires
walk_object-walk_elements-requires g t c =
    let r : Reading = reading_on g.A.ReaderArena c.args.from.now c.args.at c.args.nesting_limit in
    let nl = to_z-of_z w32 c.args.nesting_limit c.ranges.nesting_limit in
    let object : IsObjectRead Value r c.in-Ok.object = rw nl at c.in-Ok.ensures.object in
    let opened : Opened Value r object.before object.after c.in-Ok.object c.in-Some.rows = record { is_read = object.object_of; has = c.in-Some.ensures } in
    let first = c.inside-first.ensures in
    λ κs le. (falls_in 2 (search rules) (first.levels ∙ ap (λ n. pred (levels n)) nl) (object_level c.in-Ok.object opened) c.decreases, (le, rw (first.source, first.place) (object_inside c.in-Ok.object opened)))

pub walk_object-returns : goal.walk_object-returns
walk_object-returns g t c =
    let r : Reading = reading_on g.A.ReaderArena c.args.from.now c.args.at c.args.nesting_limit in
    let nl = to_z-of_z w32 c.args.nesting_limit c.ranges.nesting_limit in
    let object : IsObjectRead Value r c.in-Ok.object = rw nl at c.in-Ok.ensures.object in
    let opened : Opened Value r object.before object.after c.in-Ok.object c.in-Some.rows = record { is_read = object.object_of; has = c.in-Some.ensures } in
    let first = c.inside-first.ensures in
    object_opens into_array c.args.parent r (c.args.objects.now, c.args.count.now) (c.add_object.new.objects, c.add_object.new.count) c.args.lim.now c.read.new.lim c.in-Ok.object c.in-Some.rows (object_level c.in-Ok.object opened) (rw nl at c.in-Ok.ensures.computed) c.in-Some.ensures c.add_object.ensures
    ∙ rw (first.source, first.place, first.levels, nl) at c.walk_elements.ensures
