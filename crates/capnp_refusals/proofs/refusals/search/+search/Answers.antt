use Rattle.std.proofs.Common.{◌≡◌, ℕ, suc, ◌+◌, ◌*◌, ◌-◌, Some, None, Ok, refl, ap, ap₂, sym, ◌∙◌, arith, rules, pred}
use Rattle.std.proofs.lemmas.Int.{to_z-of_z}
use mir.Syntax.{w32}
use mir.Val.{to_z, of_z}
use Rattle.capnp_pointers.specs.Enter.{object_shape}
use Rattle.capnp_pointers.specs.Objects.{IsObjectRead}
use Rattle.capnp_pointers.specs.Reading.{Reading, place_past}
use Rattle.capnp_pointers.specs.Measure.{fold_pointers}
use Rattle.capnp_pointers.specs.Pointers.{reading, reading_on}
use Rattle.capnp_pointers.specs.Source.{levels}
use Rattle.capnp_pointers.proofs.Budget.MeasuresFall.{falls_in}
use Rattle.capnp_pointers.proofs.Sizes.MeasuredBySteps.{no_pointers, one_more, row_more}
use Rattle.capnp_pointers.proofs.Budget.OneLevelLess.{Opened, object_inside, object_level}
use Rattle.capnp_refusals.specs.Search.{search_elements, search_within, unless_found}
use Rattle.capnp_refusals.proofs.Searched.{ends_here, object_ends, object_opens, pointer_found, row_found, unmet, unread}
use Rattle.capnp_refusals.proofs.refusals.search.+search.Goals as goal

pub search_pointers-returns-in-Some : goal.search_pointers-returns-in-Some
search_pointers-returns-in-Some g t c =
    let r : Reading = reading_on g.A.ReaderArena c.args.from.now c.args.at (to_z w32 (of_z w32 c.args.nesting_limit)) in
    let nl = to_z-of_z w32 c.args.nesting_limit c.ranges.nesting_limit in
    let rest = c.loop-i.invariant (suc (c.args.count - c.loop-i.i - 1)) (omega (arith, c.loop-i-test.true)) in
    let whole = rest ∙ pointer_found (search_within c.args.demands r.levels) (place_past r c.loop-i.i) (c.args.count - c.loop-i.i - 1) _ _ _ c.in-Some.ensures in
    rw nl at whole

pub search_pointers-loop-i-preserved : goal.search_pointers-loop-i-preserved
search_pointers-loop-i-preserved g t c =
    let r : Reading = reading_on g.A.ReaderArena c.args.from.now c.args.at (to_z w32 (of_z w32 c.args.nesting_limit)) in
    λ k e. c.loop-i.invariant (suc k) (omega (arith, e)) ∙ one_more (unless_found (search_within c.args.demands r.levels)) r c.loop-i.i (c.loop-i.i + 1) k None None _ _ refl c.in-None.ensures

pub search_pointers-returns : goal.search_pointers-returns
search_pointers-returns g t c =
    let nl = to_z-of_z w32 c.args.nesting_limit c.ranges.nesting_limit in
    rw nl at (c.loop-i.invariant 0 (omega (arith, c.loop-i-test.false, c.loop-i.auto.i-end)))

pub search_elements-returns-then-pointers-eq0 : goal.search_elements-returns-then-pointers-eq0
search_elements-returns-then-pointers-eq0 g t c =
    let r : Reading = reading g.A.ReaderArena c.args.from.now in
    let d : ℕ = c.args.data_words in
    rw c.if-pointers-eq0.true (no_pointers (unless_found (search_within c.args.demands r.levels)) r d c.args.count None c.args.lim.now)

pub search_elements-returns-in-Some : goal.search_elements-returns-in-Some
search_elements-returns-in-Some g t c =
    let r : Reading = reading g.A.ReaderArena c.args.from.now in
    let d : ℕ = c.args.data_words in
    let q : ℕ = c.args.pointers in
    let f = search_within c.args.demands r.levels in
    let at : c.from-in-loop-i.result + c.from-in-loop-i-2.result * (c.from.result + c.from-2.result) + c.from-in-loop-i-3.result ≡ r.at + (c.loop-i.i * (d + q) + d) =
    ap₂ (λ x y. x + y) (ap₂ (λ x y. x + y) c.from-in-loop-i.ensures (ap₂ (λ x y. x * y) c.from-in-loop-i-2.ensures (ap₂ (λ x y. x + y) c.from.ensures c.from-2.ensures))) c.from-in-loop-i-3.ensures ∙ omega arith in
    let nl = to_z-of_z w32 c.args.from.now.nesting_limit (search rules) in
    let i : ℕ = c.loop-i.i in
    let found = ap (λ p. fold_pointers (unless_found f) q (record r { at = p }) None c.loop-i.lim) (omega arith) ∙ rw (at, nl) at c.in-Some.ensures in
    c.loop-i.invariant (suc (c.args.count - i - 1)) (omega (arith, c.loop-i-test.true))
    ∙ row_found f (place_past r (i * (d + q))) d q (c.args.count - i - 1) _ _ _ found

pub search_elements-loop-i-preserved : goal.search_elements-loop-i-preserved
search_elements-loop-i-preserved g t c =
    let r : Reading = reading g.A.ReaderArena c.args.from.now in
    let d : ℕ = c.args.data_words in
    let q : ℕ = c.args.pointers in
    let f = search_within c.args.demands r.levels in
    let at : c.from-in-loop-i.result + c.from-in-loop-i-2.result * (c.from.result + c.from-2.result) + c.from-in-loop-i-3.result ≡ r.at + (c.loop-i.i * (d + q) + d) =
    ap₂ (λ x y. x + y) (ap₂ (λ x y. x + y) c.from-in-loop-i.ensures (ap₂ (λ x y. x * y) c.from-in-loop-i-2.ensures (ap₂ (λ x y. x + y) c.from.ensures c.from-2.ensures))) c.from-in-loop-i-3.ensures ∙ omega arith in
    let nl = to_z-of_z w32 c.args.from.now.nesting_limit (search rules) in
    λ k e. c.loop-i.invariant (suc k) (omega (arith, e)) ∙ row_more (unless_found f) r d q c.loop-i.i (c.loop-i.i + 1) k None None _ _ refl (rw (at, nl) at c.in-None.ensures)

pub search_elements-returns : goal.search_elements-returns
search_elements-returns g t c =
    c.loop-i.invariant 0 (omega (arith, c.loop-i-test.false, c.loop-i.auto.i-end))

pub search_object-returns-in-Err : goal.search_object-returns-in-Err
search_object-returns-in-Err g t c =
    let r : Reading = reading_on g.A.ReaderArena c.args.from.now c.args.at c.args.nesting_limit in
    let nl = to_z-of_z w32 c.args.nesting_limit c.ranges.nesting_limit in
    ends_here c.args.demands r c.args.lim.now c.read.new.lim c.in-Err.refusal (unread c.args.demands r c.args.lim.now c.read.new.lim c.in-Err.refusal (rw nl at c.in-Err.ensures.computed))

pub search_object-returns-in-Err-refuse_capability : goal.search_object-returns-in-Err-refuse_capability
search_object-returns-in-Err-refuse_capability g t c =
    let r : Reading = reading_on g.A.ReaderArena c.args.from.now c.args.at c.args.nesting_limit in
    let nl = to_z-of_z w32 c.args.nesting_limit c.ranges.nesting_limit in
    ends_here c.args.demands r c.args.lim.now c.read.new.lim c.in-Err-refuse_capability.refusal (unmet c.args.demands r c.args.lim.now c.read.new.lim (object_shape c.in-Ok.object) c.in-Err-refuse_capability.refusal (rw nl at c.in-Ok.ensures.computed) (sym c.in-Err-refuse_capability.ensures))

pub search_object-returns-in_default : goal.search_object-returns-in_default
search_object-returns-in_default g t c =
    let r : Reading = reading_on g.A.ReaderArena c.args.from.now c.args.at c.args.nesting_limit in
    let nl = to_z-of_z w32 c.args.nesting_limit c.ranges.nesting_limit in
    object_ends c.args.demands r c.args.lim.now c.read.new.lim c.in-Ok.object c.in_default.ensures (rw nl at c.in-Ok.ensures.computed) (sym c.in-Ok-refuse_capability.ensures)

pub search_object-search_elements-requires : goal.search_object-search_elements-requires
search_object-search_elements-requires g t c =
    let r : Reading = reading_on g.A.ReaderArena c.args.from.now c.args.at c.args.nesting_limit in
    let nl = to_z-of_z w32 c.args.nesting_limit c.ranges.nesting_limit in
    let object : IsObjectRead c.args.demands.purpose r c.in-Ok.object = rw nl at c.in-Ok.ensures.object in
    let opened : Opened c.args.demands.purpose r object.before object.after c.in-Ok.object c.in-Some.rows = record { is_read = object.object_of; has = c.in-Some.ensures } in
    let first = c.inside-first.ensures in
    λ κs le. (falls_in 2 (search rules) (first.levels ∙ ap (λ n. pred (levels n)) nl) (object_level c.in-Ok.object opened) c.decreases, (le, rw (first.source, first.place) (object_inside c.in-Ok.object opened)))

pub search_object-returns : goal.search_object-returns
search_object-returns g t c =
    let r : Reading = reading_on g.A.ReaderArena c.args.from.now c.args.at c.args.nesting_limit in
    let nl = to_z-of_z w32 c.args.nesting_limit c.ranges.nesting_limit in
    let object : IsObjectRead c.args.demands.purpose r c.in-Ok.object = rw nl at c.in-Ok.ensures.object in
    let opened : Opened c.args.demands.purpose r object.before object.after c.in-Ok.object c.in-Some.rows = record { is_read = object.object_of; has = c.in-Some.ensures } in
    let first = c.inside-first.ensures in
    object_opens c.args.demands r c.args.lim.now c.read.new.lim c.in-Ok.object c.in-Some.rows (object_level c.in-Ok.object opened) (rw nl at c.in-Ok.ensures.computed) (sym c.in-Ok-refuse_capability.ensures) c.in-Some.ensures
    ∙ rw (first.source, first.place, first.levels, nl) at c.search_elements.ensures
