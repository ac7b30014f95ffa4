-- The walk, a step at a time: what it makes of an object that the program has read, and of one that
-- is refused.
use Rattle.std.proofs.Common.{◌≡◌, ℕ, zero, suc, pred, ◌+◌, ◌<◌, Some, None, Ok, Err, refl, sym, ap, ◌∙◌, arith}
use Rattle.capnp_words.specs.declared.error.ErrorKind.{ErrorKind}
use Rattle.capnp_words.specs.Meter.{Meter}
use Rattle.capnp_pointers.specs.declared.object.Object.{Object}
use Rattle.capnp_pointers.specs.declared.object.ChildRows.{ChildRows}
use Rattle.capnp_pointers.specs.declared.object.Purpose.TheVariants.{Value}
use Rattle.capnp_pointers.specs.Enter.{Shape, object_shape, read}
use Rattle.capnp_pointers.specs.Metered.{Metered, answer, onward}
use Rattle.capnp_pointers.specs.Reading.{Reading, place_past}
use Rattle.capnp_pointers.specs.Measure.{fold_children, fold_elements, fold_pointers}
use Rattle.capnp_pointers.specs.Sizes.{HasRows}
use Rattle.capnp_pointers.proofs.Sizes.MeasuredBySteps.{children_in_rows, no_children}
use Rattle.capnp_pointers.proofs.WholeValue.WordsAdded.{beginning}
use Rattle.capnp_refusals.specs.Search.{refused_at}
use Rattle.capnp_refusals.specs.declared.refusals.search.RefusedPointer.{RefusedPointer}
use Rattle.capnp_walks.specs.Listing.{Collector}
use Rattle.capnp_walks.specs.Walks.{Walking, added, unless_stopped, walk_elements, walk_on, walk_place, walk_within}

-- The object at r is refused: the walk stops there.
pub refusal_stops : {X : Type 0} (c : Collector X) (parent : ℕ) (r : Reading) (x : X) (m m' : Meter) (k : ErrorKind) → read Value r m ≡ (Err k, m') → walk_place c parent r x m ≡ (Ok (x, Some (refused_at r k)), m')
unfolding walk_within
refusal_stops {X} c parent r x m m' k refusal = go r.levels refusal
  where
    go : (n : ℕ) → read Value (record r { levels = n }) m ≡ (Err k, m') → walk_within c n parent r x m ≡ (Ok (x, Some (refused_at r k)), m')
    go zero e = ap (walk_on r (λ o y. answer (added c parent r o y, None)) x) e
    go (suc n) e = ap (walk_on r (λ o y. fold_children (unless_stopped (walk_within c n (c.next y))) (record r { levels = n }) o (added c parent r o y, None)) x) e

-- The walk goes on with the children; or there are none.
pub opened : {X : Type 0} (c : Collector X) (parent : ℕ) (r : Reading) (x : X) (m m' : Meter) (o : Shape) → 0 < r.levels → read Value r m ≡ (Ok o, m') →
    walk_place c parent r x m ≡ fold_children (unless_stopped (walk_within c (pred r.levels) (c.next x))) (record r { levels = pred r.levels }) o (added c parent r o x, None) m'
unfolding walk_within
opened {X} c parent r x m m' o some e = go r.levels some e
  where
    go : (n : ℕ) → 0 < n → read Value (record r { levels = n }) m ≡ (Ok o, m') → walk_within c n parent r x m ≡ fold_children (unless_stopped (walk_within c (pred n) (c.next x))) (record r { levels = pred n }) o (added c parent r o x, None) m'
    go zero some e = absurd (omega arith)
    go (suc n) some e = ap (walk_on r (λ o y. fold_children (unless_stopped (walk_within c n (c.next y))) (record r { levels = n }) o (added c parent r o y, None)) x) e

pub leaf : {X : Type 0} (c : Collector X) (parent : ℕ) (r : Reading) (x : X) (m m' : Meter) (o : Shape) → ((f : Reading → Walking X → Metered (Walking X)) (s : Reading) (y : Walking X) → fold_children f s o y m' ≡ (Ok y, m')) → read Value r m ≡ (Ok o, m') →
    walk_place c parent r x m ≡ (Ok (added c parent r o x, None), m')
unfolding walk_within
leaf {X} c parent r x m m' o none e = go r.levels e
  where
    go : (n : ℕ) → read Value (record r { levels = n }) m ≡ (Ok o, m') → walk_within c n parent r x m ≡ (Ok (added c parent r o x, None), m')
    go zero e = ap (walk_on r (λ o y. answer (added c parent r o y, None)) x) e
    go (suc n) e = ap (walk_on r (λ o y. fold_children (unless_stopped (walk_within c n (c.next y))) (record r { levels = n }) o (added c parent r o y, None)) x) e ∙ none (unless_stopped (walk_within c n (c.next x))) (record r { levels = n }) (added c parent r o x, None)

-- The program's object o, with the collection y after its entry was added: it has no pointers, or
-- those of these rows, which are read with one level less.
pub object_ends : {X : Type 0} (c : Collector X) (parent : ℕ) (r : Reading) (x y : X) (m m' : Meter) (o : Object) → ((rows : ChildRows) → HasRows o rows → ⊥) → read Value r m ≡ (Ok (object_shape o), m') →
    y ≡ added c parent r (object_shape o) x → walk_place c parent r x m ≡ (Ok (y, None), m')
object_ends c parent r x y m m' o none read_it sums =
    leaf c parent r x m m' (object_shape o) (λ f s z. no_children f s o z m' none) read_it ∙ ap (λ z. (Ok (z, None), m')) (sym sums)

pub object_opens : {X : Type 0} (c : Collector X) (parent : ℕ) (r : Reading) (x y : X) (m m' : Meter) (o : Object) (rows : ChildRows) → 0 < r.levels → read Value r m ≡ (Ok (object_shape o), m') → HasRows o rows →
    y ≡ added c parent r (object_shape o) x → walk_place c parent r x m ≡ walk_elements c (c.next x) rows.data_words rows.pointers rows.count (beginning r rows.start) y m'
object_opens c parent r x y m m' o rows some read_it has sums =
    let f = unless_stopped (walk_within c (pred r.levels) (c.next x)) in
    opened c parent r x m m' (object_shape o) some read_it ∙ children_in_rows f (record r { levels = pred r.levels }) o rows (added c parent r (object_shape o) x, None) m' has
    ∙ ap (λ z. fold_elements f rows.data_words rows.pointers rows.count (beginning r rows.start) (z, None) m') (sym sums)

-- Once the walk is stopped, the pointers after it add nothing.
pub pointers_stay : {X : Type 0} (f : Reading → X → Metered (Walking X)) (i : ℕ) (r : Reading) (x : X) (p : RefusedPointer) (m : Meter) → fold_pointers (unless_stopped f) i r (x, Some p) m ≡ (Ok (x, Some p), m)
pointers_stay f zero r x p m = refl
pointers_stay f (suc i) r x p m = pointers_stay f i (place_past r 1) x p m

pub elements_stay : {X : Type 0} (f : Reading → X → Metered (Walking X)) (d q n : ℕ) (r : Reading) (x : X) (p : RefusedPointer) (m : Meter) → fold_elements (unless_stopped f) d q n r (x, Some p) m ≡ (Ok (x, Some p), m)
elements_stay f d q zero r x p m = refl
elements_stay f d q (suc n) r x p m =
    ap (onward (fold_elements (unless_stopped f) d q n (place_past r (d + q)))) (pointers_stay f q (place_past r d) x p m) ∙ elements_stay f d q n (place_past r (d + q)) x p m

-- The walk stops at the first of several pointers, or among those of the first element.
pub pointer_stops : {X : Type 0} (f : Reading → X → Metered (Walking X)) (r : Reading) (i : ℕ) (x y : X) (p : RefusedPointer) (m m' : Meter) → f r x m ≡ (Ok (y, Some p), m') → fold_pointers (unless_stopped f) (suc i) r (x, None) m ≡ (Ok (y, Some p), m')
pointer_stops f r i x y p m m' e = ap (onward (fold_pointers (unless_stopped f) i (place_past r 1))) e ∙ pointers_stay f i (place_past r 1) y p m'

pub row_stops : {X : Type 0} (f : Reading → X → Metered (Walking X)) (r : Reading) (d q n : ℕ) (x y : X) (p : RefusedPointer) (m m' : Meter) → fold_pointers (unless_stopped f) q (place_past r d) (x, None) m ≡ (Ok (y, Some p), m') → fold_elements (unless_stopped f) d q (suc n) r (x, None) m ≡ (Ok (y, Some p), m')
row_stops f r d q n x y p m m' e = ap (onward (fold_elements (unless_stopped f) d q n (place_past r (d + q)))) e ∙ elements_stay f d q n (place_past r (d + q)) y p m'
