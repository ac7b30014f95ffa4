-- The search for a refused pointer, a step at a time: what it makes of an object that the program
-- has read, and of one that is refused.
use Rattle.std.proofs.Common.{◌≡◌, ℕ, zero, suc, pred, ◌+◌, ◌<◌, Some, None, Ok, Err, refl, ap, ◌∙◌, arith}
use Rattle.capnp_words.specs.declared.error.ErrorKind.{ErrorKind}
use Rattle.capnp_words.specs.Meter.{Meter}
use Rattle.capnp_pointers.specs.declared.object.Object.{Object}
use Rattle.capnp_pointers.specs.declared.object.ChildRows.{ChildRows}
use Rattle.capnp_pointers.specs.Enter.{Shape, object_shape, read}
use Rattle.capnp_pointers.specs.Metered.{Metered, answer, onward, outcome, ◌>>>◌}
use Rattle.capnp_pointers.specs.Reading.{Reading, place_past}
use Rattle.capnp_pointers.specs.Measure.{fold_children, fold_elements, fold_pointers}
use Rattle.capnp_pointers.specs.Sizes.{HasRows}
use Rattle.capnp_pointers.proofs.Sizes.MeasuredBySteps.{children_in_rows, no_children}
use Rattle.capnp_pointers.proofs.WholeValue.WordsAdded.{beginning}
use Rattle.capnp_refusals.specs.Search.{Finding, demanded, permitted, refused_at, search_elements, search_on, search_place, search_within, unless_found}
use Rattle.capnp_refusals.specs.declared.refusals.search.Demands.{Demands}
use Rattle.capnp_refusals.specs.declared.refusals.search.RefusedPointer.{RefusedPointer}

-- An object is read, and is permitted or not; or it isn't read.
pub met : (d : Demands) (r : Reading) (m m' : Meter) (o : Shape) → read d.purpose r m ≡ (Ok o, m') → permitted d.capabilities o ≡ Ok tt → demanded d r m ≡ (Ok o, m')
met d r m m' o e permits =
    ap (onward (λ o. outcome (permitted d.capabilities o) >>> λ _. answer o)) e ∙ ap (λ x. onward (λ _. answer o) (x, m')) permits

pub unmet : (d : Demands) (r : Reading) (m m' : Meter) (o : Shape) (k : ErrorKind) → read d.purpose r m ≡ (Ok o, m') → permitted d.capabilities o ≡ Err k → demanded d r m ≡ (Err k, m')
unmet d r m m' o k e refuses =
    ap (onward (λ o. outcome (permitted d.capabilities o) >>> λ _. answer o)) e ∙ ap (λ x. onward (λ _. answer o) (x, m')) refuses

pub unread : (d : Demands) (r : Reading) (m m' : Meter) (k : ErrorKind) → read d.purpose r m ≡ (Err k, m') → demanded d r m ≡ (Err k, m')
unread d r m m' k e = ap (onward (λ o. outcome (permitted d.capabilities o) >>> λ _. answer o)) e

-- The search ends here.
pub ends_here : (d : Demands) (r : Reading) (m m' : Meter) (k : ErrorKind) → demanded d r m ≡ (Err k, m') → search_place d r m ≡ (Ok (Some (refused_at r k)), m')
unfolding search_within
ends_here d r m m' k e = go r.levels e
  where
    go : (n : ℕ) → demanded d (record r { levels = n }) m ≡ (Err k, m') → search_within d n r m ≡ (Ok (Some (refused_at r k)), m')
    go zero e = ap (search_on r _) e
    go (suc n) e = ap (search_on r _) e

-- The search goes on with the children; or there are none.
pub opened : (d : Demands) (r : Reading) (m m' : Meter) (o : Shape) → 0 < r.levels → demanded d r m ≡ (Ok o, m') →
    search_place d r m ≡ fold_children (unless_found (search_within d (pred r.levels))) (record r { levels = pred r.levels }) o None m'
unfolding search_within
opened d r m m' o some e = go r.levels some e
  where
    go : (n : ℕ) → 0 < n → demanded d (record r { levels = n }) m ≡ (Ok o, m') → search_within d n r m ≡ fold_children (unless_found (search_within d (pred n))) (record r { levels = pred n }) o None m'
    go zero some e = absurd (omega arith)
    go (suc n) some e = ap (search_on r _) e

pub leaf : (d : Demands) (r : Reading) (m m' : Meter) (o : Shape) → ((f : Reading → Finding → Metered Finding) (s : Reading) (y : Finding) → fold_children f s o y m' ≡ (Ok y, m')) → demanded d r m ≡ (Ok o, m') →
    search_place d r m ≡ (Ok None, m')
unfolding search_within
leaf d r m m' o none e = go r.levels e
  where
    go : (n : ℕ) → demanded d (record r { levels = n }) m ≡ (Ok o, m') → search_within d n r m ≡ (Ok None, m')
    go zero e = ap (search_on r _) e
    go (suc n) e = ap (search_on r _) e ∙ none (unless_found (search_within d n)) (record r { levels = n }) None

-- The program's object x: it has no pointers, or those of these rows, which are read with one level
-- less.
pub object_ends : (d : Demands) (r : Reading) (m m' : Meter) (x : Object) → ((rows : ChildRows) → HasRows x rows → ⊥) → read d.purpose r m ≡ (Ok (object_shape x), m') → permitted d.capabilities (object_shape x) ≡ Ok tt → search_place d r m ≡ (Ok None, m')
object_ends d r m m' x none read_it permits = leaf d r m m' (object_shape x) (λ f s y. no_children f s x y m' none) (met d r m m' (object_shape x) read_it permits)

pub object_opens : (d : Demands) (r : Reading) (m m' : Meter) (x : Object) (rows : ChildRows) → 0 < r.levels → read d.purpose r m ≡ (Ok (object_shape x), m') → permitted d.capabilities (object_shape x) ≡ Ok tt → HasRows x rows →
    search_place d r m ≡ search_elements d rows.data_words rows.pointers rows.count (beginning r rows.start) m'
object_opens d r m m' x rows some read_it permits has =
    opened d r m m' (object_shape x) some (met d r m m' (object_shape x) read_it permits) ∙ children_in_rows (unless_found (search_within d (pred r.levels))) (record r { levels = pred r.levels }) x rows None m' has

-- Once a pointer is found, the search of the pointers after it finds the same.
pub pointers_stay : (f : Reading → Metered Finding) (i : ℕ) (r : Reading) (p : RefusedPointer) (m : Meter) → fold_pointers (unless_found f) i r (Some p) m ≡ (Ok (Some p), m)
pointers_stay f zero r p m = refl
pointers_stay f (suc i) r p m = pointers_stay f i (place_past r 1) p m

pub elements_stay : (f : Reading → Metered Finding) (d q n : ℕ) (r : Reading) (p : RefusedPointer) (m : Meter) → fold_elements (unless_found f) d q n r (Some p) m ≡ (Ok (Some p), m)
elements_stay f d q zero r p m = refl
elements_stay f d q (suc n) r p m =
    ap (onward (fold_elements (unless_found f) d q n (place_past r (d + q)))) (pointers_stay f q (place_past r d) p m) ∙ elements_stay f d q n (place_past r (d + q)) p m

-- A pointer is found at the first of several pointers, or among those of the first element.
pub pointer_found : (f : Reading → Metered Finding) (r : Reading) (i : ℕ) (p : RefusedPointer) (m m' : Meter) → f r m ≡ (Ok (Some p), m') → fold_pointers (unless_found f) (suc i) r None m ≡ (Ok (Some p), m')
pointer_found f r i p m m' e = ap (onward (fold_pointers (unless_found f) i (place_past r 1))) e ∙ pointers_stay f i (place_past r 1) p m'

pub row_found : (f : Reading → Metered Finding) (r : Reading) (d q n : ℕ) (p : RefusedPointer) (m m' : Meter) → fold_pointers (unless_found f) q (place_past r d) None m ≡ (Ok (Some p), m') → fold_elements (unless_found f) d q (suc n) r None m ≡ (Ok (Some p), m')
row_found f r d q n p m m' e = ap (onward (fold_elements (unless_found f) d q n (place_past r (d + q)))) e ∙ elements_stay f d q n (place_past r (d + q)) p m'
