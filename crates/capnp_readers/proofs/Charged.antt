-- What a test for canonical form has charged, at any end.
use Rattle.std.proofs.Common.{inl, inr, ℕ, zero, suc, ◌+◌, ◌*◌, ◌-◌, ◌||◌, nat_lt, length, Bool, true, false, cond, nat_eq, Result, Ok, Err, refl, sym, subst}
use Rattle.capnp_words.specs.Meter.{Meter}
use Rattle.capnp_words.specs.declared.error.ErrorKind.{ErrorKind}
use Rattle.capnp_words.specs.Sizes.{sized}
use Rattle.capnp_format.specs.Numbers.{words_for}
use Rattle.capnp_format.specs.Word.{kind, list_count}
use Rattle.capnp_pointers.specs.Enter.{Shape, nothing, capability, struct, flat, pointers, structs, read}
use Rattle.capnp_pointers.specs.Metered.{Metered, answer, onward}
use Rattle.capnp_pointers.specs.Reading.{Reading, place_past, segment_read, word_of}
use Rattle.capnp_pointers.specs.Refusals.{exceeding, leading_nowhere, Stopped, no_target, broken, claim_exceeds, count_exceeds}
use Rattle.capnp_pointers.specs.Wanted.{plain}
use Rattle.capnp_pointers.specs.declared.object.Purpose.TheVariants.{Value}
use Rattle.capnp_pointers.specs.Spending.{Paid}
use Rattle.capnp_pointers.proofs.Budget.PaidAndLeft.{affords_none, after_none, paid_both, paid_own}
use Rattle.capnp_pointers.proofs.OneObject.ReadAsStated.{capability_is, entering_is, null_is, stopped_is}
use Rattle.capnp_pointers.proofs.Decided.{same_or_not}
use Rattle.capnp_pointers.proofs.OneObject.ReadInOneWay.{Ends, at_capability, at_object, refused, ends}
use Rattle.capnp_pointers.specs.CanonicalFaults.{other_reason}
use Rattle.capnp_pointers.specs.Testing.{TestStep, Verdict, elements_tested, fault_unless, flat_tested, is_padded, is_used, near_tested, object_tested, pointers_tested, renamed, rows_tested, some_used, struct_tested, structs_tested, test_values, test_within, unless_fault}
use Rattle.capnp_pointers.specs.Measure.{fold_elements, fold_pointers}
use Rattle.capnp_pointers.specs.declared.pointers.canonical_fault.CanonicalFaultReason.{CanonicalFaultReason}
use Rattle.capnp_pointers.specs.declared.pointers.canonical_fault.CanonicalFaultReason.TheVariants.{DataSection, ElementData, ElementPointers, ElementWords, EmptyStructPlace, NoPointer, ObjectPlace, Padding, PointerSection}

-- From m to m' g words were granted and i pointers counted.
abbrev pub IsCharged : Bool → Meter → Meter → Type 0
IsCharged charging m m' = (g : ℕ) × (i : ℕ) × Paid charging m m' g i

none : (charging : Bool) (m : Meter) → IsCharged charging m m
none charging m = (0, 0, record { covers = affords_none charging m; spent = sym (after_none charging m) })

abbrev Tested : Type 0
Tested = Result Verdict ErrorKind × Meter

-- A step after what a test has found; and a check after it, or before a step.
then : {charging : Bool} {m : Meter} (f : Verdict → Metered Verdict) (x : Tested) → IsCharged charging m x.1 → ((v : Verdict) (m1 : Meter) → IsCharged charging m1 (f v m1).1) → IsCharged charging m (onward f x).1
then f (Ok v, m1) (g, i, first) h = let (k, j, rest) = h v m1 in (g + k, i + j, paid_both first rest)
then f (Err k, m1) first h = first

checked : {charging : Bool} {m : Meter} (holds : Bool) (reason : CanonicalFaultReason) (r : Reading) (p : ℕ) (x : Tested) → IsCharged charging m x.1 → IsCharged charging m (onward (unless_fault (fault_unless holds reason r p)) x).1
checked true reason r p (Ok (Ok head), m1) charged = charged
checked false reason r p (Ok (Ok head), m1) charged = charged
checked holds reason r p (Ok (Err fault), m1) charged = charged
checked holds reason r p (Err k, m1) charged = charged

once_checked : {charging : Bool} (holds : Bool) (reason : CanonicalFaultReason) (r : Reading) (p head : ℕ) (m : Meter) (f : TestStep) → IsCharged charging m (f head m).1 → IsCharged charging m (onward (unless_fault f) (fault_unless holds reason r p head m)).1
once_checked true reason r p head m f charged = charged
once_checked {charging} false reason r p head m f charged = none charging m

last_checked : (charging holds : Bool) (reason : CanonicalFaultReason) (r : Reading) (p head : ℕ) (m : Meter) → IsCharged charging m (fault_unless holds reason r p head m).1
last_checked charging true reason r p head m = none charging m
last_checked charging false reason r p head m = none charging m

unless : {charging : Bool} (f : TestStep) → ((head : ℕ) (m : Meter) → IsCharged charging m (f head m).1) → (v : Verdict) (m : Meter) → IsCharged charging m (unless_fault f v m).1
unless f h (Ok head) m = h head m
unless {charging} f h (Err e) m = none charging m

-- Consecutive pointers and elements, from a place of r on, if f charges.
abbrev Charges : Reading → (Reading → TestStep) → Type 0
Charges r f = (p head : ℕ) (m : Meter) → IsCharged r.charging m (f (record r { at = p }) head m).1

all_charged : (f : Reading → TestStep) (r : Reading) → Charges r f → (i p : ℕ) (v : Verdict) (m : Meter) → IsCharged r.charging m (fold_pointers (λ s. unless_fault (f s)) i (record r { at = p }) v m).1
all_charged f r h zero p v m = none r.charging m
all_charged f r h (suc i) p v m = then (fold_pointers (λ s. unless_fault (f s)) i (record r { at = p + 1 })) (unless_fault (f (record r { at = p })) v m) (unless (f (record r { at = p })) (h p) v m) (all_charged f r h i (p + 1))

elements_charged : (f : Reading → TestStep) (r : Reading) → Charges r f → (d q n p : ℕ) (v : Verdict) (m : Meter) → IsCharged r.charging m (fold_elements (λ s. unless_fault (f s)) d q n (record r { at = p }) v m).1
elements_charged f r h d q zero p v m = none r.charging m
elements_charged f r h d q (suc n) p v m = then (fold_elements (λ s. unless_fault (f s)) d q n (record r { at = p + (d + q) })) (fold_pointers (λ s. unless_fault (f s)) q (record r { at = p + d }) v m) (all_charged f r h q (p + d) v m) (elements_charged f r h d q n (p + (d + q)))

-- An object that is read.
stopped_charged : (r : Reading) (m m' : Meter) (k : ErrorKind) → Stopped Value plain r m m' k → IsCharged r.charging m m'
stopped_charged r m m' k (no_target (exceeding some over paid named)) = (_, _, paid)
stopped_charged r m m' k (no_target (leading_nowhere some leads paid)) = (_, _, paid)
stopped_charged r m m' k (broken a follows breaks paid) = (_, _, paid)
stopped_charged r m m' k (claim_exceeds a follows level less there over paid named) = (_, _, paid)
stopped_charged r m m' k (count_exceeds a follows meets over paid named) = (_, _, paid)

abbrev Outcome : Type 0
Outcome = Result Shape ErrorKind × Meter

read_charged : (r : Reading) (m : Meter) → IsCharged r.charging m (read Value r m).1
read_charged r m = elim (same_or_not (word_of r) 0) [
  | inl z ↦ subst (λ (x : Outcome). IsCharged r.charging m x.1) (sym (null_is Value r m z)) (none r.charging m)
  | inr some ↦ go (ends Value r m some)
]
  where
    go : Ends Value r m → IsCharged r.charging m (read Value r m).1
    go (at_capability a f low covered) = subst (λ (x : Outcome). IsCharged r.charging m x.1) (sym (capability_is Value r a m (λ e. absurd (cc e)) f low covered)) (a.pads, 1, record { covers = covered; spent = refl })
    go (at_object a m' o) = subst (λ (x : Outcome). IsCharged r.charging m x.1) (sym (entering_is Value r m m' a o)) (_, _, paid_own o)
    go (refused k m' stops) = subst (λ (x : Outcome). IsCharged r.charging m x.1) (sym (stopped_is Value r m m' k (λ e. absurd (cc e)) stops)) (stopped_charged r m m' k stops)

-- The test of an object, if that of each of its pointers charges.
abbrev inner : ℕ → Reading → ℕ → ℕ → Reading
inner n r s p = record r { levels = n; segment = s; at = p }

object_charged : (n : ℕ) (f : Reading → TestStep) (r : Reading) → ((s : ℕ) → Charges (inner n r s 0) f) → (o : Shape) (head : ℕ) (m : Meter) → IsCharged r.charging m (object_tested f (inner n r) r o head m).1
object_charged n f r h nothing head m = none r.charging m
object_charged n f r h (capability i) head m = none r.charging m
object_charged n f r h (flat s p size i) head m =
    once_checked (nat_eq p head) ObjectPlace r r.at head m (λ e. flat_tested size i (inner n r s p))
    (last_checked r.charging (is_padded (inner n r s p) size i) Padding (inner n r s p) (p + words_for size i - 1) (p + words_for size i) m)
object_charged n f r h (pointers s p i) head m =
    once_checked (nat_eq p head) ObjectPlace r r.at head m (λ e. pointers_tested f i (inner n r s p) (p + i)) (all_charged f (inner n r s 0) (h s) i p (Ok (p + i)) m)
object_charged n f r h (structs s p d q i) head m =
    once_checked (nat_eq p (head + 1)) ObjectPlace r r.at head m (λ e. structs_tested f (list_count (word_of r)) (sized d q) i (inner n r s p))
    (once_checked (nat_eq (i * (d + q)) (list_count (word_of r))) ElementWords (inner n r s p) (p - 1) p m (λ e. rows_tested f d q i (inner n r s p))
    (checked (nat_eq q 0 || some_used (place_past (inner n r s p) d) q (d + q) i) ElementPointers (inner n r s p) (p - 1) (onward (unless_fault (fault_unless (nat_eq d 0 || some_used (inner n r s p) d (d + q) i) ElementData (inner n r s p) (p - 1))) (elements_tested f d q i (inner n r s p) (p + i * (d + q)) m))
    (checked (nat_eq d 0 || some_used (inner n r s p) d (d + q) i) ElementData (inner n r s p) (p - 1) (elements_tested f d q i (inner n r s p) (p + i * (d + q)) m) (elements_charged f (inner n r s 0) (h s) d q i p (Ok (p + i * (d + q))) m))))
object_charged n f r h (struct s p d q) head m = go (nat_eq (d + q) 0)
  where
    c : Reading
    c = inner n r s (p + d)

    go : (b : Bool) → IsCharged r.charging m (cond b (fault_unless (nat_eq p r.at) EmptyStructPlace r r.at head) (λ m1. onward (unless_fault (λ e. struct_tested f d q (inner n r s p))) (fault_unless (nat_eq p head) ObjectPlace r r.at head m1)) m).1
    go true = last_checked r.charging (nat_eq p r.at) EmptyStructPlace r r.at head m
    go false =
        once_checked (nat_eq p head) ObjectPlace r r.at head m (λ e. struct_tested f d q (inner n r s p))
        (checked (is_used c q) PointerSection (inner n r s p) (p + d + q - 1) (onward (unless_fault (fault_unless (is_used (inner n r s p) d) DataSection (inner n r s p) (p + d - 1))) (pointers_tested f q c (p + d + q) m))
        (checked (is_used (inner n r s p) d) DataSection (inner n r s p) (p + d - 1) (pointers_tested f q c (p + d + q) m) (all_charged f (inner n r s 0) (h s) q (p + d) (Ok (p + d + q)) m)))

near_charged : (f : Shape → TestStep) (r : Reading) → ((o : Shape) (head : ℕ) (m : Meter) → IsCharged r.charging m (f o head m).1) → (head : ℕ) (m : Meter) → IsCharged r.charging m (near_tested f r head m).1
near_charged f r h head m = go (nat_lt r.at (length (segment_read r))) (nat_lt (kind (word_of r)) 2)
  where
    read_on : (x : Outcome) → IsCharged r.charging m x.1 → IsCharged r.charging m (onward (λ o. f o head) (renamed (word_of r) x)).1
    read_on (Ok o, m1) (g, i, first) = let (k, j, rest) = h o head m1 in (g + k, i + j, paid_both first rest)
    read_on (Err k, m1) first = first

    go : (b c : Bool) → IsCharged r.charging m (onward (unless_fault (λ e m1. onward (λ o. f o e) (renamed (word_of r) (read Value r m1)))) (onward (unless_fault (fault_unless c (other_reason (word_of r)) r r.at)) (fault_unless b NoPointer r r.at head m))).1
    go true true = read_on (read Value r m) (read_charged r m)
    go true false = none r.charging m
    go false c = none r.charging m

-- The test of a place, and that of consecutive pointers.
pub place_charged : (n : ℕ) (r : Reading) (head : ℕ) (m : Meter) → IsCharged r.charging m (test_within n r head m).1
unfolding test_within
place_charged zero r head m = near_charged (λ o g. answer (Ok g)) (record r { levels = zero }) (λ o g m1. none r.charging m1) head m
place_charged (suc n) r head m = near_charged (object_tested (test_within n) (inner n r) r) (record r { levels = suc n }) (object_charged n (test_within n) r (λ s p. place_charged n (inner n r s p))) head m

pub pointers_charged : (i : ℕ) (r : Reading) (head : ℕ) (m : Meter) → IsCharged r.charging m (test_values i r head m).1
pointers_charged i r head m = all_charged (test_within r.levels) r (λ p. place_charged r.levels (record r { at = p })) i r.at (Ok head) m
