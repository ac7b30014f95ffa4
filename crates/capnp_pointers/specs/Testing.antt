-- The test for canonical form, as a function of the place, the head and the limiter
-- ("Canonicalization"). It returns the head after the canonical words, or a fault; or it is
-- refused. Its checks are made in the order in which they are written.
use Rattle.std.specs.Prelude.{◌≡◌, ℕ, zero, suc, ◌+◌, ◌*◌, ◌-◌, ◌^◌, Bool, not, ◌||◌, if◌then◌else◌, nat_eq}
use Rattle.std.specs.Prelude.{nat_lt, length, Option, Some, None, Result, Ok, Err, true, false}
use Rattle.capnp_words.specs.declared.error.ErrorKind.{ErrorKind}
use Rattle.capnp_words.specs.Meter.{Meter}
use Rattle.capnp_words.specs.Sizes.{sized}
use Rattle.capnp_words.specs.declared.wire_pointer.StructSize.{StructSize}
use Rattle.capnp_format.specs.Numbers.{words_for, element_bits, from_digits}
use Rattle.capnp_format.specs.Word.{kind, list_count}
use Rattle.capnp_pointers.specs.declared.object.Purpose.TheVariants.{Value}
use Rattle.capnp_pointers.specs.Enter.{Shape, struct, flat, pointers, structs, read}
use Rattle.capnp_pointers.specs.Metered.{Metered, answer, ◌>>>◌, onward}
use Rattle.capnp_pointers.specs.Reading.{Reading, place_past, segment_read, word_of, words_from}
use Rattle.capnp_pointers.specs.Checking.{level_refusal_name}
use Rattle.capnp_pointers.specs.CanonicalFaults.{other_reason}
use Rattle.capnp_pointers.specs.declared.pointers.canonical_answer.Test.{Test}
use Rattle.capnp_pointers.specs.Measure.{fold_elements, fold_pointers}
use Rattle.capnp_pointers.specs.declared.pointers.canonical_fault.CanonicalFault.{CanonicalFault}
use Rattle.capnp_pointers.specs.declared.pointers.canonical_fault.CanonicalFaultReason.{CanonicalFaultReason}
use Rattle.capnp_pointers.specs.declared.pointers.canonical_fault.CanonicalFaultReason.TheVariants.{NoPointer}
use Rattle.capnp_pointers.specs.declared.pointers.canonical_fault.CanonicalFaultReason.TheVariants.{EmptyStructPlace}
use Rattle.capnp_pointers.specs.declared.pointers.canonical_fault.CanonicalFaultReason.TheVariants.{ObjectPlace}
use Rattle.capnp_pointers.specs.declared.pointers.canonical_fault.CanonicalFaultReason.TheVariants.{Padding}
use Rattle.capnp_pointers.specs.declared.pointers.canonical_fault.CanonicalFaultReason.TheVariants.{DataSection}
use Rattle.capnp_pointers.specs.declared.pointers.canonical_fault.CanonicalFaultReason.TheVariants.{PointerSection}
use Rattle.capnp_pointers.specs.declared.pointers.canonical_fault.CanonicalFaultReason.TheVariants.{ElementWords}
use Rattle.capnp_pointers.specs.declared.pointers.canonical_fault.CanonicalFaultReason.TheVariants.{ElementData}
use Rattle.capnp_pointers.specs.declared.pointers.canonical_fault.CanonicalFaultReason.TheVariants.{ElementPointers}

-- What a test finds: the head after the canonical words, or a fault.
abbrev pub Verdict : Type 0
Verdict = Result ℕ CanonicalFault

-- A step of a test, which takes the head before it.
abbrev pub TestStep : Type 0
TestStep = ℕ → Metered Verdict

-- The step f from the head that was found. A fault stays.
abbrev pub unless_fault : TestStep → Verdict → Metered Verdict
unless_fault f (Ok head) = f head
unless_fault f (Err fault) = answer (Err fault)

-- First g, then f. A fault or a refusal of g stays.
infixl 10 ◌>->◌
abbrev pub ◌>->◌ : TestStep → TestStep → TestStep
g >-> f = λ head. g head >>> unless_fault f

-- Finds the fault with this reason at position p of the segment of r, unless the test holds.
abbrev pub fault_unless : Bool → CanonicalFaultReason → Reading → ℕ → TestStep
fault_unless holds reason r p head =
    if holds then answer (Ok head) else
    answer (Err (record { segment = r.segment; word = p; reason = reason }))

-- Whether the last of the n words from the place r on isn't zero, or n is 0.
abbrev pub is_used : Reading → ℕ → Bool
is_used r n = nat_eq n 0 || not (nat_eq (word_of (record r { at = r.at + n - 1 })) 0)

-- Whether that is so at one of i places: r first, and then each `step` words after the one before.
abbrev pub some_used : Reading → ℕ → ℕ → ℕ → Bool
some_used r n step zero = false
some_used r n step (suc i) = is_used r n || some_used (place_past r step) n step i

-- Whether only zero bits follow the n elements of this size, in the words from the place r on.
abbrev pub is_padded : Reading → ℕ → ℕ → Bool
is_padded r size n =
    nat_lt (from_digits (2 ^ 64) (words_from r (words_for size n))) (2 ^ (element_bits size * n))

-- Tests i consecutive pointers, from the place r on; then those of n consecutive elements of d data
-- words and q pointers. f tests one pointer.
abbrev pub pointers_tested : (Reading → TestStep) → ℕ → Reading → TestStep
pointers_tested f i r head = fold_pointers (λ s. unless_fault (f s)) i r (Ok head)

abbrev pub elements_tested : (Reading → TestStep) → ℕ → ℕ → ℕ → Reading → TestStep
elements_tested f d q n r head = fold_elements (λ s. unless_fault (f s)) d q n r (Ok head)

-- Tests the struct of d data words and q pointers at the place r.
abbrev pub struct_tested : (Reading → TestStep) → ℕ → ℕ → Reading → Metered Verdict
struct_tested f d q r =
    (pointers_tested f q (place_past r d) >->
    fault_unless (is_used r d) DataSection r (r.at + d - 1) >->
    fault_unless (is_used (place_past r d) q) PointerSection r (r.at + d + q - 1))
    (r.at + d + q)

-- Tests the list of n bits or numbers of this size at the place r.
abbrev pub flat_tested : ℕ → ℕ → Reading → Metered Verdict
flat_tested size n r =
    fault_unless (is_padded r size n) Padding r (r.at + words_for size n - 1)
    (r.at + words_for size n)

-- Tests the n elements, from the place r on, of a list of structs of d data words and q pointers.
abbrev pub rows_tested : (Reading → TestStep) → ℕ → ℕ → ℕ → Reading → Metered Verdict
rows_tested f d q n r =
    (elements_tested f d q n r >->
    fault_unless (nat_eq d 0 || some_used r d (d + q) n) ElementData r (r.at - 1) >->
    fault_unless (nat_eq q 0 || some_used (place_past r d) q (d + q) n) ElementPointers r
    (r.at - 1))
    (r.at + n * (d + q))

-- The same for elements of this size, but first tests that the list claims no other words than
-- theirs.
abbrev pub structs_tested : (Reading → TestStep) → ℕ → StructSize → ℕ → Reading → Metered Verdict
structs_tested f claimed size n r =
    let d = size.data_words in
    let q = size.pointers in
    (fault_unless (nat_eq (n * (d + q)) claimed) ElementWords r (r.at - 1) >-> λ _.
    rows_tested f d q n r) r.at

-- Tests the object to which the pointer at the place r leads. f tests one of its pointers, and `at`
-- makes a place of a segment and a position.
abbrev pub object_tested :
    (Reading → TestStep) → (ℕ → ℕ → Reading) → Reading → Shape → TestStep
object_tested f at r (struct s p d q) head =
    if nat_eq (d + q) 0 then fault_unless (nat_eq p r.at) EmptyStructPlace r r.at head else
    (fault_unless (nat_eq p head) ObjectPlace r r.at >-> λ _. struct_tested f d q (at s p)) head
object_tested f at r (flat s p size n) head =
    (fault_unless (nat_eq p head) ObjectPlace r r.at >-> λ _. flat_tested size n (at s p)) head
object_tested f at r (pointers s p n) head =
    (fault_unless (nat_eq p head) ObjectPlace r r.at >-> λ _.
    pointers_tested f n (at s p) (p + n)) head
object_tested f at r (structs s p d q n) head =
    (fault_unless (nat_eq p (head + 1)) ObjectPlace r r.at >-> λ _.
    structs_tested f (list_count (word_of r)) (sized d q) n (at s p)) head
object_tested f at r o head = answer (Ok head)

-- A result with the error of its refusal renamed, if it has one, for a pointer with the word w.
abbrev pub renamed : {A : Type 0} → ℕ → Result A ErrorKind × Meter → Result A ErrorKind × Meter
renamed w (Ok x, m) = (Ok x, m)
renamed w (Err k, m) = (Err (level_refusal_name w k), m)

-- k is the error of the test, if reading is refused with l.
abbrev pub IsTestName : ErrorKind → ErrorKind → Type 0
IsTestName l k = (w : ℕ) × (k ≡ level_refusal_name w l)

-- Reads the object of the pointer at the place r, which has to be near, and tests it with f.
abbrev pub near_tested : (Shape → TestStep) → Reading → TestStep
near_tested f r =
    fault_unless (nat_lt r.at (length (segment_read r))) NoPointer r r.at >->
    fault_unless (nat_lt (kind (word_of r)) 2) (other_reason (word_of r)) r r.at >->
    (λ head m. onward (λ o. f o head) (renamed (word_of r) (read Value r m)))

-- Tests the value at the place r within n levels. Without a level, only a null pointer isn't
-- refused.
unfoldable pub test_within : ℕ → Reading → TestStep
test_within zero r = near_tested (λ o head. answer (Ok head)) (record r { levels = zero })
test_within (suc n) r =
    near_tested
    (object_tested (test_within n) (λ s p. record r { levels = n; segment = s; at = p }) r)
    (record r { levels = suc n })

-- The same with the levels of r; then for i consecutive pointers from r on.
abbrev pub test_value : Reading → TestStep
test_value r = test_within r.levels r

abbrev pub test_values : ℕ → Reading → TestStep
test_values i r = pointers_tested (test_within r.levels) i r

-- The verdict of a test that has stopped with this answer.
abbrev pub result_verdict : Result CanonicalFault ErrorKind → Result Verdict ErrorKind
result_verdict (Ok fault) = Ok (Err fault)
result_verdict (Err k) = Err k

-- What a step of the program's test returns: the head; or what it has left as the test's answer.
abbrev pub step_result : {E : Type 0} → Result ℕ E → Result CanonicalFault ErrorKind →
    Result Verdict ErrorKind
step_result (Ok head) answer = Ok (Ok head)
step_result (Err e) answer = result_verdict answer

-- A step of the program's test does what f does.
abbrev pub Tests : {E : Type 0} → Metered Verdict → Test → Test → Result ℕ E → Type 0
Tests f old new result = f old.lim ≡ (step_result result new.answer, new.lim)

-- The verdict of a call that returns a fault, or None and moves the head.
abbrev pub fault_verdict : Result (Option CanonicalFault) ErrorKind → ℕ → Result Verdict ErrorKind
fault_verdict (Ok None) head = Ok (Ok head)
fault_verdict (Ok (Some fault)) head = Ok (Err fault)
fault_verdict (Err k) head = Err k

-- The head that a test has found, if there is no fault; the same for a call that returns `true` and
-- moves the head.
abbrev pub head_found : Verdict → Option ℕ
head_found (Ok head) = Some head
head_found (Err fault) = None

abbrev pub head_moved : Result Bool ErrorKind → ℕ → Result (Option ℕ) ErrorKind
head_moved (Ok true) head = Ok (Some head)
head_moved (Ok false) head = Ok None
head_moved (Err k) head = Err k
