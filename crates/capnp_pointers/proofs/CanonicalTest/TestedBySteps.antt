-- The test for canonical form, a step at a time: what its function makes of a place, of an object
-- that is read, and of consecutive pointers and elements.
use Rattle.std.proofs.Common.{◌≡◌, ◌≢◌, ◌↔◌, ◌⊎◌, inl, inr, IsTrue, List, take, drop, Some, None, IfOk, OnErr, subst, ℕ, zero, suc, pred, ◌+◌, ◌*◌, ◌-◌, ◌^◌, ◌<◌, ◌≤◌, ◌||◌, Bool, true, false, not, nat_eq, nat_lt, Result, Ok, Err, IsErr, length, refl, sym, ap, ap₂, ◌∙◌, arith, lt-ltb, eq-eqb}
use Rattle.std.proofs.lemmas.Bool.{false≢true, ne_eqb}
use Rattle.capnp_words.specs.declared.error.ErrorKind.{ErrorKind}
use Rattle.capnp_words.specs.Meter.{Meter}
use Rattle.capnp_format.specs.Word.{kind, data_words, pointer_count, element_size, list_count}
use Rattle.capnp_format.specs.Numbers.{words_for, element_bits, from_digits}
use Rattle.capnp_words.specs.Sizes.{size_number}
use Rattle.capnp_words.specs.declared.wire_pointer.ElementSize.{ElementSize}
use Rattle.capnp_words.specs.declared.wire_pointer.StructSize.{StructSize}
use Rattle.capnp_pointers.specs.declared.object.Object.{Object}
use Rattle.capnp_pointers.specs.declared.object.Object.TheVariants.{Null as ObjectNull, Capability as ObjectCapability, Struct as ObjectStruct, Flat as ObjectFlat, Pointers as ObjectPointers, Structs as ObjectStructs}
use Rattle.capnp_pointers.specs.Objects.{EntersNear, IsObject, near_at}
use Rattle.capnp_pointers.specs.Refusals.{NotRead}
use Rattle.capnp_pointers.proofs.OneObject.ReadAsStated.{entering_is, object_is, stopped_is}
use Rattle.capnp_pointers.proofs.Decided.{same_or_not}
use Rattle.capnp_pointers.proofs.Following.LeadsWhereFollowed.{entered_leads, leads_there}
use Rattle.capnp_pointers.specs.Standing.{IsPadded}
use Rattle.capnp_pointers.specs.declared.object.Purpose.TheVariants.{Value}
use Rattle.capnp_pointers.specs.Enter.{Shape, struct, flat, pointers, structs, object_shape, read}
use Rattle.capnp_pointers.specs.Metered.{answer, onward}
use Rattle.capnp_pointers.specs.Reading.{Reading, place_past, segment_read, word_of}
use Rattle.capnp_pointers.specs.Checking.{IsTestedWord, StartsRight, TellsFlat, level_refusal_name}
use Rattle.capnp_pointers.specs.CanonicalFaults.{other_reason}
use Rattle.capnp_pointers.specs.Measure.{fold_elements, fold_pointers}
use Rattle.capnp_pointers.specs.Testing.{TestStep, Verdict, flat_tested, is_padded, rows_tested, some_used, struct_tested, structs_tested, elements_tested, fault_unless, object_tested, pointers_tested, renamed, result_verdict, step_result, test_value, test_within, unless_fault}
use Rattle.capnp_pointers.specs.declared.pointers.canonical_fault.CanonicalFault.{CanonicalFault}
use Rattle.capnp_pointers.specs.declared.pointers.canonical_fault.CanonicalFaultReason.{CanonicalFaultReason}
use Rattle.capnp_pointers.specs.declared.pointers.canonical_fault.CanonicalFaultReason.TheVariants.{ElementData, ElementPointers, EmptyStructPlace, NoPointer, ObjectPlace, Padding}
use Rattle.capnp_pointers.proofs.Sizes.MeasuredBySteps.{near_flat, near_struct, no_pointers}
use Rattle.capnp_pointers.proofs.CanonicalTest.FoundBySteps.{IsList, near_object}

pub less_false : {x y : ℕ} → (x < y → ⊥) → nat_lt x y ≡ false
less_false {x} {y} h = let le : y ≤ x = omega (arith, h) in let e : nat_lt x y ≡ false = grind (arith, le) in e

-- What comes of an object that is read with n levels.
abbrev pub after_read : ℕ → Reading → Shape → TestStep
after_read zero r o head = answer (Ok head)
after_read (suc n) r o head = object_tested (test_within n) (λ s p. record r { levels = n; segment = s; at = p }) r o head

pub not_there_is : (n : ℕ) (r : Reading) (h : ℕ) (m : Meter) → (r.at < length (segment_read r) → ⊥) → test_within n r h m ≡ (Ok (Err (record { segment = r.segment; word = r.at; reason = NoPointer })), m)
unfolding test_within
not_there_is zero r h m out = rw (less_false out) refl
not_there_is (suc n) r h m out = rw (less_false out) refl

pub not_near_is : (n : ℕ) (r : Reading) (h : ℕ) (m : Meter) → r.at < length (segment_read r) → (kind (word_of r) < 2 → ⊥) → test_within n r h m ≡ (Ok (Err (record { segment = r.segment; word = r.at; reason = other_reason (word_of r) })), m)
unfolding test_within
not_near_is zero r h m there far = rw (lt-ltb _ _ there, less_false far) refl
not_near_is (suc n) r h m there far = rw (lt-ltb _ _ there, less_false far) refl

pub near_is : (n : ℕ) (r : Reading) (h : ℕ) (m : Meter) → r.at < length (segment_read r) → kind (word_of r) < 2 → test_within n r h m ≡ onward (λ o. after_read n r o h) (renamed (word_of r) (read Value (record r { levels = n }) m))
unfolding test_within
near_is zero r h m there near = rw (lt-ltb _ _ there, lt-ltb _ _ near) refl
near_is (suc n) r h m there near = rw (lt-ltb _ _ there, lt-ltb _ _ near) refl

-- A null pointer, an object that can't be read, and one that is read.
pub null_tested : (n : ℕ) (r : Reading) (h : ℕ) (m : Meter) → r.at < length (segment_read r) → word_of r ≡ 0 → test_within n r h m ≡ (Ok (Ok h), m)
null_tested n r h m there z =
    let near : kind (word_of r) < 2 = omega (arith, z) in
    near_is n r h m there near ∙ go n
  where
    go : (n : ℕ) → onward (λ o. after_read n r o h) (renamed (word_of r) (read Value (record r { levels = n }) m)) ≡ (Ok (Ok h), m)
    go zero = rw z refl
    go (suc n) = rw z refl

pub unread : (r : Reading) (h : ℕ) (m m' : Meter) (k : ErrorKind) → r.at < length (segment_read r) → kind (word_of r) < 2 → read Value r m ≡ (Err k, m') → test_value r h m ≡ (Err (level_refusal_name (word_of r) k), m')
unread r h m m' k there near e = near_is r.levels r h m there near ∙ ap (λ x. onward (λ o. after_read r.levels r o h) (renamed (word_of r) x)) e

abbrev pub inner : Reading → ℕ → ℕ → Reading
inner r s p = record r { levels = pred r.levels; segment = s; at = p }

pub object_read : (r : Reading) (h : ℕ) (m m' : Meter) (o : Shape) → r.at < length (segment_read r) → kind (word_of r) < 2 → 0 < r.levels → read Value r m ≡ (Ok o, m') →
    test_value r h m ≡ object_tested (test_within (pred r.levels)) (inner r) r o h m'
object_read r h m m' o there near some e = near_is r.levels r h m there near ∙ ap (λ x. onward (λ o. after_read r.levels r o h) (renamed (word_of r) x)) e ∙ go r.levels some
  where
    go : (n : ℕ) → 0 < n → after_read n r o h m' ≡ object_tested (test_within (pred n)) (λ s p. record r { levels = pred n; segment = s; at = p }) r o h m'
    go zero some = absurd (omega arith)
    go (suc n) some = refl

-- A fault stays: no more is tested.
pub faults_stay : (f : Reading → TestStep) (i : ℕ) (r : Reading) (e : CanonicalFault) (m : Meter) → fold_pointers (λ s. unless_fault (f s)) i r (Err e) m ≡ (Ok (Err e), m)
faults_stay f zero r e m = refl
faults_stay f (suc i) r e m = faults_stay f i (place_past r 1) e m

pub fault_rows_stay : (f : Reading → TestStep) (d q n : ℕ) (r : Reading) (e : CanonicalFault) (m : Meter) → fold_elements (λ s. unless_fault (f s)) d q n r (Err e) m ≡ (Ok (Err e), m)
fault_rows_stay f d q zero r e m = refl
fault_rows_stay f d q (suc n) r e m = ap (onward _) (faults_stay f q (place_past r d) e m) ∙ fault_rows_stay f d q n (place_past r (d + q)) e m

-- What a test that has stopped leaves.
abbrev pub stopped : Result CanonicalFault ErrorKind → Meter → Result Verdict ErrorKind × Meter
stopped a m = (result_verdict a, m)

pub pointers_stop : (f : Reading → TestStep) (k : ℕ) (r : Reading) (h : ℕ) (a : Result CanonicalFault ErrorKind) (m m' : Meter) → f r h m ≡ stopped a m' → pointers_tested f (suc k) r h m ≡ stopped a m'
pointers_stop f k r h (Ok e) m m' is = ap (onward _) is ∙ faults_stay f k (place_past r 1) e m'
pointers_stop f k r h (Err e) m m' is = ap (onward _) is

pub rows_stop : (f : Reading → TestStep) (d q k : ℕ) (r : Reading) (h : ℕ) (a : Result CanonicalFault ErrorKind) (m m' : Meter) → pointers_tested f q (place_past r d) h m ≡ stopped a m' → elements_tested f d q (suc k) r h m ≡ stopped a m'
rows_stop f d q k r h (Ok e) m m' is = ap (onward _) is ∙ fault_rows_stay f d q k (place_past r (d + q)) e m'
rows_stop f d q k r h (Err e) m m' is = ap (onward _) is

pub step_stopped : {E : Type 0} (result : Result ℕ E) (a : Result CanonicalFault ErrorKind) → IsErr result → result_verdict a ≡ step_result result a
step_stopped (Ok x) a is = absurd (false≢true is)
step_stopped (Err k) a is = refl

-- The object of a word that is tested, which is near.

pub refused_here : {w : ℕ} {r : Reading} (h : ℕ) {m m' : Meter} {k : ErrorKind} {a : Result CanonicalFault ErrorKind} → IsTestedWord w r → NotRead Value r m m' k → a ≡ Err (level_refusal_name w k) → test_value r h m ≡ stopped a m'
refused_here {w} {r} h {m} {m'} {k} ready refusal is =
    unread r h m m' k ready.ready.there ready.ready.near (stopped_is Value r m m' k (λ e. absurd (cc e)) refusal)
    ∙ ap (λ x. (Err (level_refusal_name x k), m')) (sym ready.there) ∙ ap (λ b. stopped b m') (sym is)

abbrev pub tested_as : Reading → Shape → ℕ → Meter → Result Verdict ErrorKind × Meter
tested_as r o h m = object_tested (test_within (pred r.levels)) (inner r) r o h m

pub struct_is : {w : ℕ} {r : Reading} (h : ℕ) {m m' : Meter} {p : ℕ} (size : StructSize) → IsTestedWord w r → kind w ≡ 0 → EntersNear Value r m m' p → size.data_words ≡ data_words w → size.pointers ≡ pointer_count w →
    test_value r h m ≡ tested_as r (struct r.segment p size.data_words size.pointers) h m'
struct_is {w} {r} h {m} {m'} {p} size ready z o wide many =
    object_read r h m m' _ ready.ready.there ready.ready.near o.meets.levels (entering_is Value r m m' (near_at r p) o ∙ ap (λ x. (Ok x, m')) (near_struct r p (subst (λ x. kind x ≡ 0) ready.there z)))
    ∙ ap₂ (λ d q. tested_as r (struct r.segment p d q) h m') (sym (wide ∙ ap data_words ready.there)) (sym (many ∙ ap pointer_count ready.there))

pub flat_is : {w : ℕ} {r : Reading} (h : ℕ) {m m' : Meter} {p i n : ℕ} → IsTestedWord w r → kind w ≡ 1 → element_size w ≤ 5 → EntersNear Value r m m' p → i ≡ element_size w → n ≡ list_count w →
    test_value r h m ≡ tested_as r (flat r.segment p i n) h m'
flat_is {w} {r} h {m} {m'} {p} {i} {n} ready one small o size many =
    object_read r h m m' _ ready.ready.there ready.ready.near o.meets.levels
    (entering_is Value r m m' (near_at r p) o ∙ ap (λ x. (Ok x, m')) (near_flat r p (subst (λ x. kind x ≡ 1) ready.there one) (subst (λ x. element_size x ≤ 5) ready.there small)))
    ∙ ap₂ (λ d q. tested_as r (flat r.segment p d q) h m') (sym (size ∙ ap element_size ready.there)) (sym (many ∙ ap list_count ready.there))

pub list_level : {w : ℕ} {r : Reading} (m m' : Meter) (x : Object) → IsTestedWord w r → kind w ≡ 1 → IsObject Value r m m' x → (0 < r.levels) × IsList x
list_level m m' ObjectNull ready one object = absurd (omega (arith, ap kind ready.there, ap kind object.0, one))
list_level {r = r} m m' (ObjectCapability i) ready one (a, l, low, index, covers, spent) =
    let near = near_object r ready.ready.near (leads_there r a l (λ f. omega (arith, f, low))) in
    absurd (omega (arith, ap kind near.same_word, ap kind ready.there, low, one))
list_level {r = r} m m' (ObjectStruct start size) ready one (a, o, z, starts, wide, many) =
    let near = near_object r ready.ready.near (entered_leads o) in
    absurd (omega (arith, ap kind near.same_word, ap kind ready.there, z, one))
list_level m m' (ObjectFlat start size n) ready one (a, o, z, small, starts, width, len) = (o.meets.levels, tt)
list_level m m' (ObjectPointers start n) ready one (a, o, z, six, starts, many) = (o.meets.levels, tt)
list_level m m' (ObjectStructs start size n) ready one (a, o, z, seven, starts, many, wide, rest) = (o.meets.levels, tt)

pub list_is : {w : ℕ} {r : Reading} (h : ℕ) (m m' : Meter) {x y : Object} → IsTestedWord w r → kind w ≡ 1 → x ≡ y → IsObject Value r m m' x → test_value r h m ≡ tested_as r (object_shape y) h m'
list_is {w} {r} h m m' {x} ready one same object =
    object_read r h m m' _ ready.ready.there ready.ready.near (list_level m m' x ready one object).0 (object_is Value r m m' x object) ∙ ap (λ o. tested_as r (object_shape o) h m') same

-- Where an object starts.

abbrev misplaced : Reading → CanonicalFaultReason → Meter → Result Verdict ErrorKind × Meter
misplaced r reason m = (Ok (Err (record { segment = r.segment; word = r.at; reason = reason })), m)

pub empty_elsewhere : (r : Reading) (s p d q h : ℕ) (m : Meter) → d + q ≡ 0 → p ≢ r.at → tested_as r (struct s p d q) h m ≡ misplaced r EmptyStructPlace m
empty_elsewhere r s p d q h m none other = rw (eq-eqb _ _ none, ne_eqb _ _ other) refl

pub empty_there : (r : Reading) (s p d q h : ℕ) (m : Meter) → d + q ≡ 0 → p ≡ r.at → tested_as r (struct s p d q) h m ≡ (Ok (Ok h), m)
empty_there r s p d q h m none there = rw (eq-eqb _ _ none, eq-eqb _ _ there) refl

pub struct_elsewhere : (r : Reading) (s p d q h : ℕ) (m : Meter) → d + q ≢ 0 → p ≢ h → tested_as r (struct s p d q) h m ≡ misplaced r ObjectPlace m
struct_elsewhere r s p d q h m some other = rw (ne_eqb _ _ some, ne_eqb _ _ other) refl

pub struct_there : (r : Reading) (s p d q h : ℕ) (m : Meter) → d + q ≢ 0 → p ≡ h → tested_as r (struct s p d q) h m ≡ struct_tested (test_within (pred r.levels)) d q (inner r s p) m
struct_there r s p d q h m some there = rw (ne_eqb _ _ some, eq-eqb _ _ there) refl

pub list_elsewhere : (r : Reading) (x : Object) (h : ℕ) (m : Meter) → IsList x → (StartsRight x r.at h → ⊥) → tested_as r (object_shape x) h m ≡ misplaced r ObjectPlace m
list_elsewhere r (ObjectFlat start size n) h m list other = rw (ne_eqb _ _ other) refl
list_elsewhere r (ObjectPointers start n) h m list other = rw (ne_eqb _ _ other) refl
list_elsewhere r (ObjectStructs start size n) h m list other = rw (ne_eqb _ _ other) refl
list_elsewhere r ObjectNull h m list other = absurd list
list_elsewhere r (ObjectCapability i) h m list other = absurd list
list_elsewhere r (ObjectStruct start size) h m list other = absurd list

pub flat_elsewhere : (r : Reading) (s p i n h : ℕ) (m : Meter) → p ≢ h → tested_as r (flat s p i n) h m ≡ misplaced r ObjectPlace m
flat_elsewhere r s p i n h m other = rw (ne_eqb _ _ other) refl

pub flat_there : (r : Reading) (s p i n h : ℕ) (m : Meter) → p ≡ h → tested_as r (flat s p i n) h m ≡ flat_tested i n (inner r s p) m
flat_there r s p i n h m there = rw (eq-eqb _ _ there) refl

pub pointers_there : (r : Reading) (s p n h : ℕ) (m : Meter) → p ≡ h → tested_as r (pointers s p n) h m ≡ pointers_tested (test_within (pred r.levels)) n (inner r s p) (p + n) m
pointers_there r s p n h m there = rw (eq-eqb _ _ there) refl

pub structs_there : (r : Reading) (s p n h : ℕ) (size : StructSize) (m : Meter) → p ≡ h + 1 → tested_as r (structs s p size.data_words size.pointers n) h m ≡ structs_tested (test_within (pred r.levels)) (list_count (word_of r)) size n (inner r s p) m
structs_there r s p n h size m there = rw (eq-eqb _ _ there) refl

-- A list of bits or numbers.
pub flat_ends : {E : Type 0} (result : Result ℕ E) (r : Reading) (a : Result CanonicalFault ErrorKind) (m : Meter) (words : List ℕ) (size : ElementSize) (n : ℕ) → words ≡ segment_read r →
    IfOk result (λ e. TellsFlat words r.at size n (Some e)) → OnErr result (TellsFlat words r.at size n None) →
    OnErr result (a ≡ Ok (record { segment = r.segment; word = r.at + words_for (size_number size) n - 1; reason = Padding })) →
    flat_tested (size_number size) n r m ≡ (step_result result a, m)
flat_ends (Ok e) r a m words size n held tells never failed =
    let padded : IsPadded r.segments r.segment r.at (size_number size) n = subst (λ ws. from_digits (2 ^ 64) (take (words_for (size_number size) n) (drop r.at ws)) < 2 ^ (element_bits (size_number size) * n)) held tells.0 in
    rw (lt-ltb _ _ padded) (ap (λ i. (Ok (Ok i), m)) (sym tells.1))
flat_ends (Err k) r a m words size n held tells never failed =
    let unpadded : is_padded r (size_number size) n ≡ false = less_false (λ h. never (subst (λ ws. from_digits (2 ^ 64) (take (words_for (size_number size) n) (drop r.at ws)) < 2 ^ (element_bits (size_number size) * n)) (sym held) h)) in
    rw unpadded (ap (λ b. stopped b m) (sym failed))

-- Sections that end in a word that isn't zero.
is_false : (u : Bool) → (IsTrue u → ⊥) → u ≡ false
is_false true h = absurd (h refl)
is_false false h = refl

pub decides : (u : Bool) (n x : ℕ) → IsTrue u ↔ ((n ≡ 0) ⊎ (x ≢ 0)) → u ≡ (nat_eq n 0 || not (nat_eq x 0))
decides u n x h = elim (same_or_not n 0) [
  | inl none ↦ rw (eq-eqb _ _ none) (h.1 (inl none))
  | inr some ↦ elim (same_or_not x 0) [
    | inl zero_word ↦ rw (ne_eqb _ _ some, eq-eqb _ _ zero_word) (is_false u (λ t. elim (h.0 t) [ inl a ↦ some a | inr b ↦ b zero_word ]))
    | inr other ↦ rw (ne_eqb _ _ some, ne_eqb _ _ other) (h.1 (inr other))
  ]
]

pub used_more : {x b' y z : Bool} (b u : Bool) → x ≡ (b || (u || y)) → b' ≡ (b || u) → y ≡ z → x ≡ (b' || z)
used_more {z = z} true u e f g = e ∙ ap (λ c. c || z) (sym f)
used_more {z = z} false u e f g = e ∙ ap (λ c. u || c) g ∙ ap (λ c. c || z) (sym f)

-- The elements of a list of structs, once their pointers are tested.
abbrev rows_ended : ℕ → ℕ → ℕ → Reading → Result Verdict ErrorKind × Meter → Result Verdict ErrorKind × Meter
rows_ended d q n r x =
    onward (unless_fault (fault_unless (nat_eq q 0 || some_used (place_past r d) q (d + q) n) ElementPointers r (r.at - 1))) (onward (unless_fault (fault_unless (nat_eq d 0 || some_used r d (d + q) n) ElementData r (r.at - 1))) x)

pub rows_halt : (f : Reading → TestStep) (d q n : ℕ) (r : Reading) (m m' : Meter) (a : Result CanonicalFault ErrorKind) → elements_tested f d q n r (r.at + n * (d + q)) m ≡ stopped a m' → rows_tested f d q n r m ≡ stopped a m'
rows_halt f d q n r m m' (Ok e) is = ap (rows_ended d q n r) is
rows_halt f d q n r m m' (Err e) is = ap (rows_ended d q n r) is

pub rows_wide : (f : Reading → TestStep) (d q n h : ℕ) (r : Reading) (m m' : Meter) → elements_tested f d q n r (r.at + n * (d + q)) m ≡ (Ok (Ok h), m') → (nat_eq d 0 || some_used r d (d + q) n) ≡ false →
    rows_tested f d q n r m ≡ (Ok (Err (record { segment = r.segment; word = r.at - 1; reason = ElementData })), m')
rows_wide f d q n h r m m' is unused = ap (rows_ended d q n r) is ∙ rw unused refl

pub rows_wide_in_pointers : (f : Reading → TestStep) (d q n h : ℕ) (r : Reading) (m m' : Meter) → elements_tested f d q n r (r.at + n * (d + q)) m ≡ (Ok (Ok h), m') → (nat_eq d 0 || some_used r d (d + q) n) ≡ true →
    (nat_eq q 0 || some_used (place_past r d) q (d + q) n) ≡ false → rows_tested f d q n r m ≡ (Ok (Err (record { segment = r.segment; word = r.at - 1; reason = ElementPointers })), m')
rows_wide_in_pointers f d q n h r m m' is used unused = ap (rows_ended d q n r) is ∙ rw (used, unused) refl

pub rows_pass : (f : Reading → TestStep) (d q n h : ℕ) (r : Reading) (m m' : Meter) → elements_tested f d q n r (r.at + n * (d + q)) m ≡ (Ok (Ok h), m') → (nat_eq d 0 || some_used r d (d + q) n) ≡ true →
    (nat_eq q 0 || some_used (place_past r d) q (d + q) n) ≡ true → rows_tested f d q n r m ≡ (Ok (Ok h), m')
rows_pass f d q n h r m m' is data_used pointers_used = ap (rows_ended d q n r) is ∙ rw (data_used, pointers_used) refl

pub none_wide : (f : Reading → TestStep) (size : StructSize) (claimed n : ℕ) (r : Reading) (m : Meter) → n * (size.data_words + size.pointers) ≡ claimed → size.data_words + size.pointers ≡ 0 → structs_tested f claimed size n r m ≡ (Ok (Ok r.at), m)
none_wide f size claimed n r m exact none =
    let d : size.data_words ≡ 0 = omega (arith, none) in
    let q : size.pointers ≡ 0 = omega (arith, none) in
    let zero : n * 0 ≡ claimed = ap (λ w. n * w) (sym none) ∙ exact in
    let head : r.at + n * 0 ≡ r.at = omega arith in
    rw (d, q, eq-eqb _ _ zero) (rows_pass f 0 0 n (r.at + n * 0) r m m (no_pointers (λ s. unless_fault (f s)) r 0 n (Ok (r.at + n * 0)) m) refl refl ∙ ap (λ i. (Ok (Ok i), m)) head)
