-- What the verdict of a test means, by the object of the pointer that is tested.
use Rattle.std.proofs.Common.{◌≡◌, ◌≢◌, inl, inr, ℕ, zero, suc, pred, ◌+◌, ◌*◌, ◌-◌, ◌<◌, ◌≤◌, Bool, true, false, length, Ok, Err, refl, sym, ap, ◌∙◌, subst, arith, eq-eqb, lt-ltb}
use Rattle.std.proofs.lemmas.Bool.{false≢true, ltb-true, ne_eqb}
use Rattle.capnp_words.specs.declared.wire_pointer.StructSize.{StructSize}
use Rattle.capnp_words.specs.Meter.{Meter}
use Rattle.capnp_format.specs.Segments.{HasSmallWords, Target, segment}
use Rattle.capnp_format.specs.Means.{StructAt}
use Rattle.capnp_format.specs.Tree.{no_trees}
use Rattle.capnp_format.specs.Word.{kind, offset_bits, data_words, pointer_count, element_size, list_count}
use Rattle.capnp_pointers.specs.declared.object.Purpose.TheVariants.{Value}
use Rattle.capnp_pointers.specs.Demands.{element_words, tag}
use Rattle.capnp_pointers.specs.Enter.{Shape, flat, pointers, shape, struct, structs}
use Rattle.capnp_pointers.specs.Metered.{onward}
use Rattle.capnp_pointers.specs.Outcomes.{Entered}
use Rattle.capnp_pointers.specs.Reading.{Reading, segment_read, tag_size, word_of}
use Rattle.capnp_pointers.proofs.OneObject.ReadAsStated.{entering_is, stopped_is}
use Rattle.capnp_pointers.proofs.Decided.{same_or_not, within_or_not}
use Rattle.capnp_pointers.proofs.Following.LeadsWhereFollowed.{entered_leads, leads_there}
use Rattle.capnp_pointers.proofs.OneObject.ReadInOneWay.{Ends, at_capability, at_object, refused, ends}
use Rattle.capnp_pointers.proofs.OneObject.PartsMeant.{claim_list}
use Rattle.capnp_pointers.specs.Checking.{IsTested, progress}
use Rattle.capnp_pointers.specs.Standing.{IsPadded}
use Rattle.capnp_pointers.specs.Testing.{TestStep, fault_unless, flat_tested, is_padded, is_used, pointers_tested, rows_tested, structs_tested, test_value, test_values, test_within, unless_fault, elements_tested}
use Rattle.capnp_pointers.specs.declared.pointers.canonical_fault.CanonicalFaultReason.TheVariants.{DataSection, ElementWords, ObjectPlace, PointerSection}
use Rattle.capnp_pointers.proofs.CanonicalTest.FoundBySteps.{AreFoundRows, empty_found_at, finds_none, flat_finds, flat_never, list_at, list_elements, list_pointers, near_object, null_found_at, pointers_find, pointers_never, struct_at, struct_finds, struct_never, struct_pointers, structs_find, structs_never}
use Rattle.capnp_pointers.proofs.CanonicalForm.AcceptedExactly.{ElementsAccept}
use Rattle.capnp_pointers.proofs.CanonicalForm.AcceptedIfCanonical.{empty_found, flat_found, kind_where_standing, pointers_found, struct_found, structs_found}
use Rattle.capnp_pointers.proofs.CanonicalTest.ReadsAsReading.{Outcome}
use Rattle.capnp_pointers.proofs.CanonicalTest.TestedBySteps.{empty_elsewhere, empty_there, flat_elsewhere, flat_there, inner, not_near_is, not_there_is, null_tested, object_read, pointers_there, struct_elsewhere, struct_there, structs_there, tested_as, unread}
use Rattle.capnp_pointers.proofs.CanonicalTest.VerdictsOfParts.{AllSay, EachSays, Says, each_says, pointers_say, rows_say, used_test}

-- What the test of each place below r means.
abbrev Below : Reading → Type 0
Below r = (s : ℕ) → s ≡ r.segment → (p h : ℕ) (m : Meter) → Says (inner r s p) h m (test_within (pred r.levels) (inner r s p) h m)

-- The shape of an object, by its kind.
abbrev struct_shape : Target → Shape
struct_shape a = struct a.segment a.start (data_words a.word) (pointer_count a.word)

abbrev structs_shape : Reading → Target → Shape
structs_shape r a = structs a.segment (a.start + 1) (data_words (tag r.segments a)) (pointer_count (tag r.segments a)) (offset_bits (tag r.segments a))

shape_struct : (r : Reading) (a : Target) → kind a.word ≡ 0 → shape r.segments a ≡ struct_shape a
shape_struct r a z = rw (eq-eqb _ _ z) refl

shape_pointers : (r : Reading) (a : Target) → kind a.word ≡ 1 → element_size a.word ≡ 6 → shape r.segments a ≡ pointers a.segment a.start (list_count a.word)
shape_pointers r a z six = rw (ne_eqb (kind a.word) 0 (λ e. omega (arith, e, z)), ne_eqb (element_size a.word) 7 (λ e. omega (arith, e, six)), eq-eqb _ _ six) refl

shape_structs : (r : Reading) (a : Target) → kind a.word ≡ 1 → element_size a.word ≡ 7 → shape r.segments a ≡ structs_shape r a
shape_structs r a z seven = rw (ne_eqb (kind a.word) 0 (λ e. omega (arith, e, z)), eq-eqb _ _ seven) refl

shape_flat : (r : Reading) (a : Target) → kind a.word ≡ 1 → element_size a.word ≤ 5 → shape r.segments a ≡ flat a.segment a.start (element_size a.word) (list_count a.word)
shape_flat r a z small = rw (ne_eqb (kind a.word) 0 (λ e. omega (arith, e, z)), ne_eqb (element_size a.word) 7 (λ e. omega (arith, e, small)), ne_eqb (element_size a.word) 6 (λ e. omega (arith, e, small))) refl

-- A struct.
abbrev sections_tested : ℕ → ℕ → Reading → Bool → Bool → Outcome → Outcome
sections_tested d q r b c x =
    onward (unless_fault (fault_unless c PointerSection r (r.at + d + q - 1))) (onward (unless_fault (fault_unless b DataSection r (r.at + d - 1))) x)

sections_say : {r : Reading} {m m' : Meter} {a : Target} (h : ℕ) → IsTested r → Entered Value r m m' a → kind a.word ≡ 0 → a.start ≡ h → 0 < data_words a.word + pointer_count a.word →
    (x : Outcome) → AllSay (struct_pointers r a) (pointer_count a.word) (a.start + data_words a.word + pointer_count a.word) m' x →
    Says r h m (sections_tested (data_words a.word) (pointer_count a.word) (inner r a.segment a.start) (is_used (inner r a.segment a.start) (data_words a.word)) (is_used (struct_pointers r a) (pointer_count a.word)) x)
sections_say h ready o z start some (Err k, m1) says = tt
sections_say h ready o z start some (Ok (Err fault), m1) never = struct_never h ready o z some (λ both. never both.1)
sections_say {r} {m} {m'} {a} h ready o z start some (Ok (Ok e), m1) found = go (is_used (inner r a.segment a.start) d) (is_used (struct_pointers r a) q) refl refl
  where
    d : ℕ
    d = data_words a.word

    q : ℕ
    q = pointer_count a.word

    go : (b c : Bool) → is_used (inner r a.segment a.start) d ≡ b → is_used (struct_pointers r a) q ≡ c → Says r h m (sections_tested d q (inner r a.segment a.start) b c (Ok (Ok e), m1))
    go false c b_is c_is = struct_never h ready o z some (λ both. false≢true (sym b_is ∙ (used_test d _).1 both.0.0))
    go true false b_is c_is = struct_never h ready o z some (λ both. false≢true (sym c_is ∙ (used_test q _).1 both.0.1))
    go true true b_is c_is = struct_finds ready o z start some ((used_test d _).0 b_is, (used_test q _).0 c_is) found

struct_says : {r : Reading} {m m' : Meter} {a : Target} (h : ℕ) → IsTested r → Entered Value r m m' a → Below r → kind a.word ≡ 0 → Says r h m (tested_as r (struct_shape a) h m')
struct_says {r} {m} {m'} {a} h ready o below z = elim (same_or_not (data_words a.word + pointer_count a.word) 0) [
  | inl none ↦ elim (same_or_not a.start r.at) [
    | inl there ↦ subst (Says r h m) (sym (empty_there r a.segment a.start (data_words a.word) (pointer_count a.word) h m' none there)) (empty_found_at ready o z none there)
    | inr other ↦ subst (Says r h m) (sym (empty_elsewhere r a.segment a.start (data_words a.word) (pointer_count a.word) h m' none other)) (λ (t, stands). (
        let its : StructAt r.segments r.segment r.at a 0 0 = record { leads_to = entered_leads o; is_struct = z; data_of = omega (arith, none); pointers = omega (arith, none) } in
        other (empty_found r.segments r.segment r.at h a t stands its).1))
  ]
  | inr some ↦ elim (same_or_not a.start h) [
    | inl there ↦ subst (Says r h m) (sym (struct_there r a.segment a.start (data_words a.word) (pointer_count a.word) h m' some there))
        (sections_say h ready o z there (omega (arith, some)) (pointers_tested (test_within (pred r.levels)) (pointer_count a.word) (struct_pointers r a) (a.start + data_words a.word + pointer_count a.word) m')
        (pointers_say (test_within (pred r.levels)) (struct_pointers r a) (below a.segment (near_object r ready.near (entered_leads o)).same_segment) (pointer_count a.word) (a.start + data_words a.word) (a.start + data_words a.word + pointer_count a.word) m'))
    | inr other ↦ subst (Says r h m) (sym (struct_elsewhere r a.segment a.start (data_words a.word) (pointer_count a.word) h m' some other)) (λ (t, stands).
        other (struct_found r.segments r.segment r.at h a (data_words a.word) (pointer_count a.word) t stands (struct_at o z) (omega (arith, some))).start)
  ]
]

-- A list of pointers.
pointers_elsewhere : (r : Reading) (s p n h : ℕ) (m : Meter) → p ≢ h → tested_as r (pointers s p n) h m ≡ (Ok (Err (record { segment = r.segment; word = r.at; reason = ObjectPlace })), m)
pointers_elsewhere r s p n h m other = rw (ne_eqb _ _ other) refl

list_says : {r : Reading} {m m' : Meter} {a : Target} (h : ℕ) → IsTested r → Entered Value r m m' a → Below r → kind a.word ≡ 1 → element_size a.word ≡ 6 → Says r h m (tested_as r (pointers a.segment a.start (list_count a.word)) h m')
list_says {r} {m} {m'} {a} h ready o below z six = elim (same_or_not a.start h) [
  | inr other ↦ subst (Says r h m) (sym (pointers_elsewhere r a.segment a.start (list_count a.word) h m' other)) (λ (t, stands).
      other (pointers_found r.segments r.segment r.at h a (list_count a.word) t stands (list_at 6 o z six)).start)
  | inl there ↦ subst (Says r h m) (sym (pointers_there r a.segment a.start (list_count a.word) h m' there))
      (go there (pointers_tested (test_within (pred r.levels)) (list_count a.word) (list_pointers r a) (a.start + list_count a.word) m')
      (pointers_say (test_within (pred r.levels)) (list_pointers r a) (below a.segment (near_object r ready.near (entered_leads o)).same_segment) (list_count a.word) a.start (a.start + list_count a.word) m'))
]
  where
    go : a.start ≡ h → (x : Outcome) → AllSay (list_pointers r a) (list_count a.word) (a.start + list_count a.word) m' x → Says r h m x
    go there (Ok (Ok e), m1) found = pointers_find ready o z six there found
    go there (Ok (Err fault), m1) never = pointers_never h ready o z six never
    go there (Err k, m1) says = tt

-- A list of bits or numbers.
flat_says : {r : Reading} {m m' : Meter} {a : Target} (h : ℕ) → IsTested r → Entered Value r m m' a → kind a.word ≡ 1 → element_size a.word ≤ 5 → Says r h m (tested_as r (flat a.segment a.start (element_size a.word) (list_count a.word)) h m')
flat_says {r} {m} {m'} {a} h ready o z small = elim (same_or_not a.start h) [
  | inr other ↦ subst (Says r h m) (sym (flat_elsewhere r a.segment a.start (element_size a.word) (list_count a.word) h m' other)) (λ (t, stands).
      other (flat_found r.segments r.segment r.at h a (element_size a.word) (list_count a.word) t stands (list_at (element_size a.word) o z refl) small).start)
  | inl there ↦ subst (Says r h m) (sym (flat_there r a.segment a.start (element_size a.word) (list_count a.word) h m' there)) (go there (is_padded (inner r a.segment a.start) (element_size a.word) (list_count a.word)) refl)
]
  where
    go : a.start ≡ h → (b : Bool) → is_padded (inner r a.segment a.start) (element_size a.word) (list_count a.word) ≡ b → Says r h m (flat_tested (element_size a.word) (list_count a.word) (inner r a.segment a.start) m')
    go there true is = rw is (flat_finds ready o z small there (ltb-true _ _ is))
    go there false is = rw is (flat_never h ready o z small (λ (padded : IsPadded r.segments a.segment a.start (element_size a.word) (list_count a.word)). false≢true (sym is ∙ lt-ltb _ _ padded)))

-- A list of structs.
structs_elsewhere : (r : Reading) (s p d q n h : ℕ) (m : Meter) → p ≢ h + 1 → tested_as r (structs s p d q n) h m ≡ (Ok (Err (record { segment = r.segment; word = r.at; reason = ObjectPlace })), m)
structs_elsewhere r s p d q n h m other = rw (ne_eqb _ _ other) refl

structs_misfit : (f : Reading → TestStep) (size : StructSize) (claimed n : ℕ) (r : Reading) (m : Meter) → n * (size.data_words + size.pointers) ≢ claimed →
    structs_tested f claimed size n r m ≡ (Ok (Err (record { segment = r.segment; word = r.at - 1; reason = ElementWords })), m)
structs_misfit f size claimed n r m other = rw (ne_eqb _ _ other) refl

structs_fit : (f : Reading → TestStep) (size : StructSize) (claimed n : ℕ) (r : Reading) (m : Meter) → n * (size.data_words + size.pointers) ≡ claimed →
    structs_tested f claimed size n r m ≡ rows_tested f size.data_words size.pointers n r m
structs_fit f size claimed n r m exact = rw (eq-eqb _ _ exact) refl

structs_say : {r : Reading} {m m' : Meter} {a : Target} (h : ℕ) → IsTested r → Entered Value r m m' a → Below r → kind a.word ≡ 1 → element_size a.word ≡ 7 → Says r h m (tested_as r (structs_shape r a) h m')
structs_say {r} {m} {m'} {a} h ready o below z seven = elim (same_or_not (a.start + 1) (h + 1)) [
  | inr other ↦ subst (Says r h m) (sym (structs_elsewhere r a.segment (a.start + 1) size.data_words size.pointers n h m' other)) (λ (t, stands).
      other (ap (λ i. i + 1) (structs_found r.segments r.segment r.at h a (list_count a.word) t stands (list_at 7 o z seven)).4.start))
  | inl there ↦ subst (Says r h m) (sym (structs_there r a.segment (a.start + 1) n h size m' there)) (elim (same_or_not (n * (size.data_words + size.pointers)) (list_count (word_of r))) [
    | inr other ↦ subst (Says r h m) (sym (structs_misfit (test_within (pred r.levels)) size (list_count (word_of r)) n first m' other)) (structs_never h ready o z seven (λ exact. absurd (other (exact ∙ sym claimed))))
    | inl exact ↦ subst (Says r h m) (sym (structs_fit (test_within (pred r.levels)) size (list_count (word_of r)) n first m' exact)) (
        let inside : first.at + n * (size.data_words + size.pointers) ≤ length (segment_read first) = omega (arith, o.meets.claims, (o.meets.tagged (z, seven)).1, claim_list a.word 7 z seven) in
        go (let e : a.start ≡ h = omega (arith, there) in e) (exact ∙ claimed) (rows_tested (test_within (pred r.levels)) size.data_words size.pointers n first m')
        (each_says (test_within (pred r.levels)) first size n m' inside (elements_tested (test_within (pred r.levels)) size.data_words size.pointers n first (first.at + n * (size.data_words + size.pointers)) m') refl
        (rows_say (test_within (pred r.levels)) first (below a.segment (near_object r ready.near (entered_leads o)).same_segment) size n first.at (first.at + n * (size.data_words + size.pointers)) m' inside)))
  ])
]
  where
    size : StructSize
    size = tag_size r.segments a

    n : ℕ
    n = offset_bits (tag r.segments a)

    first : Reading
    first = list_elements r a

    claimed : list_count (word_of r) ≡ list_count a.word
    claimed = ap list_count (sym (near_object r ready.near (entered_leads o)).same_word)

    go : a.start ≡ h → element_words (tag r.segments a) ≡ list_count a.word → (x : Outcome) → EachSays first size n (first.at + n * (size.data_words + size.pointers)) m' x → Says r h m x
    go start exact (Ok (Ok e), m1) found = structs_find ready o z seven start exact (subst (λ w. AreFoundRows first size n (progress (a.start + 1 + w) m') (progress e m1)) exact found)
    go start exact (Ok (Err fault), m1) never = structs_never h ready o z seven (λ same accept. never (subst (λ w. ElementsAccept r.segments a.segment (a.start + 1) size.data_words size.pointers (a.start + 1 + w) n) (sym exact) accept))
    go start exact (Err k, m1) says = tt

-- Any object.
object_says : {r : Reading} {m m' : Meter} {a : Target} (h : ℕ) → IsTested r → Entered Value r m m' a → Below r → Says r h m (tested_as r (shape r.segments a) h m')
object_says {r} {m} {m'} {a} h ready o below = elim (same_or_not (kind a.word) 0) [
  | inl z ↦ subst (λ x. Says r h m (tested_as r x h m')) (sym (shape_struct r a z)) (struct_says h ready o below z)
  | inr other ↦
      let z : kind a.word ≡ 1 = let object = o.meets.is_object in omega (arith, object, other) in
      elim (within_or_not (element_size a.word) 5) [
        | inl small ↦ subst (λ x. Says r h m (tested_as r x h m')) (sym (shape_flat r a z small)) (flat_says h ready o z small)
        | inr large ↦ elim (same_or_not (element_size a.word) 6) [
          | inl six ↦ subst (λ x. Says r h m (tested_as r x h m')) (sym (shape_pointers r a z six)) (list_says h ready o below z six)
          | inr not_six ↦
              let seven : element_size a.word ≡ 7 = omega (arith, large, not_six) in
              subst (λ x. Says r h m (tested_as r x h m')) (sym (shape_structs r a z seven)) (structs_say h ready o below z seven)
        ]
      ]
]

-- Any place.
place_says : (r : Reading) → HasSmallWords r.segments r.segment → (h : ℕ) (m : Meter) → (0 < r.levels → Below r) → Says r h m (test_value r h m)
place_says r small h m below = elim (within_or_not (suc r.at) (length (segment_read r))) [
  | inr out ↦ subst (Says r h m) (sym (not_there_is r.levels r h m (λ there. omega (arith, there, out)))) (λ (t, stands). omega (arith, out, stands.0))
  | inl there ↦ elim (within_or_not 2 (kind (word_of r))) [
    | inl far ↦ subst (Says r h m) (sym (not_near_is r.levels r h m there (λ near. omega (arith, near, far)))) (λ (t, stands). (let near : kind (word_of r) < 2 = kind_where_standing r.segments r.segment r.at h t stands in omega (arith, far, near)))
    | inr near ↦ elim (same_or_not (word_of r) 0) [
      | inl z ↦ subst (Says r h m) (sym (null_tested r.levels r h m there z)) (null_found_at (record { small = small; there = there; near = near }) z refl)
      | inr some ↦ go there near (ends Value r m some)
    ]
  ]
]
  where
    go : r.at < length (segment_read r) → kind (word_of r) < 2 → Ends Value r m → Says r h m (test_value r h m)
    go there near (at_capability a f low covered) =
        let same = near_object r near (leads_there r a f (λ e. omega (arith, e, low))) in
        absurd (omega (arith, ap kind same.same_word, low, near))
    go there near (at_object a m' o) =
        subst (Says r h m) (sym (object_read r h m m' (shape r.segments a) there near o.meets.levels (entering_is Value r m m' a o)))
        (object_says h (record { small = small; there = there; near = near }) o (below o.meets.levels))
    go there near (refused k m' stops) =
        subst (Says r h m) (sym (unread r h m m' k there near (stopped_is Value r m m' k (λ e. absurd (cc e)) stops))) tt

says_within : (n : ℕ) (r : Reading) → r.levels ≡ n → HasSmallWords r.segments r.segment → (h : ℕ) (m : Meter) → Says r h m (test_value r h m)
says_within zero r e small h m = place_says r small h m (λ some. absurd (omega (arith, some, e)))
says_within (suc n) r e small h m = place_says r small h m (λ some s same p i m1. says_within n (inner r s p) (ap pred e) (subst (λ x. HasSmallWords r.segments x) (sym same) small) i m1)

-- What the test of a place means, and that of consecutive pointers.
pub test_says : (r : Reading) → HasSmallWords r.segments r.segment → (h : ℕ) (m : Meter) → Says r h m (test_value r h m)
test_says r small h m = says_within r.levels r refl small h m

pub test_values_say : (i : ℕ) (r : Reading) → (0 < i → HasSmallWords r.segments r.segment) → (h : ℕ) (m : Meter) → AllSay r i h m (test_values i r h m)
test_values_say zero r small h m = (no_trees, refl, finds_none r (progress h m))
test_values_say (suc i) r small h m = pointers_say (test_within r.levels) r (λ p g m1. test_says (record r { at = p }) (small (omega arith)) g m1) (suc i) r.at h m
