-- How the reading of one object ends: the relations have a case for each place. So a result of the
-- function `read` is one of theirs, and there is only one.
use Rattle.std.proofs.Common.{◌≡◌, ◌≢◌, ◌⊎◌, inl, inr, ℕ, ◌+◌, ◌%◌, ◌^◌, ◌<◌, Bool, true, false, Option, Some, None, Result, Ok, Err, IsOk, length, refl, sym, ap, ◌∙◌, subst, arith}
use Rattle.std.proofs.lemmas.Bool.{false≢true}
use Rattle.capnp_words.specs.declared.error.ErrorKind.{ErrorKind}
use Rattle.capnp_words.specs.declared.error.ErrorKind.TheVariants.{CantHandleNonStructInlineComposite, InlineCompositeListsElementsOverrunItsWordCount, InlineCompositeListsOfNonStructTypeAreNotSupported, MalformedDoubleFarPointer, MessageContainsOutOfBoundsPointer, MessageIsTooDeeplyNestedOrContainsCycles, ReadLimitExceeded, UnknownPointerType, MessageIsTooDeeplyNested}
use Rattle.capnp_words.specs.Meter.{Meter, FitsIn, Affords}
use Rattle.capnp_format.specs.Word.{kind, element_size, list_count, upper_half}
use Rattle.capnp_format.specs.Segments.{Segments, segment, Target}
use Rattle.capnp_format.specs.Means.{Claims}
use Rattle.capnp_pointers.specs.Demands.{claimed_words, tag, element_words, own_charge, IsStructList, IsVoidList, IsInSegment, Meets}
use Rattle.capnp_pointers.specs.declared.object.Purpose.{Purpose}
use Rattle.capnp_pointers.specs.declared.object.Purpose.TheVariants.{Value, Size}
use Rattle.capnp_pointers.specs.Enter.{Shape, nothing, capability, shape, read}
use Rattle.capnp_pointers.specs.Measures.{NotMeasured, no_level, stopped}
use Rattle.capnp_pointers.specs.Outcomes.{Entered}
use Rattle.capnp_pointers.specs.Reading.{Reading, word_of}
use Rattle.capnp_pointers.specs.Refusals.{landing_words, granted_before, exceeding, leading_nowhere, Stopped, no_target, broken, claim_exceeds, count_exceeds, NotRead, CanBeRead}
use Rattle.capnp_pointers.specs.Spending.{after_charge}
use Rattle.capnp_pointers.specs.Wanted.{plain, BreaksObject, follow_at, FollowsTo}
use Rattle.capnp_pointers.proofs.Budget.PaidAndLeft.{affords_none}
use Rattle.capnp_pointers.proofs.OneObject.ReadAsStated.{null_is, capability_is, entering_is, stopped_is, measured_is, pads_are}
use Rattle.capnp_pointers.proofs.Decided.{same_or_not, within_or_not}
use Rattle.capnp_pointers.proofs.OneObject.PartsMeant.{claim_list}

pub affords_or_not : (charging : Bool) (m : Meter) (n : ℕ) → Affords charging m n ⊎ (Affords charging m n → ⊥)
affords_or_not false m n = inl tt
affords_or_not true m n = go m.left
  where
    go : (o : Option ℕ) → FitsIn o n ⊎ (FitsIn o n → ⊥)
    go None = inl tt
    go (Some x) = elim (within_or_not n x) [ inl le ↦ inl le | inr lt ↦ inr (λ le. omega (arith, le, lt)) ]

void_or_not : (w : ℕ) → IsVoidList w ⊎ (IsVoidList w → ⊥)
void_or_not w = elim (same_or_not (kind w) 1) [
  | inl one ↦ elim (same_or_not (element_size w) 0) [ inl z ↦ inl (one, z) | inr other ↦ inr (λ v. other v.1) ]
  | inr other ↦ inr (λ v. other v.0)
]

structs_or_not : (w : ℕ) → IsStructList w ⊎ (IsStructList w → ⊥)
structs_or_not w = elim (same_or_not (kind w) 1) [
  | inl one ↦ elim (same_or_not (element_size w) 7) [ inl z ↦ inl (one, z) | inr other ↦ inr (λ v. other v.1) ]
  | inr other ↦ inr (λ v. other v.0)
]

lies_or_not : (purpose : Purpose) (S : Segments) (a : Target) → IsInSegment purpose S a ⊎ (IsInSegment purpose S a → ⊥)
lies_or_not Value S a = elim (within_or_not (a.start + claimed_words a.word) (length (segment S a.segment))) [ inl le ↦ inl le | inr lt ↦ inr (λ le. omega (arith, le, lt)) ]
lies_or_not Size S a = elim (void_or_not a.word) [
  | inl void ↦ inl (λ other. absurd (other void))
  | inr other ↦ elim (within_or_not (a.start + claimed_words a.word) (length (segment S a.segment))) [ inl le ↦ inl (λ _. le) | inr lt ↦ inr (λ h. let le = h other in omega (arith, le, lt)) ]
]

claims_there : (purpose : Purpose) (S : Segments) (a : Target) → IsInSegment purpose S a → (IsVoidList a.word → ⊥) → Claims S a (claimed_words a.word)
claims_there Value S a h other = h
claims_there Size S a h other = h other

-- how the reading of an object ends if its pointer is not null
pub data Ends (purpose : Purpose) (r : Reading) (m : Meter) : Type 0 where
  at_capability : (a : Target) → FollowsTo r a → a.word % 2 ^ 32 ≡ 3 → Affords r.charging m a.pads → Ends purpose r m
  at_object : (a : Target) (m' : Meter) → Entered purpose r m m' a → Ends purpose r m
  refused : (k : ErrorKind) (m' : Meter) → Stopped purpose plain r m m' k → Ends purpose r m

no_struct_tag : (purpose : Purpose) {r : Reading} {m : Meter} {a : Target} → FollowsTo r a → 0 < r.levels → IsStructList a.word → Claims r.segments a (claimed_words a.word) → kind (tag r.segments a) ≢ 0 → Affords r.charging m (a.pads + claimed_words a.word) → Ends purpose r m
no_struct_tag Value {a = a} f some t claims other covered = refused InlineCompositeListsOfNonStructTypeAreNotSupported _ (broken a f (some, t, claims, other) (record { covers = covered; spent = refl }))
no_struct_tag Size {a = a} f some t claims other covered = refused CantHandleNonStructInlineComposite _ (broken a f (some, t, claims, other) (record { covers = covered; spent = refl }))

at_demand : {purpose : Purpose} {r : Reading} {m : Meter} {a : Target} (k : ErrorKind) → FollowsTo r a → BreaksObject purpose plain r.segments r.levels a k → granted_before a k ≡ 0 → Affords r.charging m a.pads → Ends purpose r m
at_demand {r = r} {m = m} {a = a} k f h none covered = refused k _ (broken a f h (record { covers = subst (λ g. Affords r.charging m (a.pads + g)) (sym none) (subst (Affords r.charging m) (let e : a.pads ≡ a.pads + 0 = omega arith in e) covered); spent = refl }))

ends_whole : (purpose : Purpose) (r : Reading) (m : Meter) (a : Target) → FollowsTo r a → Meets purpose r.segments r.levels a → Affords r.charging m (a.pads + claimed_words a.word) → Ends purpose r m
ends_whole purpose r m a f meets covered = elim (affords_or_not r.charging m (own_charge purpose r.segments a)) [
  | inl all ↦ at_object a _ (record { follows = f; meets = meets; covers = all; spent = refl })
  | inr short ↦ refused ReadLimitExceeded _ (count_exceeds a f meets short (record { covers = covered; spent = refl }) refl)
]

ends_claimed : (purpose : Purpose) (r : Reading) (m : Meter) (a : Target) → FollowsTo r a → kind a.word < 2 → 0 < r.levels → IsInSegment purpose r.segments a → Affords r.charging m (a.pads + claimed_words a.word) → Ends purpose r m
ends_claimed purpose r m a f object some lies covered = elim (structs_or_not a.word) [
  | inr other ↦ ends_whole purpose r m a f (record { levels = some; is_object = object; claims = lies; tagged = λ t. absurd (other t) }) covered
  | inl t ↦
      let claims = claims_there purpose r.segments a lies (λ v. omega (arith, v.1, t.1)) in
      elim (same_or_not (kind (tag r.segments a)) 0) [
        | inr other ↦ no_struct_tag purpose f some t claims other covered
        | inl z ↦ elim (within_or_not (element_words (tag r.segments a)) (list_count a.word)) [
          | inr over ↦ refused InlineCompositeListsElementsOverrunItsWordCount _ (broken a f (some, t, claims, z, over) (record { covers = covered; spent = refl }))
          | inl fits ↦ ends_whole purpose r m a f (record { levels = some; is_object = object; claims = lies; tagged = λ _. (z, fits) }) covered
        ]
      ]
]

ends_object : (purpose : Purpose) (r : Reading) (m : Meter) (a : Target) → FollowsTo r a → kind a.word < 2 → Affords r.charging m a.pads → Ends purpose r m
ends_object purpose r m a f object covered = elim (same_or_not r.levels 0) [
  | inl none ↦ at_demand MessageIsTooDeeplyNestedOrContainsCycles f (object, none) refl covered
  | inr some ↦ elim (lies_or_not purpose r.segments a) [
    | inr out ↦ at_demand MessageContainsOutOfBoundsPointer f (object, omega (arith, some), out) refl covered
    | inl lies ↦ elim (affords_or_not r.charging m (a.pads + claimed_words a.word)) [
      | inl both ↦ ends_claimed purpose r m a f object (omega (arith, some)) lies both
      | inr short ↦ refused ReadLimitExceeded _ (claim_exceeds a f (omega (arith, some)) object (claims_there purpose r.segments a lies (λ void. short (subst (Affords r.charging m) (let e : a.pads ≡ a.pads + claimed_words a.word = omega (arith, claim_list a.word 0 void.0 void.1) in e) covered))) short (record { covers = covered; spent = refl }) refl)
    ]
  ]
]

ends_followed : (purpose : Purpose) (r : Reading) (m : Meter) (a : Target) → FollowsTo r a → Affords r.charging m a.pads → Ends purpose r m
ends_followed purpose r m a f covered = elim (same_or_not (kind a.word) 2) [
  | inl far ↦ at_demand MalformedDoubleFarPointer f far refl covered
  | inr near ↦ elim (same_or_not (kind a.word) 3) [
    | inr other ↦ ends_object purpose r m a f (omega (arith, near, other)) covered
    | inl three ↦ elim (same_or_not (a.word % 2 ^ 32) 3) [
      | inl low ↦ at_capability a f low covered
      | inr other ↦ at_demand UnknownPointerType f (three, inl other) refl covered
    ]
  ]
]

pub ends : (purpose : Purpose) (r : Reading) (m : Meter) → word_of r ≢ 0 → Ends purpose r m
ends purpose r m some = elim (affords_or_not r.charging m (landing_words r.segments (word_of r))) [
  | inr short ↦ refused ReadLimitExceeded _ (no_target (exceeding some short (record { covers = affords_none r.charging m; spent = refl }) refl))
  | inl covered ↦ go covered (follow_at r) refl
]
  where
    go : Affords r.charging m (landing_words r.segments (word_of r)) → (result : Result Target ErrorKind) → follow_at r ≡ result → Ends purpose r m
    go covered (Ok a) e = ends_followed purpose r m a (some, e) (subst (Affords r.charging m) (pads_are r a e) covered)
    go covered (Err k) e = refused k _ (no_target (leading_nowhere some e (record { covers = covered; spent = refl })))

-- a result is an answer or a refusal, with one error and one limiter
pub not_both : {A : Type 0} {x : Result A ErrorKind × Meter} {o : A} {k : ErrorKind} {m n : Meter} → x ≡ (Ok o, m) → x ≡ (Err k, n) → ⊥
not_both e f = let results = ap (λ p. p.0) (sym e ∙ f) in cc results

pub is_answer : {A : Type 0} {x : Result A ErrorKind × Meter} {o : A} {m : Meter} → x ≡ (Ok o, m) → IsOk x.0
is_answer {A} e = subst (λ (p : Result A ErrorKind × Meter). IsOk p.0) (sym e) refl

pub no_answer : {A : Type 0} {x : Result A ErrorKind × Meter} {k : ErrorKind} {m : Meter} → x ≡ (Err k, m) → IsOk x.0 → ⊥
no_answer {A} e answered = false≢true (subst (λ (p : Result A ErrorKind × Meter). IsOk p.0) e answered)

pub same_refusal : {A : Type 0} {x : Result A ErrorKind × Meter} {k l : ErrorKind} {m n : Meter} → x ≡ (Err k, m) → x ≡ (Err l, n) → (k ≡ l) × (m ≡ n)
same_refusal e f =
    let both = sym e ∙ f in
    let results = ap (λ p. p.0) both in
    (cc results, ap (λ p. p.1) both)

pub of_same_refusal : {A : Type 0} {x : Result A ErrorKind × Meter} {k l : ErrorKind} {m n : Meter} (P : Meter → ErrorKind → Type 0) → x ≡ (Err k, m) → x ≡ (Err l, n) → P m k → P n l
of_same_refusal {l = l} {m = m} P e f h = let same = same_refusal e f in subst (λ y. P y l) same.1 (subst (P m) same.0 h)

pub of_same_answer : {A : Type 0} {x : Result A ErrorKind × Meter} {t u : A} {m n : Meter} (P : Meter → A → Type 0) → x ≡ (Ok t, m) → x ≡ (Ok u, n) → P m t → P n u
of_same_answer {u = u} {m = m} P e f h =
    let both = sym e ∙ f in
    let results = ap (λ p. p.0) both in
    subst (λ y. P y u) (ap (λ p. p.1) both) (subst (P m) (let same : _ ≡ u = cc results in same) h)

-- what `read` returns if only the size is wanted
pub data Told (r : Reading) (m : Meter) : Result Shape ErrorKind × Meter → Type 0 where
  null_told : word_of r ≡ 0 → Told r m (Ok nothing, m)
  capability_told : (a : Target) → 0 < r.levels → FollowsTo r a → a.word % 2 ^ 32 ≡ 3 → Affords r.charging m a.pads → Told r m (Ok (capability (upper_half a.word)), after_charge r.charging m a.pads 1)
  object_told : (a : Target) (m' : Meter) → Entered Size r m m' a → Told r m (Ok (shape r.segments a), m')
  refusal_told : (k : ErrorKind) (m' : Meter) → NotMeasured r m m' k → Told r m (Err k, m')

pub told : (r : Reading) (m : Meter) → Told r m (read Size r m)
told r m = elim (same_or_not (word_of r) 0) [
  | inl z ↦ rw (null_is Size r m z) (null_told z)
  | inr some ↦ elim (same_or_not r.levels 0) [
    | inl none ↦ let no = no_level some none refl refl in rw (measured_is r m m MessageIsTooDeeplyNested no) (refusal_told MessageIsTooDeeplyNested m no)
    | inr level ↦ go (omega (arith, level)) (ends Size r m some)
  ]
]
  where
    go : 0 < r.levels → Ends Size r m → Told r m (read Size r m)
    go level (at_capability a f low covered) = rw (capability_is Size r a m (λ _. level) f low covered) (capability_told a level f low covered)
    go level (at_object a m' o) = rw (entering_is Size r m m' a o) (object_told a m' o)
    go level (refused k m' h) = rw (stopped_is Size r m m' k (λ _. level) h) (refusal_told k m' (stopped level h))

-- what `read` refuses is refused
pub not_read_if : (r : Reading) (m m' : Meter) (k : ErrorKind) → read Value r m ≡ (Err k, m') → NotRead Value r m m' k
not_read_if r m m' k e = elim (same_or_not (word_of r) 0) [
  | inl z ↦ absurd (not_both (null_is Value r m z) e)
  | inr some ↦ go (ends Value r m some)
]
  where
    go : Ends Value r m → NotRead Value r m m' k
    go (at_capability a f low covered) = absurd (not_both (capability_is Value r a m (λ e. absurd (cc e)) f low covered) e)
    go (at_object a n o) = absurd (not_both (entering_is Value r m n a o) e)
    go (refused l n h) = of_same_refusal (NotRead Value r m) (stopped_is Value r m n l (λ e. absurd (cc e)) h) e h

pub not_measured_if : (r : Reading) (m m' : Meter) (k : ErrorKind) → read Size r m ≡ (Err k, m') → NotMeasured r m m' k
not_measured_if r m m' k e = go (read Size r m) refl (told r m)
  where
    go : (x : Result Shape ErrorKind × Meter) → read Size r m ≡ x → Told r m x → NotMeasured r m m' k
    go x f (null_told z) = absurd (not_both f e)
    go x f (capability_told a level g low covered) = absurd (not_both f e)
    go x f (object_told a n o) = absurd (not_both f e)
    go x f (refusal_told l n h) = of_same_refusal (NotMeasured r m) f e h

-- `read` returns an object exactly if one can be read
pub can_be_read_is : (purpose : Purpose) (r : Reading) (m : Meter) → CanBeRead purpose r m → IsOk (read purpose r m).0
unfolding CanBeRead
can_be_read_is purpose r m (inl z) = is_answer (null_is purpose r m z)
can_be_read_is Value r m (inr (inl (a, f, low, covered))) = is_answer (capability_is Value r a m (λ e. absurd (cc e)) f low covered)
can_be_read_is Size r m (inr (inl (a, (f, level), low, covered))) = is_answer (capability_is Size r a m (λ _. level) f low covered)
can_be_read_is purpose r m (inr (inr (a, f, meets, covered))) =
    is_answer (entering_is purpose r m (after_charge r.charging m (own_charge purpose r.segments a) 1) a (record { follows = f; meets = meets; covers = covered; spent = refl }))

pub value_can_be_read : (r : Reading) (m : Meter) → IsOk (read Value r m).0 → CanBeRead Value r m
unfolding CanBeRead
value_can_be_read r m answered = elim (same_or_not (word_of r) 0) [
  | inl z ↦ inl z
  | inr some ↦ elim (ends Value r m some) [
    | at_capability a f low covered ↦ inr (inl (a, f, low, covered))
    | at_object a n o ↦ inr (inr (a, o.follows, o.meets, o.covers))
    | refused l n h ↦ absurd (no_answer (stopped_is Value r m n l (λ e. absurd (cc e)) h) answered)
  ]
]

pub size_can_be_read : (r : Reading) (m : Meter) → IsOk (read Size r m).0 → CanBeRead Size r m
unfolding CanBeRead
size_can_be_read r m answered = elim (same_or_not (word_of r) 0) [
  | inl z ↦ inl z
  | inr some ↦ elim (same_or_not r.levels 0) [
    | inl none ↦ absurd (no_answer (measured_is r m m MessageIsTooDeeplyNested (no_level some none refl refl)) answered)
    | inr level ↦ elim (ends Size r m some) [
      | at_capability a f low covered ↦ inr (inl (a, (f, omega (arith, level)), low, covered))
      | at_object a n o ↦ inr (inr (a, o.follows, o.meets, o.covers))
      | refused l n h ↦ absurd (no_answer (stopped_is Size r m n l (λ _. omega (arith, level)) h) answered)
    ]
  ]
]

pub could_be_read_if : (purpose : Purpose) (r : Reading) (m : Meter) → IsOk (read purpose r m).0 → CanBeRead purpose r m
could_be_read_if Value r m answered = value_can_be_read r m answered
could_be_read_if Size r m answered = size_can_be_read r m answered

-- so a size that can be read is not refused
pub can_not : {r : Reading} {m m' : Meter} {k : ErrorKind} → CanBeRead Size r m → NotMeasured r m m' k → ⊥
can_not {r} {m} {m'} {k} can h = no_answer (measured_is r m m' k h) (can_be_read_is Size r m can)
