-- The reading of one object: the function `read` returns what the relations `IsObject`, `Entered`,
-- `Stopped` and `NotMeasured` state.
use Rattle.std.proofs.Common.{◌≡◌, ◌≢◌, inl, inr, ℕ, zero, suc, ◌+◌, ◌%◌, ◌^◌, ◌<◌, ◌≤◌, Bool, true, false, not, ◌||◌, ◌&&◌, cond, nat_eq, nat_lt, nat_le, Option, Some, None, Result, Ok, Err, length, refl, sym, ap, ap₂, ◌∙◌, subst, arith, eq-eqb, lt-ltb, le-leb, eqb-true}
use Rattle.std.proofs.lemmas.Bool.{ne_eqb, eqb-false}
use Rattle.capnp_words.specs.declared.error.ErrorKind.{ErrorKind}
use Rattle.capnp_words.specs.declared.error.ErrorKind.TheVariants.{ReadLimitExceeded}
use Rattle.capnp_words.specs.Meter.{Meter, FitsIn, less, raised, Affords, charged, counted_once}
use Rattle.capnp_format.specs.Word.{kind, element_size, list_count}
use Rattle.capnp_format.specs.Segments.{Segments, segment, Target}
use Rattle.capnp_pointers.specs.Demands.{claimed_words, tag, element_words, amplified_charge, own_charge, Meets, IsInSegment}
use Rattle.capnp_pointers.specs.declared.object.Purpose.{Purpose}
use Rattle.capnp_pointers.specs.declared.object.Purpose.TheVariants.{Value, Size}
use Rattle.capnp_pointers.specs.Metered.{Metered, refuse, onward, covers}
use Rattle.capnp_pointers.specs.Enter.{Shape, is_struct_list, shape, is_in_segment, no_tag_name, enter_object}
use Rattle.capnp_pointers.specs.Reading.{Reading}
use Rattle.capnp_pointers.specs.Spending.{after_charge}
use Rattle.capnp_format.specs.Word.{is_double, upper_half}
use Rattle.capnp_format.specs.Segments.{pad, near, offset_leads, ◌>>=◌}
use Rattle.capnp_format.specs.Word.{offset_bits, far_position}
use Rattle.capnp_words.specs.declared.error.ErrorKind.TheVariants.{CannotCreateACanonicalMessageWithACapability, InvalidSegmentId, CantHandleNonStructInlineComposite, InlineCompositeListsElementsOverrunItsWordCount, InlineCompositeListsOfNonStructTypeAreNotSupported, MalformedDoubleFarPointer, MessageContainsOutOfBoundsPointer, MessageIsTooDeeplyNestedOrContainsCycles, UnknownPointerType}
use Rattle.capnp_pointers.specs.Demands.{IsStructList}
use Rattle.capnp_pointers.specs.Enter.{capability, nothing, has_level, follow, enter, read}
use Rattle.capnp_format.specs.Means.{Claims}
use Rattle.capnp_pointers.specs.Measures.{NotMeasured, no_level, stopped}
use Rattle.capnp_pointers.specs.Outcomes.{Entered}
use Rattle.capnp_pointers.specs.Reading.{word_of}
use Rattle.capnp_pointers.specs.Refusals.{landing_words, granted_before, Unfollowed, exceeding, leading_nowhere, Stopped, no_target, broken, claim_exceeds, count_exceeds}
use Rattle.capnp_pointers.specs.Wanted.{plain, BreaksObject, follow_at, FollowsTo}
use Rattle.capnp_pointers.specs.Follow.{◌>=>◌}
use Rattle.capnp_pointers.specs.declared.object.Object.{Object}
use Rattle.capnp_pointers.specs.declared.object.Object.TheVariants.{Null as ObjectNull, Capability as ObjectCapability, Struct as ObjectStruct, Flat as ObjectFlat, Pointers as ObjectPointers, Structs as ObjectStructs}
use Rattle.capnp_pointers.specs.Enter.{object_shape}
use Rattle.capnp_pointers.specs.Objects.{IsObject}
use Rattle.capnp_pointers.proofs.Budget.PaidAndLeft.{less_less}
use Rattle.capnp_pointers.proofs.Following.LeadsWhereFollowed.{unnamed_ok, is_named, follow as follows, or_named, existing, far_steps, followed_at, near_landed}
use Rattle.capnp_pointers.proofs.Budget.ChargedAsStated.{covers_true, covers_false, charged_none, counted_after}
use Rattle.capnp_pointers.proofs.Following.FollowedBySteps.{no_pads_near, pads_there, lies as lies_for}
use Rattle.capnp_pointers.proofs.WholeValue.UnreadableIfRefused.{affords_less}

-- the meter
pub spent_in_steps : (charging : Bool) (m : Meter) (g h k : ℕ) → charged charging (charged charging (charged charging (counted_once charging m) g) h) k ≡ after_charge charging m (g + h + k) 1
spent_in_steps true m g h k = ap (λ o. record { left = o; followed = raised m.followed 1 }) (ap (λ o. less o k) (less_less m.left g h) ∙ less_less m.left (g + h) k)
spent_in_steps false m g h k = refl

-- what the tests say
beyond : (x y : ℕ) → (x ≤ y → ⊥) → nat_le x y ≡ false
beyond x y h = let lt : y < x = omega (arith, h) in let e : nat_le x y ≡ false = grind (arith, lt) in e

lies_true : (purpose : Purpose) (S : Segments) (a : Target) → IsInSegment purpose S a → is_in_segment purpose S a ≡ true
lies_true Value S a h = le-leb _ _ h
lies_true Size S a h = go ((nat_eq (kind a.word) 1 && nat_eq (element_size a.word) 0)) refl
  where
    go : (b : Bool) → (nat_eq (kind a.word) 1 && nat_eq (element_size a.word) 0) ≡ b → (b || nat_le (a.start + claimed_words a.word) (length (segment S a.segment))) ≡ true
    go true e = refl
    go false e = le-leb _ _ (h (λ v. let two : (nat_eq (kind a.word) 1 && nat_eq (element_size a.word) 0) ≡ true = ap₂ (λ b c. b && c) (eq-eqb _ _ v.0) (eq-eqb _ _ v.1) in absurd (cc (e, two))))

lies_false : (purpose : Purpose) (S : Segments) (a : Target) → (IsInSegment purpose S a → ⊥) → is_in_segment purpose S a ≡ false
lies_false Value S a h = beyond _ _ h
lies_false Size S a h = go (nat_eq (kind a.word) 1) (nat_eq (element_size a.word) 0) refl refl
  where
    go : (c d : Bool) → nat_eq (kind a.word) 1 ≡ c → nat_eq (element_size a.word) 0 ≡ d → ((c && d) || nat_le (a.start + claimed_words a.word) (length (segment S a.segment))) ≡ false
    go true true e f = absurd (h (λ other. absurd (other (eqb-true _ _ e, eqb-true _ _ f))))
    go true false e f = beyond _ _ (λ le. h (λ _. le))
    go false d e f = beyond _ _ (λ le. h (λ _. le))

tagged_false : (w : ℕ) (b : Bool) → IsStructList w → b ≡ false → (not (is_struct_list w) || b) ≡ false
tagged_false w b t h =
    let two : is_struct_list w ≡ true = ap₂ (λ b c. b && c) (eq-eqb _ _ t.0) (eq-eqb _ _ t.1) in
    rw (two, h) refl

tagged_true : (w : ℕ) (b : Bool) → ((kind w ≡ 1) × (element_size w ≡ 7) → b ≡ true) → (not (is_struct_list w) || b) ≡ true
tagged_true w b h = go (nat_eq (kind w) 1) (nat_eq (element_size w) 7) refl refl
  where
    go : (c d : Bool) → nat_eq (kind w) 1 ≡ c → nat_eq (element_size w) 7 ≡ d → (not (c && d) || b) ≡ true
    go true true e f = h (eqb-true _ _ e, eqb-true _ _ f)
    go true false e f = refl
    go false d e f = refl

-- an object that meets its demands, with enough words left for its charges
pub entered_is : (purpose : Purpose) (r : Reading) (a : Target) (m : Meter) → Meets purpose r.segments r.levels a → Affords r.charging m (claimed_words a.word) → Affords r.charging (charged r.charging m (claimed_words a.word)) (amplified_charge purpose r.segments a) →
    enter_object purpose r a m ≡ (Ok (shape r.segments a), charged r.charging (charged r.charging m (claimed_words a.word)) (amplified_charge purpose r.segments a))
entered_is purpose r a m meets first second =
    let level : nat_lt 0 r.levels ≡ true = lt-ltb _ _ meets.levels in
    let there : is_in_segment purpose r.segments a ≡ true = lies_true purpose r.segments a meets.claims in
    let one : covers r.charging m (claimed_words a.word) ≡ true = covers_true r.charging m (claimed_words a.word) first in
    let is_tag : (not (is_struct_list a.word) || nat_eq (kind (tag r.segments a)) 0) ≡ true = tagged_true a.word _ (λ t. eq-eqb _ _ (meets.tagged t).0) in
    let room : (not (is_struct_list a.word) || nat_le (element_words (tag r.segments a)) (list_count a.word)) ≡ true = tagged_true a.word _ (λ t. le-leb _ _ (meets.tagged t).1) in
    let two : covers r.charging (charged r.charging m (claimed_words a.word)) (amplified_charge purpose r.segments a) ≡ true = covers_true r.charging _ _ second in
    rw (level, there, one, is_tag, room, two) refl

-- the words of the landing pads of a pointer that is followed
stepped : {A B : Type 0} {b : B} (o : Result A ErrorKind) (f : A → Result B ErrorKind) → (o >=> f) ≡ Ok b → (x : A) × (o ≡ Ok x) × (f x ≡ Ok b)
stepped (Ok x) f e = (x, refl, e)
stepped (Err k) f e = absurd (cc e)

there : {A : Type 0} {x : A} (k : ErrorKind) (o : Option A) → or_named k o ≡ Ok x → o ≡ Some x
there k (Some y) e = let q : y ≡ _ = cc e in ap Some q
there k None e = absurd (cc e)

affords_counted : (charging : Bool) (m : Meter) (g : ℕ) → Affords charging m g → Affords charging (counted_once charging m) g
affords_counted true m g h = h
affords_counted false m g h = tt

affords_uncounted : (charging : Bool) (m : Meter) (g : ℕ) → Affords charging (counted_once charging m) g → Affords charging m g
affords_uncounted true m g h = h
affords_uncounted false m g h = tt

affords_next : (charging : Bool) (m : Meter) (g h : ℕ) → Affords charging m (g + h) → Affords charging (charged charging m g) h
affords_next false m g h a = tt
affords_next true m g h a = go m.left a
  where
    go : (o : Option ℕ) → FitsIn o (g + h) → FitsIn (less o g) h
    go None a = tt
    go (Some x) a = omega (arith, a)

affords_sum : (charging : Bool) (m : Meter) (g h : ℕ) → Affords charging m g → Affords charging (charged charging m g) h → Affords charging m (g + h)
affords_sum false m g h a b = tt
affords_sum true m g h a b = go m.left a b
  where
    go : (o : Option ℕ) → FitsIn o g → FitsIn (less o g) h → FitsIn o (g + h)
    go None a b = tt
    go (Some x) a b = omega (arith, a, b)

pub spent_once : (charging : Bool) (m : Meter) (g : ℕ) → charged charging (counted_once charging m) g ≡ after_charge charging m g 1
spent_once true m g = refl
spent_once false m g = refl

spent_twice : (charging : Bool) (m : Meter) (g h : ℕ) → charged charging (charged charging (counted_once charging m) g) h ≡ after_charge charging m (g + h) 1
spent_twice true m g h = ap (λ o. record { left = o; followed = raised m.followed 1 }) (less_less m.left g h)
spent_twice false m g h = refl

-- a pointer that is followed, or not
pub followed_is : (r : Reading) (a : Target) (m : Meter) → follow_at r ≡ Ok a → landing_words r.segments (word_of r) ≡ a.pads → Affords r.charging m a.pads →
    follow r m ≡ (Ok a, charged r.charging (counted_once r.charging m) a.pads)
followed_is r a m leads words covered =
    let one : covers r.charging (counted_once r.charging m) a.pads ≡ true = covers_true r.charging _ _ (affords_counted r.charging m a.pads covered) in
    rw (words, one, leads) refl

pub unfollowed_is : (r : Reading) (m m' : Meter) (k : ErrorKind) → Unfollowed r m m' k → follow r m ≡ (Err k, m')
unfollowed_is r m m' k (exceeding some short paid named) =
    let one : covers r.charging (counted_once r.charging m) (landing_words r.segments (word_of r)) ≡ false = covers_false r.charging _ _ (λ h. short (affords_uncounted r.charging m _ h)) in
    rw (one, named, paid.spent) (ap (λ y. (Err ReadLimitExceeded, y)) (counted_after r.charging m))
unfollowed_is r m m' k (leading_nowhere some leads paid) =
    let one : covers r.charging (counted_once r.charging m) (landing_words r.segments (word_of r)) ≡ true = covers_true r.charging _ _ (affords_counted r.charging m _ paid.covers) in
    rw (one, leads, paid.spent) (ap (λ y. (Err k, y)) (spent_once r.charging m (landing_words r.segments (word_of r))))

near_pads : {a : Target} (S : Segments) (s p x pads : ℕ) → near S s p x pads ≡ Some a → a.pads ≡ pads
near_pads {a} S s p x pads e = go (offset_leads (length (segment S s)) p (offset_bits x)) e
  where
    go : (o : Option ℕ) → (o >>= λ b. Some (record { word = x; segment = s; start = b; pads = pads })) ≡ Some a → a.pads ≡ pads
    go (Some b) e = let q : record { word = x; segment = s; start = b; pads = pads } ≡ a = cc e in sym (ap (λ c. c.pads) q)
    go None e = absurd (cc e)

existing_is : {A : Type 0} {a : A} (S : Segments) (u : ℕ) (x : A) → existing S u x ≡ Ok a → x ≡ a
existing_is {A} {a} S u x e = go (nat_lt u (length S)) e
  where
    go : (b : Bool) → cond b (Ok x) (Err (InvalidSegmentId u)) ≡ Ok a → x ≡ a
    go true e = cc e
    go false e = absurd (cc e)

far_pads_are : {a : Target} (S : Segments) (x d : ℕ) → d < 2 → far_steps S x d ≡ Ok a → (w : ℕ) × (pad S x d ≡ Some w) × (a.pads ≡ 1 + d)
far_pads_are S x zero lt e =
    let one = stepped (existing S (upper_half x) x) _ e in
    let two = stepped (or_named MessageContainsOutOfBoundsPointer (pad S x 0)) _ one.2 in
    (two.0, there MessageContainsOutOfBoundsPointer (pad S x 0) two.1, near_pads S (upper_half x) (far_position x) two.0 1 (there MessageContainsOutOfBoundsPointer _ two.2))
far_pads_are S x (suc zero) lt e =
    let one = stepped (existing S (upper_half x) x) _ e in
    let two = stepped (or_named MessageContainsOutOfBoundsPointer (pad S x 1)) _ one.2 in
    (two.0, there MessageContainsOutOfBoundsPointer (pad S x 1) two.1, sym (ap (λ b. b.pads) (existing_is S (upper_half two.0) _ two.2)))
far_pads_are S x (suc (suc d)) lt e = absurd (omega (arith, lt))

pub pads_are : (r : Reading) (a : Target) → follow_at r ≡ Ok a → landing_words r.segments (word_of r) ≡ a.pads
pads_are r a f = go (nat_eq (kind (word_of r)) 2) refl
  where
    go : (b : Bool) → nat_eq (kind (word_of r)) 2 ≡ b → landing_words r.segments (word_of r) ≡ a.pads
    go false e =
        let other : kind (word_of r) ≢ 2 = eqb-false _ _ e in
        no_pads_near r.segments (word_of r) other ∙ sym (ap (λ b. b.pads) (near_landed r a other f))
    go true e =
        let x : ℕ = word_of r in
        let plain : follows r.segments r.segment r.at ≡ Ok a = unnamed_ok (is_named r) (follows r.segments r.segment r.at) (sym (followed_at r) ∙ f) in
        let far : follows r.segments r.segment r.at ≡ far_steps r.segments x (is_double x) = ap (λ b. cond b (far_steps r.segments x (is_double x)) (or_named MessageContainsOutOfBoundsPointer (near r.segments r.segment r.at x 0))) e in
        let z = far_pads_are r.segments x (is_double x) (omega arith) (sym far ∙ plain) in
        pads_there r.segments x (eqb-true _ _ e) z.1 ∙ sym z.2

-- a demand that is broken
near_tests : (w : ℕ) → kind w < 2 → (nat_eq (kind w) 2 ≡ false) × (nat_eq (kind w) 3 ≡ false)
near_tests w h = (ne_eqb _ _ (λ e. omega (arith, e, h)), ne_eqb _ _ (λ e. omega (arith, e, h)))

untagged_is : (purpose : Purpose) (r : Reading) (a : Target) (m : Meter) → 0 < r.levels → IsStructList a.word → Claims r.segments a (claimed_words a.word) → kind (tag r.segments a) ≢ 0 → Affords r.charging m (claimed_words a.word) →
    enter purpose r a m ≡ (Err (no_tag_name purpose), charged r.charging m (claimed_words a.word))
untagged_is purpose r a m some t claims other covered =
    let near = near_tests a.word (omega (arith, t.0)) in
    let level : nat_lt 0 r.levels ≡ true = lt-ltb _ _ some in
    let inside : is_in_segment purpose r.segments a ≡ true = lies_true purpose r.segments a (lies_for purpose r.segments a claims) in
    let one : covers r.charging m (claimed_words a.word) ≡ true = covers_true r.charging m (claimed_words a.word) covered in
    let none : (not (is_struct_list a.word) || nat_eq (kind (tag r.segments a)) 0) ≡ false = tagged_false a.word _ t (ne_eqb _ _ other) in
    rw (near.0, near.1, level, inside, one, none) refl

overrun_is : (purpose : Purpose) (r : Reading) (a : Target) (m : Meter) → 0 < r.levels → IsStructList a.word → Claims r.segments a (claimed_words a.word) → kind (tag r.segments a) ≡ 0 → list_count a.word < element_words (tag r.segments a) → Affords r.charging m (claimed_words a.word) →
    enter purpose r a m ≡ (Err InlineCompositeListsElementsOverrunItsWordCount, charged r.charging m (claimed_words a.word))
overrun_is purpose r a m some t claims z over covered =
    let near = near_tests a.word (omega (arith, t.0)) in
    let level : nat_lt 0 r.levels ≡ true = lt-ltb _ _ some in
    let inside : is_in_segment purpose r.segments a ≡ true = lies_true purpose r.segments a (lies_for purpose r.segments a claims) in
    let one : covers r.charging m (claimed_words a.word) ≡ true = covers_true r.charging m (claimed_words a.word) covered in
    let is_tag : (not (is_struct_list a.word) || nat_eq (kind (tag r.segments a)) 0) ≡ true = tagged_true a.word _ (λ _. eq-eqb _ _ z) in
    let none : (not (is_struct_list a.word) || nat_le (element_words (tag r.segments a)) (list_count a.word)) ≡ false = tagged_false a.word _ t (beyond _ _ (λ le. omega (arith, le, over))) in
    rw (near.0, near.1, level, inside, one, is_tag, none) refl

at_no_charge : (charging : Bool) (m : Meter) (k : ErrorKind) → refuse {A = Shape} k m ≡ (Err k, charged charging m 0)
at_no_charge charging m k = ap (λ y. (Err k, y)) (sym (charged_none charging m))

pub broken_is : (purpose : Purpose) (r : Reading) (a : Target) (m : Meter) (k : ErrorKind) → BreaksObject purpose plain r.segments r.levels a k → Affords r.charging m (granted_before a k) →
    enter purpose r a m ≡ (Err k, charged r.charging m (granted_before a k))
broken_is purpose r a m MalformedDoubleFarPointer h covered = let e : nat_eq (kind a.word) 2 ≡ true = eq-eqb _ _ h in rw e (at_no_charge r.charging m _)
broken_is purpose r a m UnknownPointerType (three, inl other) covered =
    let not_far : nat_eq (kind a.word) 2 ≡ false = ne_eqb _ _ (λ e. omega (arith, e, three)) in
    let is_other : nat_eq (kind a.word) 3 ≡ true = eq-eqb _ _ three in
    let low : nat_eq (a.word % 2 ^ 32) 3 ≡ false = ne_eqb _ _ other in
    rw (not_far, is_other, low) (at_no_charge r.charging m _)
broken_is purpose r a m UnknownPointerType (three, inr e) covered = absurd (cc e)
broken_is purpose r a m CannotCreateACanonicalMessageWithACapability (e, low) covered = absurd (cc e)
broken_is purpose r a m MessageIsTooDeeplyNestedOrContainsCycles (object, none) covered =
    let near = near_tests a.word object in
    let level : nat_lt 0 r.levels ≡ false = rw none refl in
    rw (near.0, near.1, level) (at_no_charge r.charging m _)
broken_is purpose r a m MessageContainsOutOfBoundsPointer (object, some, out) covered =
    let near = near_tests a.word object in
    let level : nat_lt 0 r.levels ≡ true = lt-ltb _ _ some in
    let outside : is_in_segment purpose r.segments a ≡ false = lies_false purpose r.segments a out in
    rw (near.0, near.1, level, outside) (at_no_charge r.charging m _)
broken_is Value r a m InlineCompositeListsOfNonStructTypeAreNotSupported (some, t, claims, other) covered = untagged_is Value r a m some t claims other covered
broken_is Size r a m CantHandleNonStructInlineComposite (some, t, claims, other) covered = untagged_is Size r a m some t claims other covered
broken_is purpose r a m InlineCompositeListsElementsOverrunItsWordCount (some, t, claims, z, over) covered = overrun_is purpose r a m some t claims z over covered
broken_is purpose r a m k h covered = absurd h

-- one object, read with a level left if only the size is wanted
pub leveled : (purpose : Purpose) (n : ℕ) → (purpose ≡ Size → 0 < n) → has_level purpose n ≡ true
leveled Value n h = refl
leveled Size n h = lt-ltb _ _ (h refl)

pub onward_is : {A B : Type 0} (f : A → Metered B) {o : Result A ErrorKind × Meter} {x : A} {m : Meter} → o ≡ (Ok x, m) → onward f o ≡ f x m
onward_is f e = ap (onward f) e

pub null_is : (purpose : Purpose) (r : Reading) (m : Meter) → word_of r ≡ 0 → read purpose r m ≡ (Ok nothing, m)
null_is purpose r m z = rw z refl

-- a pointer that is followed, and what is read there
pub reached_is : (purpose : Purpose) (r : Reading) (a : Target) (m : Meter) → (purpose ≡ Size → 0 < r.levels) → FollowsTo r a → Affords r.charging m a.pads →
    read purpose r m ≡ enter purpose r a (charged r.charging (counted_once r.charging m) a.pads)
reached_is purpose r a m level f covered =
    let some : nat_eq (word_of r) 0 ≡ false = ne_eqb _ _ f.0 in
    let has : has_level purpose r.levels ≡ true = leveled purpose r.levels level in
    rw (some, has) (onward_is (enter purpose r) (followed_is r a m f.1 (pads_are r a f.1) covered))

pub capability_is : (purpose : Purpose) (r : Reading) (a : Target) (m : Meter) → (purpose ≡ Size → 0 < r.levels) → FollowsTo r a → a.word % 2 ^ 32 ≡ 3 → Affords r.charging m a.pads →
    read purpose r m ≡ (Ok (capability (upper_half a.word)), after_charge r.charging m a.pads 1)
capability_is purpose r a m level f low covered =
    let not_far : nat_eq (kind a.word) 2 ≡ false = ne_eqb _ _ (λ e. omega (arith, e, low)) in
    let is_other : nat_eq (kind a.word) 3 ≡ true = eq-eqb _ _ (omega (arith, low)) in
    let is_low : nat_eq (a.word % 2 ^ 32) 3 ≡ true = eq-eqb _ _ low in
    reached_is purpose r a m level f covered ∙ rw (not_far, is_other, is_low) (ap (λ y. (Ok (capability (upper_half a.word)), y)) (spent_once r.charging m a.pads))

pub entering_is : (purpose : Purpose) (r : Reading) (m m' : Meter) (a : Target) → Entered purpose r m m' a → read purpose r m ≡ (Ok (shape r.segments a), m')
entering_is purpose r m m' a o =
    let c : Bool = r.charging in
    let m1 : Meter = charged c (counted_once c m) a.pads in
    let near = near_tests a.word o.meets.is_object in
    let pads : Affords c m a.pads = affords_less c m a.pads (own_charge purpose r.segments a) (omega arith) o.covers in
    let counted : Affords c (counted_once c m) (a.pads + (claimed_words a.word + amplified_charge purpose r.segments a)) = affords_counted c m _ (subst (Affords c m) (let e : own_charge purpose r.segments a ≡ a.pads + (claimed_words a.word + amplified_charge purpose r.segments a) = omega arith in e) o.covers) in
    let rest : Affords c m1 (claimed_words a.word + amplified_charge purpose r.segments a) = affords_next c (counted_once c m) a.pads _ counted in
    let first : Affords c m1 (claimed_words a.word) = affords_less c m1 (claimed_words a.word) (claimed_words a.word + amplified_charge purpose r.segments a) (omega arith) rest in
    reached_is purpose r a m (λ _. o.meets.levels) o.follows pads
    ∙ rw (near.0, near.1) (entered_is purpose r a m1 o.meets first (affords_next c m1 (claimed_words a.word) _ rest))
    ∙ ap (λ y. (Ok (shape r.segments a), y)) (spent_in_steps c m a.pads (claimed_words a.word) (amplified_charge purpose r.segments a) ∙ sym o.spent)

pub not_null : {r : Reading} {m m' : Meter} {k : ErrorKind} → Unfollowed r m m' k → word_of r ≢ 0
not_null (exceeding some short paid named) = some
not_null (leading_nowhere some leads paid) = some

-- the reading of one object stops
pub stopped_is : (purpose : Purpose) (r : Reading) (m m' : Meter) (k : ErrorKind) → (purpose ≡ Size → 0 < r.levels) → Stopped purpose plain r m m' k → read purpose r m ≡ (Err k, m')
stopped_is purpose r m m' k level (no_target u) =
    let some : nat_eq (word_of r) 0 ≡ false = ne_eqb _ _ (not_null u) in
    let has : has_level purpose r.levels ≡ true = leveled purpose r.levels level in
    rw (some, has) (ap (onward (enter purpose r)) (unfollowed_is r m m' k u))
stopped_is purpose r m m' k level (broken a f h paid) =
    let c : Bool = r.charging in
    let pads : Affords c m a.pads = affords_less c m a.pads _ (omega arith) paid.covers in
    reached_is purpose r a m level f pads
    ∙ broken_is purpose r a _ k h (affords_next c (counted_once c m) a.pads _ (affords_counted c m _ paid.covers))
    ∙ ap (λ y. (Err k, y)) (spent_twice c m a.pads (granted_before a k) ∙ sym paid.spent)
stopped_is purpose r m m' k level (claim_exceeds a f some object claims short paid named) =
    let c : Bool = r.charging in
    let m1 : Meter = charged c (counted_once c m) a.pads in
    let near = near_tests a.word object in
    let has : nat_lt 0 r.levels ≡ true = lt-ltb _ _ some in
    let inside : is_in_segment purpose r.segments a ≡ true = lies_true purpose r.segments a (lies_for purpose r.segments a claims) in
    let over : covers c m1 (claimed_words a.word) ≡ false = covers_false c m1 _ (λ h. short (affords_uncounted c m _ (affords_sum c (counted_once c m) a.pads _ (affords_counted c m _ paid.covers) h))) in
    reached_is purpose r a m level f paid.covers
    ∙ rw (near.0, near.1, has, inside, over, named) (ap (λ y. (Err ReadLimitExceeded, y)) (spent_once c m a.pads ∙ sym paid.spent))
stopped_is purpose r m m' k level (count_exceeds a f meets short paid named) =
    let c : Bool = r.charging in
    let m1 : Meter = charged c (counted_once c m) a.pads in
    let m2 : Meter = charged c m1 (claimed_words a.word) in
    let pads : Affords c m a.pads = affords_less c m a.pads _ (omega arith) paid.covers in
    let near = near_tests a.word meets.is_object in
    let has : nat_lt 0 r.levels ≡ true = lt-ltb _ _ meets.levels in
    let inside : is_in_segment purpose r.segments a ≡ true = lies_true purpose r.segments a meets.claims in
    let first : Affords c m1 (claimed_words a.word) = affords_next c (counted_once c m) a.pads _ (affords_counted c m _ paid.covers) in
    let one : covers c m1 (claimed_words a.word) ≡ true = covers_true c m1 _ first in
    let is_tag : (not (is_struct_list a.word) || nat_eq (kind (tag r.segments a)) 0) ≡ true = tagged_true a.word _ (λ t. eq-eqb _ _ (meets.tagged t).0) in
    let room : (not (is_struct_list a.word) || nat_le (element_words (tag r.segments a)) (list_count a.word)) ≡ true = tagged_true a.word _ (λ t. le-leb _ _ (meets.tagged t).1) in
    let own_covered : Affords c m1 (claimed_words a.word) → Affords c m2 (amplified_charge purpose r.segments a) → Affords c m (own_charge purpose r.segments a) = λ x y. subst (Affords c m) (let e : a.pads + (claimed_words a.word + amplified_charge purpose r.segments a) ≡ own_charge purpose r.segments a = omega arith in e)
    (affords_uncounted c m _ (affords_sum c (counted_once c m) a.pads _ (affords_counted c m a.pads pads) (affords_sum c m1 (claimed_words a.word) _ x y))) in
    let over : covers c m2 (amplified_charge purpose r.segments a) ≡ false = covers_false c m2 _ (λ h. short (own_covered first h)) in
    reached_is purpose r a m level f pads
    ∙ rw (near.0, near.1, has, inside, one, is_tag, room, over, named) (ap (λ y. (Err ReadLimitExceeded, y)) (spent_twice c m a.pads (claimed_words a.word) ∙ sym paid.spent))

-- for the size
pub measured_is : (r : Reading) (m m' : Meter) (k : ErrorKind) → NotMeasured r m m' k → read Size r m ≡ (Err k, m')
measured_is r m m' k (no_level some none same named) =
    let there : nat_eq (word_of r) 0 ≡ false = ne_eqb _ _ some in
    let level : nat_lt 0 r.levels ≡ false = rw none refl in
    rw (there, level, same, named) refl
measured_is r m m' k (stopped level h) = stopped_is Size r m m' k (λ _. level) h

-- an object that is read
pub object_is : (purpose : Purpose) (r : Reading) (m m' : Meter) (x : Object) → IsObject purpose r m m' x → read purpose r m ≡ (Ok (object_shape x), m')
object_is purpose r m m' ObjectNull (z, same) = null_is purpose r m z ∙ ap (λ y. (Ok nothing, y)) (sym same)
object_is Value r m m' (ObjectCapability i) (a, f, low, index, covered, spent) =
    capability_is Value r a m (λ e. absurd (cc e)) f low covered ∙ ap₂ (λ j y. (Ok (capability j), y)) (sym index) (sym spent)
object_is Size r m m' (ObjectCapability i) (a, f, low, index, covered, spent) =
    capability_is Size r a m (λ e. f.1) f.0 low covered ∙ ap₂ (λ j y. (Ok (capability j), y)) (sym index) (sym spent)
object_is purpose r m m' (ObjectStruct start size) (a, o, z, (held, seg, at), d, q) =
    let zero_kind : nat_eq (kind a.word) 0 ≡ true = eq-eqb _ _ z in
    let first : start.at ≡ a.start = omega (arith, at) in
    entering_is purpose r m m' a o ∙ rw (zero_kind, d, q, seg, first) refl
object_is purpose r m m' (ObjectFlat start size i) (a, o, z, small, (held, seg, at), wide, len) =
    let list : nat_eq (kind a.word) 0 ≡ false = ne_eqb _ _ (λ e. omega (arith, e, z)) in
    let not_seven : nat_eq (element_size a.word) 7 ≡ false = ne_eqb _ _ (λ e. omega (arith, e, small)) in
    let not_six : nat_eq (element_size a.word) 6 ≡ false = ne_eqb _ _ (λ e. omega (arith, e, small)) in
    let first : start.at ≡ a.start = omega (arith, at) in
    entering_is purpose r m m' a o ∙ rw (list, not_seven, not_six, wide, len, seg, first) refl
object_is purpose r m m' (ObjectPointers start i) (a, o, z, six, (held, seg, at), len) =
    let list : nat_eq (kind a.word) 0 ≡ false = ne_eqb _ _ (λ e. omega (arith, e, z)) in
    let not_seven : nat_eq (element_size a.word) 7 ≡ false = ne_eqb _ _ (λ e. omega (arith, e, six)) in
    let is_six : nat_eq (element_size a.word) 6 ≡ true = eq-eqb _ _ six in
    let first : start.at ≡ a.start = omega (arith, at) in
    entering_is purpose r m m' a o ∙ rw (list, not_seven, is_six, len, seg, first) refl
object_is purpose r m m' (ObjectStructs start size i) (a, o, z, seven, (held, seg, at), len, d, q) =
    let list : nat_eq (kind a.word) 0 ≡ false = ne_eqb _ _ (λ e. omega (arith, e, z)) in
    let is_seven : nat_eq (element_size a.word) 7 ≡ true = eq-eqb _ _ seven in
    entering_is purpose r m m' a o ∙ rw (list, is_seven, len, d, q, seg, at) refl
