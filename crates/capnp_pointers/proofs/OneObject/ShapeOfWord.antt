-- What a shape says about the word that describes it, and what a call that read an object returned.
use Rattle.std.proofs.Common.{◌≡◌, ◌≢◌, inl, inr, ℕ, ◌+◌, ◌%◌, ◌^◌, ◌<◌, ◌≤◌, Bool, true, false, not, ◌||◌, cond, nat_eq, nat_lt, nat_le, Option, Some, None, Result, Ok, Err, IsOk, IfOk, IfErr, ◌↔◌, length, refl, sym, ap, ◌∙◌, subst, arith, eqb-true}
use Rattle.std.specs.Prelude.{ok_or}
use Rattle.std.proofs.lemmas.Bool.{eqb-false, ne_eqb}
use Rattle.capnp_words.specs.declared.error.ErrorKind.{ErrorKind}
use Rattle.capnp_words.specs.declared.error.ErrorKind.TheVariants.{InlineCompositeListsElementsOverrunItsWordCount, MessageContainsOutOfBoundsPointer, MessageIsTooDeeplyNestedOrContainsCycles, ReadLimitExceeded}
use Rattle.capnp_words.specs.Meter.{Meter, Affords, charged, counted_once}
use Rattle.capnp_words.specs.Sizes.{size_number}
use Rattle.capnp_format.specs.Word.{kind, upper_half, offset_bits, data_words, pointer_count, element_size, list_count}
use Rattle.capnp_format.specs.Segments.{Segments, segment, Target, ◌>>=◌, offset_leads}
use Rattle.capnp_pointers.specs.declared.object.Object.{Object}
use Rattle.capnp_pointers.specs.declared.object.Object.TheVariants.{Null as ObjectNull, Capability as ObjectCapability, Struct as ObjectStruct, Flat as ObjectFlat, Pointers as ObjectPointers, Structs as ObjectStructs}
use Rattle.capnp_pointers.specs.declared.object.Purpose.{Purpose}
use Rattle.capnp_pointers.specs.declared.object.Purpose.TheVariants.{Value, Size}
use Rattle.capnp_pointers.specs.Demands.{claimed_words, tag, element_words, amplified_charge, IsVoidList, IsStructList}
use Rattle.capnp_pointers.specs.Enter.{is_struct_list, is_in_segment, no_tag_name, Shape, nothing, capability, struct, flat, pointers, structs, shape, has_level, follow, enter_object, enter, read, object_shape, result_shape, near_shape}
use Rattle.capnp_pointers.specs.Entering.{IsObjectHeld, enter_plain}
use Rattle.capnp_pointers.specs.Metered.{Metered, outcome, answer, onward, ◌>>>◌, demand, covers, charge_words}
use Rattle.capnp_pointers.specs.Objects.{IsFew, IsObject, IsObjectRead, EntersNear, near_at}
use Rattle.capnp_pointers.specs.Outcomes.{Entered}
use Rattle.capnp_pointers.specs.Reading.{Reading, word_of}
use Rattle.capnp_pointers.specs.Refusals.{CanBeRead, NotRead}
use Rattle.capnp_pointers.specs.Spending.{after_charge}
use Rattle.capnp_pointers.specs.Wanted.{FollowsTo, FollowsFor}
use Rattle.capnp_pointers.proofs.OneObject.ReadAsStated.{leveled, null_is, capability_is, entering_is, stopped_is}
use Rattle.capnp_pointers.proofs.Decided.{same_or_not}
use Rattle.capnp_pointers.proofs.OneObject.EnteredBySteps.{after_words, plain_is, object_enters}
use Rattle.capnp_pointers.proofs.Following.LeadsWhereFollowed.{near_landed}
use Rattle.capnp_pointers.proofs.OneObject.ReadInOneWay.{Ends, at_capability, at_object, refused, ends, Told, null_told, capability_told, object_told, refusal_told, told, not_both, is_answer, no_answer, can_be_read_is, could_be_read_if, not_read_if}
use Rattle.capnp_pointers.proofs.Following.FollowedBySteps.{near_followed}

-- the steps before an answer
pub answered : {A B : Type 0} {f : A → Metered B} {x : Result A ErrorKind × Meter} {o : B} {m' : Meter} → onward f x ≡ (Ok o, m') → (y : A) × (n : Meter) × (x ≡ (Ok y, n)) × (f y n ≡ (Ok o, m'))
answered {x = (Ok y, n)} e = (y, n, refl, e)
answered {x = (Err k, n)} e = absurd (not_both e refl)

demanded : {A : Type 0} (b : Bool) (k : ErrorKind) (f : Unit {0} → Metered A) (m m' : Meter) (o : A) → (demand b k >>> f) m ≡ (Ok o, m') → f tt m ≡ (Ok o, m')
demanded true k f m m' o e = e
demanded false k f m m' o e = absurd (not_both e refl)

-- the shape of what was entered
charged_shape : (charging : Bool) (n : ℕ) (s : Shape) (m m' : Meter) (o : Shape) → (charge_words charging n >>> λ _. answer s) m ≡ (Ok o, m') → o ≡ s
charged_shape charging n s m m' o e = go (covers charging m n) e
  where
    go : (b : Bool) → onward (λ (_ : Unit {0}). answer s) (cond b (Ok tt, charged charging m n) (Err ReadLimitExceeded, m)) ≡ (Ok o, m') → o ≡ s
    go true e = let results = ap (λ p. p.0) e in cc results
    go false e = absurd (not_both e refl)

after_shape : (purpose : Purpose) (r : Reading) (a : Target) (m m' : Meter) (o : Shape) → after_words purpose r a m ≡ (Ok o, m') → o ≡ shape r.segments a
after_shape purpose r a m m' o e =
    let g = tag r.segments a in
    let untagged = not (is_struct_list a.word) in
    let room : Bool = untagged || nat_le (element_words g) (list_count a.word) in
    let last = λ (_ : Unit {0}). charge_words r.charging (amplified_charge purpose r.segments a) >>> λ _. answer (shape r.segments a) in
    let one = demanded (untagged || nat_eq (kind g) 0) (no_tag_name purpose) (λ _. demand room InlineCompositeListsElementsOverrunItsWordCount >>> last) m m' o e in
    charged_shape r.charging (amplified_charge purpose r.segments a) (shape r.segments a) m m' o (demanded room InlineCompositeListsElementsOverrunItsWordCount last m m' o one)

pub entered_shape : (purpose : Purpose) (r : Reading) (a : Target) (m m' : Meter) (o : Shape) → enter_object purpose r a m ≡ (Ok o, m') → o ≡ shape r.segments a
entered_shape purpose r a m m' o e =
    let claimed = λ (_ : Unit {0}). charge_words r.charging (claimed_words a.word) >>> λ _. after_words purpose r a in
    let inside : Bool = is_in_segment purpose r.segments a in
    let one = demanded (nat_lt 0 r.levels) MessageIsTooDeeplyNestedOrContainsCycles (λ _. demand inside MessageContainsOutOfBoundsPointer >>> claimed) m m' o e in
    go (covers r.charging m (claimed_words a.word)) (demanded inside MessageContainsOutOfBoundsPointer claimed m m' o one)
  where
    go : (b : Bool) → onward (λ (_ : Unit {0}). after_words purpose r a) (cond b (Ok tt, charged r.charging m (claimed_words a.word)) (Err ReadLimitExceeded, m)) ≡ (Ok o, m') → o ≡ shape r.segments a
    go true e = after_shape purpose r a (charged r.charging m (claimed_words a.word)) m' o e
    go false e = absurd (not_both e refl)

-- what the shape of a struct or a list says about its word
pub data ShapeIs (S : Segments) (a : Target) : Shape → Type 0 where
  is_struct : kind a.word ≡ 0 → ShapeIs S a (struct a.segment a.start (data_words a.word) (pointer_count a.word))
  is_structs : kind a.word ≡ 1 → element_size a.word ≡ 7 → ShapeIs S a (structs a.segment (a.start + 1) (data_words (tag S a)) (pointer_count (tag S a)) (offset_bits (tag S a)))
  is_pointers : kind a.word ≡ 1 → element_size a.word ≡ 6 → ShapeIs S a (pointers a.segment a.start (list_count a.word))
  is_flat : kind a.word ≡ 1 → element_size a.word ≤ 5 → ShapeIs S a (flat a.segment a.start (element_size a.word) (list_count a.word))

pub shape_is : (S : Segments) (a : Target) → kind a.word < 2 → ShapeIs S a (shape S a)
shape_is S a near = go (nat_eq (kind a.word) 0) (nat_eq (element_size a.word) 7) (nat_eq (element_size a.word) 6) refl refl refl
  where
    go : (b c d : Bool) → nat_eq (kind a.word) 0 ≡ b → nat_eq (element_size a.word) 7 ≡ c → nat_eq (element_size a.word) 6 ≡ d →
        ShapeIs S a (cond b (struct a.segment a.start (data_words a.word) (pointer_count a.word)) (cond c (structs a.segment (a.start + 1) (data_words (tag S a)) (pointer_count (tag S a)) (offset_bits (tag S a))) (cond d (pointers a.segment a.start (list_count a.word)) (flat a.segment a.start (element_size a.word) (list_count a.word)))))
    go true c d z e f = is_struct (eqb-true _ _ z)
    go false true d z e f = is_structs (omega (arith, eqb-false _ _ z)) (eqb-true _ _ e)
    go false false true z e f = is_pointers (omega (arith, eqb-false _ _ z)) (eqb-true _ _ f)
    go false false false z e f = is_flat (omega (arith, eqb-false _ _ z)) (omega (arith, eqb-false _ _ e, eqb-false _ _ f))

-- the object x has the shape of the struct or the list at the target a
abbrev pub Seen : Segments → Target → Object → Type 0
Seen S a (ObjectStruct start size) = (kind a.word ≡ 0) × (start.segment ≡ a.segment) × (start.at ≡ a.start) × (size.data_words ≡ data_words a.word) × (size.pointers ≡ pointer_count a.word)
Seen S a (ObjectFlat start size count) = (kind a.word ≡ 1) × (element_size a.word ≤ 5) × (start.segment ≡ a.segment) × (start.at ≡ a.start) × (size_number size ≡ element_size a.word) × (count ≡ list_count a.word)
Seen S a (ObjectPointers start count) = (kind a.word ≡ 1) × (element_size a.word ≡ 6) × (start.segment ≡ a.segment) × (start.at ≡ a.start) × (count ≡ list_count a.word)
Seen S a (ObjectStructs start size count) =
    (kind a.word ≡ 1) × (element_size a.word ≡ 7) × (start.segment ≡ a.segment) × (start.at ≡ a.start + 1)
    × (count ≡ offset_bits (tag S a)) × (size.data_words ≡ data_words (tag S a)) × (size.pointers ≡ pointer_count (tag S a))
Seen S a x = ⊥

pub seen : {S : Segments} {a : Target} {s : Shape} (x : Object) → ShapeIs S a s → s ≡ object_shape x → Seen S a x
seen (ObjectStruct start size) (is_struct z) e = (z, cc e, cc e, cc e, cc e)
seen (ObjectFlat start size i) (is_flat z small) e = (z, small, cc e, cc e, cc e, cc e)
seen (ObjectPointers start i) (is_pointers z six) e = (z, six, cc e, cc e, cc e)
seen (ObjectStructs start size i) (is_structs z seven) e = (z, seven, cc e, cc e, cc e, cc e, cc e)
seen (ObjectStruct start size) (is_structs z w) e = absurd (cc e)
seen (ObjectStruct start size) (is_pointers z w) e = absurd (cc e)
seen (ObjectStruct start size) (is_flat z w) e = absurd (cc e)
seen (ObjectFlat start size i) (is_struct z) e = absurd (cc e)
seen (ObjectFlat start size i) (is_structs z w) e = absurd (cc e)
seen (ObjectFlat start size i) (is_pointers z w) e = absurd (cc e)
seen (ObjectPointers start i) (is_struct z) e = absurd (cc e)
seen (ObjectPointers start i) (is_structs z w) e = absurd (cc e)
seen (ObjectPointers start i) (is_flat z w) e = absurd (cc e)
seen (ObjectStructs start size i) (is_struct z) e = absurd (cc e)
seen (ObjectStructs start size i) (is_pointers z w) e = absurd (cc e)
seen (ObjectStructs start size i) (is_flat z w) e = absurd (cc e)
seen ObjectNull (is_struct z) e = absurd (cc e)
seen ObjectNull (is_structs z w) e = absurd (cc e)
seen ObjectNull (is_pointers z w) e = absurd (cc e)
seen ObjectNull (is_flat z w) e = absurd (cc e)
seen (ObjectCapability i) (is_struct z) e = absurd (cc e)
seen (ObjectCapability i) (is_structs z w) e = absurd (cc e)
seen (ObjectCapability i) (is_pointers z w) e = absurd (cc e)
seen (ObjectCapability i) (is_flat z w) e = absurd (cc e)

-- a struct or a list that was entered and returned
entered_object : (purpose : Purpose) {r : Reading} {m m' : Meter} {a : Target} (x : Object) → Entered purpose r m m' a → Seen r.segments a x → IsObjectHeld r.segments x → IsObject purpose r m m' x
entered_object purpose {a = a} (ObjectStruct start size) o (z, seg, at, d, q) held = (a, o, z, (held, seg, omega (arith, at)), d, q)
entered_object purpose {a = a} (ObjectFlat start size i) o (z, small, seg, at, wide, len) held = (a, o, z, small, (held, seg, omega (arith, at)), wide, len)
entered_object purpose {a = a} (ObjectPointers start i) o (z, six, seg, at, len) held = (a, o, z, six, (held, seg, omega (arith, at)), len)
entered_object purpose {a = a} (ObjectStructs start size i) o (z, seven, seg, at, len, d, q) held = (a, o, z, seven, (held, seg, at), len, d, q)
entered_object purpose ObjectNull o h held = absurd h
entered_object purpose (ObjectCapability i) o h held = absurd h

-- nothing, or a capability
null_object : (purpose : Purpose) (r : Reading) {m m' : Meter} (x : Object) → word_of r ≡ 0 → nothing ≡ object_shape x → m ≡ m' → IsObject purpose r m m' x
null_object purpose r ObjectNull z e same = (z, sym same)
null_object purpose r (ObjectCapability i) z e same = absurd (cc e)
null_object purpose r (ObjectStruct start size) z e same = absurd (cc e)
null_object purpose r (ObjectFlat start size i) z e same = absurd (cc e)
null_object purpose r (ObjectPointers start i) z e same = absurd (cc e)
null_object purpose r (ObjectStructs start size i) z e same = absurd (cc e)

capability_object : (purpose : Purpose) (r : Reading) (m m' : Meter) (a : Target) (x : Object) → FollowsFor purpose r a → a.word % 2 ^ 32 ≡ 3 → Affords r.charging m a.pads → capability (upper_half a.word) ≡ object_shape x → after_charge r.charging m a.pads 1 ≡ m' → IsObject purpose r m m' x
capability_object purpose r m m' a (ObjectCapability i) f low covered e same = (a, f, low, cc e, covered, sym same)
capability_object purpose r m m' a ObjectNull f low covered e same = absurd (cc e)
capability_object purpose r m m' a (ObjectStruct start size) f low covered e same = absurd (cc e)
capability_object purpose r m m' a (ObjectFlat start size i) f low covered e same = absurd (cc e)
capability_object purpose r m m' a (ObjectPointers start i) f low covered e same = absurd (cc e)
capability_object purpose r m m' a (ObjectStructs start size i) f low covered e same = absurd (cc e)

-- the two parts of a result
pub part : {m m' : Meter} {s t : Shape} → outcome {A = Shape} (Ok s) m ≡ (Ok t, m') → (s ≡ t) × (m ≡ m')
part e = let results = ap (λ p. p.0) e in (cc results, ap (λ p. p.1) e)

-- a struct or a list at its target
target_object : (purpose : Purpose) {r : Reading} {m m' n : Meter} {a : Target} (x : Object) → Entered purpose r m n a → answer (shape r.segments a) n ≡ (Ok (object_shape x), m') → IsObjectHeld r.segments x → IsObject purpose r m m' x
target_object purpose {r} {m} {a = a} x o e held = subst (λ y. IsObject purpose r m y x) (part e).1 (entered_object purpose x o (seen x (shape_is r.segments a o.meets.is_object) (part e).0) held)

value_object : (r : Reading) (m m' : Meter) (x : Object) → read Value r m ≡ (Ok (object_shape x), m') → IsObjectHeld r.segments x → IsObject Value r m m' x
value_object r m m' x e held = elim (same_or_not (word_of r) 0) [
  | inl z ↦ let q = part (sym (null_is Value r m z) ∙ e) in null_object Value r x z q.0 q.1
  | inr some ↦ go (ends Value r m some)
]
  where
    go : Ends Value r m → IsObject Value r m m' x
    go (at_capability a f low covered) = let q = part (sym (capability_is Value r a m (λ e. absurd (cc e)) f low covered) ∙ e) in capability_object Value r m m' a x f low covered q.0 q.1
    go (at_object a n o) = target_object Value x o (sym (entering_is Value r m n a o) ∙ e) held
    go (refused k n h) = absurd (not_both e (stopped_is Value r m n k (λ e. absurd (cc e)) h))

size_object : (r : Reading) (m m' : Meter) (x : Object) → read Size r m ≡ (Ok (object_shape x), m') → IsObjectHeld r.segments x → IsObject Size r m m' x
size_object r m m' x e held = go (read Size r m) refl (told r m)
  where
    go : (y : Result Shape ErrorKind × Meter) → read Size r m ≡ y → Told r m y → IsObject Size r m m' x
    go y f (null_told z) = let q = part (sym f ∙ e) in null_object Size r x z q.0 q.1
    go y f (capability_told a level g low covered) = let q = part (sym f ∙ e) in capability_object Size r m m' a x (g, level) low covered q.0 q.1
    go y f (object_told a n o) = target_object Size x o (sym f ∙ e) held
    go y f (refusal_told k n h) = absurd (not_both e f)

-- what a call that computes `read` returned
pub object_read : (purpose : Purpose) (r : Reading) (m m' : Meter) (result : Result Object ErrorKind) → read purpose r m ≡ (result_shape result, m') → IfOk result (IsObjectHeld r.segments) → IfOk result (IsObject purpose r m m')
object_read Value r m m' (Ok x) e held = value_object r m m' x e held
object_read Size r m m' (Ok x) e held = size_object r m m' x e held
object_read purpose r m m' (Err k) e held = tt

pub was_read : (purpose : Purpose) (r : Reading) (m m' : Meter) (result : Result Object ErrorKind) → IfOk result (IsObject purpose r m m') → IfOk result IsFew → IfOk result (IsObjectRead purpose r)
was_read purpose r m m' (Ok x) object few = record { before = m; after = m'; object_of = object; few = few }
was_read purpose r m m' (Err k) object few = tt

pub read_exactly : (r : Reading) (m m' : Meter) (result : Result Object ErrorKind) → read Value r m ≡ (result_shape result, m') → IsOk result ↔ CanBeRead Value r m
read_exactly r m m' (Ok x) e = ((λ _. could_be_read_if Value r m (is_answer e)), (λ _. refl))
read_exactly r m m' (Err k) e = ((λ f. absurd (cc f)), (λ can. absurd (no_answer e (can_be_read_is Value r m can))))

pub read_refused : (r : Reading) (m m' : Meter) (result : Result Object ErrorKind) → read Value r m ≡ (result_shape result, m') → IfErr result (NotRead Value r m m')
read_refused r m m' (Ok x) e = tt
read_refused r m m' (Err k) e = not_read_if r m m' k e

-- a near pointer to an object that charges only what it claims
pub near_read : (purpose : Purpose) (r : Reading) (m : Meter) {x : Result Shape ErrorKind × Meter} → word_of r ≢ 0 → kind (word_of r) < 2 → (IsVoidList (word_of r) → ⊥) → (IsStructList (word_of r) → ⊥) → (purpose ≡ Size → 0 < r.levels) →
    onward (enter_plain r) (follow r m) ≡ x → read purpose r m ≡ x
near_read purpose r m {x} some near bits untagged level e =
    let there : nat_eq (word_of r) 0 ≡ false = ne_eqb _ _ some in
    let has : has_level purpose r.levels ≡ true = leveled purpose r.levels level in
    let led = near_followed r (word_of r) m refl (λ e. omega (arith, e, near)) in
    rw (there, has) (ap (onward (enter purpose r)) led ∙ go (offset_leads (length (segment r.segments r.segment)) r.at (offset_bits (word_of r))) ∙ sym (ap (onward (enter_plain r)) led) ∙ e)
  where
    go : (o : Option ℕ) → onward (enter purpose r) (ok_or (o >>= λ b. Some (near_at r b)) MessageContainsOutOfBoundsPointer, counted_once r.charging m) ≡ onward (enter_plain r) (ok_or (o >>= λ b. Some (near_at r b)) MessageContainsOutOfBoundsPointer, counted_once r.charging m)
    go None = refl
    go (Some b) = object_enters purpose r (near_at r b) (counted_once r.charging m) near ∙ plain_is purpose r (near_at r b) (counted_once r.charging m) near bits untagged

-- where a shape starts
abbrev start_of : Shape → ℕ
start_of nothing = 0
start_of (capability i) = 0
start_of (struct s p d q) = p
start_of (flat s p size n) = p
start_of (pointers s p n) = p
start_of (structs s p d q n) = p

starts : {S : Segments} {a : Target} {s : Shape} → ShapeIs S a s → (IsStructList a.word → ⊥) → start_of s ≡ a.start
starts (is_struct z) untagged = refl
starts (is_structs z w) untagged = absurd (untagged (z, w))
starts (is_pointers z w) untagged = refl
starts (is_flat z w) untagged = refl

pub near_entered : (purpose : Purpose) (r : Reading) (m m' : Meter) (result : Result ℕ ErrorKind) → word_of r ≢ 0 → kind (word_of r) < 2 → (IsStructList (word_of r) → ⊥) → (purpose ≡ Size → 0 < r.levels) →
    read purpose r m ≡ (near_shape r result, m') → IfOk result (EntersNear purpose r m m')
near_entered purpose r m m' (Err k) some near untagged level e = tt
near_entered purpose r m m' (Ok at) some near untagged level e = go (ends purpose r m some)
  where
    landed : (a : Target) → FollowsTo r a → a ≡ near_at r a.start
    landed a f = near_landed r a (λ e. omega (arith, e, near)) f.1

    go : Ends purpose r m → Entered purpose r m m' (near_at r at)
    go (at_capability a f low covered) = absurd (let word = ap (λ b. b.word) (landed a f) in omega (arith, word, low, near))
    go (at_object a n o) =
        let q = part (sym (entering_is purpose r m n a o) ∙ e) in
        let word : a.word ≡ word_of r = ap (λ b. b.word) (landed a o.follows) in
        let start : a.start ≡ at = sym (starts (shape_is r.segments a o.meets.is_object) (rw word untagged)) ∙ ap start_of q.0 ∙ starts (shape_is r.segments (near_at r at) near) untagged in
        subst (λ y. Entered purpose r m y (near_at r at)) q.1 (subst (Entered purpose r m n) (landed a o.follows ∙ ap (near_at r) start) o)
    go (refused k n h) = absurd (not_both e (stopped_is purpose r m n k level h))

pub near_refused : (r : Reading) (m m' : Meter) (result : Result ℕ ErrorKind) → read Value r m ≡ (near_shape r result, m') → IfErr result (NotRead Value r m m')
near_refused r m m' (Ok at) e = tt
near_refused r m m' (Err k) e = not_read_if r m m' k e
