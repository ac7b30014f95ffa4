-- The walk for a size, a step at a time: what it makes of an object, of consecutive pointers and of
-- elements; and what the calls of the program leave of it.
use Rattle.std.proofs.Common.{◌≡◌, ◌↔◌, ℕ, zero, suc, pred, ◌+◌, ◌*◌, ◌-◌, ◌^◌, ◌<◌, ◌≤◌, Bool, true, false, nat_eq, nat_lt, Result, Ok, Err, IsErr, IsOk, OnOk, OnErr, refl, sym, ap, ap₂, ◌∙◌, arith, add-zero, lt-ltb, eq-eqb}
use Rattle.std.proofs.lemmas.Bool.{false≢true, ne_eqb}
use Rattle.capnp_words.specs.declared.error.ErrorKind.{ErrorKind}
use Rattle.capnp_words.specs.declared.error.ErrorKind.TheVariants.{MessageTooLarge, MessageIsTooDeeplyNested}
use Rattle.capnp_words.specs.Meter.{Meter}
use Rattle.capnp_format.specs.Word.{kind, data_words, pointer_count, element_size, list_count}
use Rattle.capnp_format.specs.Numbers.{words_for}
use Rattle.capnp_pointers.specs.declared.object.Object.{Object}
use Rattle.capnp_pointers.specs.declared.object.Object.TheVariants.{Null as ObjectNull, Capability as ObjectCapability, Struct as ObjectStruct, Flat as ObjectFlat, Pointers as ObjectPointers, Structs as ObjectStructs}
use Rattle.capnp_pointers.specs.declared.object.Purpose.TheVariants.{Size}
use Rattle.capnp_pointers.specs.Enter.{Shape, nothing, capability, struct, flat, object_shape, read, shape}
use Rattle.capnp_pointers.specs.Metered.{Metered, answer, onward}
use Rattle.capnp_pointers.specs.Objects.{near_at}
use Rattle.capnp_pointers.specs.Reading.{Reading, place_past, word_of}
use Rattle.capnp_pointers.specs.declared.object.ChildRows.{ChildRows}
use Rattle.capnp_pointers.specs.declared.pointers.sizes.MessageSize.{MessageSize}
use Rattle.capnp_pointers.specs.declared.pointers.walk.Walk.{Walk}
use Rattle.capnp_pointers.specs.Measure.{FitSize, add_size, fold_children, fold_elements, fold_pointers, measure, measure_within, only_words, shape_size}
use Rattle.capnp_pointers.specs.Sizes.{HasRows, walk_result}

-- A sum that fits, and one that doesn't.
beyond : (x y : ℕ) → (x < y → ⊥) → nat_lt x y ≡ false
beyond x y h = let le : y ≤ x = omega (arith, h) in let e : nat_lt x y ≡ false = grind (arith, le) in e

pub added : (y z z' : MessageSize) (m : Meter) → z'.word_count ≡ z.word_count + y.word_count → z'.cap_count ≡ z.cap_count + y.cap_count → FitSize z'.word_count z'.cap_count → add_size y z m ≡ (Ok z', m)
added y z z' m words caps fits =
    let first : nat_lt (z.word_count + y.word_count) (2 ^ 64) ≡ true = lt-ltb _ _ (rw words at fits.0) in
    let second : nat_lt (z.cap_count + y.cap_count) (2 ^ 32) ≡ true = lt-ltb _ _ (rw caps at fits.1) in
    rw (first, second) (ap₂ (λ i j. (Ok (record { word_count = i; cap_count = j }), m)) (sym words) (sym caps))

pub words_over : (y z : MessageSize) (m : Meter) → (z.word_count + y.word_count < 2 ^ 64 → ⊥) → add_size y z m ≡ (Err (MessageTooLarge (2 ^ 64 - 1)), m)
words_over y z m over =
    let first : nat_lt (z.word_count + y.word_count) (2 ^ 64) ≡ false = beyond _ _ over in
    rw first refl

pub capabilities_over : (y z : MessageSize) (m : Meter) → z.word_count + y.word_count < 2 ^ 64 → (z.cap_count + y.cap_count < 2 ^ 32 → ⊥) → add_size y z m ≡ (Err (MessageTooLarge (2 ^ 64 - 1)), m)
capabilities_over y z m fits over =
    let first : nat_lt (z.word_count + y.word_count) (2 ^ 64) ≡ true = lt-ltb _ _ fits in
    let second : nat_lt (z.cap_count + y.cap_count) (2 ^ 32) ≡ false = beyond _ _ over in
    rw (first, second) refl

-- Without a level only null is read.
null_only : (r : Reading) (m m' : Meter) (o : Shape) → r.levels ≡ 0 → read Size r m ≡ (Ok o, m') → (o ≡ nothing) × (m' ≡ m)
null_only r m m' o none e = go (nat_eq (word_of r) 0) refl
  where
    go : (b : Bool) → nat_eq (word_of r) 0 ≡ b → (o ≡ nothing) × (m' ≡ m)
    go true z =
        let f : read Size r m ≡ (Ok nothing, m) = rw z refl in
        let answers : Ok nothing ≡ Ok o = ap (λ p. p.0) (sym f ∙ e) in
        (cc answers, ap (λ p. p.1) (sym e ∙ f))
    go false some =
        let level : nat_lt 0 r.levels ≡ false = rw none refl in
        let f : read Size r m ≡ (Err MessageIsTooDeeplyNested, m) = rw (some, level) refl in
        let answers : Err MessageIsTooDeeplyNested ≡ Ok o = ap (λ p. p.0) (sym f ∙ e) in
        absurd (cc answers)

-- The object at a place is refused.
pub measure_err : (r : Reading) (z : MessageSize) (m m' : Meter) (k : ErrorKind) → read Size r m ≡ (Err k, m') → measure r z m ≡ (Err k, m')
unfolding measure_within
measure_err r z m m' k e = go r.levels e
  where
    go : (n : ℕ) → read Size (record r { levels = n }) m ≡ (Err k, m') → measure_within n r z m ≡ (Err k, m')
    go zero e = ap (onward (λ o. answer z)) e
    go (suc n) e = ap (onward _) e

-- The object is read: its own size is added, and then its pointers are measured, with one level less.
abbrev pub children : Reading → Shape → MessageSize → Metered MessageSize
children r = fold_children (measure_within (pred r.levels)) (record r { levels = pred r.levels })

pub object_is : (n : ℕ) (r : Reading) (z : MessageSize) (m m' : Meter) (o : Shape) → FitSize z.word_count z.cap_count → read Size (record r { levels = n }) m ≡ (Ok o, m') →
    measure_within n r z m ≡ onward (children (record r { levels = n }) o) (add_size (shape_size o) z m')
unfolding measure_within
object_is zero r z m m' o fits e =
    let none = null_only (record r { levels = zero }) m m' o refl e in
    ap (onward (λ o. answer z)) e
    ∙ sym (ap (λ o. onward (children (record r { levels = zero }) o) (add_size (shape_size o) z m')) none.0 ∙ ap (onward (answer {A = MessageSize})) (added (only_words 0) z z m' (omega arith) (omega arith) fits))
object_is (suc n) r z m m' o fits e = ap (onward _) e

pub object_added : (r : Reading) (z z' : MessageSize) (m m' : Meter) (o : Shape) → FitSize z.word_count z.cap_count → read Size r m ≡ (Ok o, m') →
    z'.word_count ≡ z.word_count + (shape_size o).word_count → z'.cap_count ≡ z.cap_count + (shape_size o).cap_count → FitSize z'.word_count z'.cap_count → measure r z m ≡ children r o z' m'
object_added r z z' m m' o fits e words caps more =
    object_is r.levels r z m m' o fits e ∙ ap (onward (children r o)) (added (shape_size o) z z' m' words caps more)

pub object_over : (r : Reading) (z : MessageSize) (m m' : Meter) (o : Shape) → FitSize z.word_count z.cap_count → read Size r m ≡ (Ok o, m') → (z.word_count + (shape_size o).word_count < 2 ^ 64 → ⊥) →
    measure r z m ≡ (Err (MessageTooLarge (2 ^ 64 - 1)), m')
object_over r z m m' o fits e over =
    object_is r.levels r z m m' o fits e ∙ ap (onward (children r o)) (words_over (shape_size o) z m' over)

pub capability_over : (r : Reading) (z : MessageSize) (m m' : Meter) (i : ℕ) → FitSize z.word_count z.cap_count → read Size r m ≡ (Ok (capability i), m') → (z.cap_count + 1 < 2 ^ 32 → ⊥) →
    measure r z m ≡ (Err (MessageTooLarge (2 ^ 64 - 1)), m')
capability_over r z m m' i fits e over =
    object_is r.levels r z m m' (capability i) fits e ∙ ap (onward (children r (capability i))) (capabilities_over (shape_size (capability i)) z m' (omega (arith, fits.0)) over)

pub null_added : (r : Reading) (z : MessageSize) (m : Meter) → FitSize z.word_count z.cap_count → word_of r ≡ 0 → measure r z m ≡ (Ok z, m)
null_added r z m fits none =
    let e : read Size r m ≡ (Ok nothing, m) = rw none refl in
    object_added r z z m m nothing fits e (omega arith) (omega arith) fits

-- One of several consecutive pointers is measured, or stops the walk.
pub one_more : {X : Type 0} (f : Reading → X → Metered X) (r : Reading) (i j k : ℕ) (x y : X) (m m' : Meter) → j ≡ i + 1 → f (place_past r i) x m ≡ (Ok y, m') →
    fold_pointers f (suc k) (place_past r i) x m ≡ fold_pointers f k (place_past r j) y m'
one_more f r i j k x y m m' next e =
    ap (onward _) e ∙ ap (λ p. fold_pointers f k (record r { at = p }) y m') (omega (arith, next))

pub one_stops : {X : Type 0} (f : Reading → X → Metered X) (r : Reading) (k : ℕ) (x : X) (m m' : Meter) (e : ErrorKind) → f r x m ≡ (Err e, m') → fold_pointers f (suc k) r x m ≡ (Err e, m')
one_stops f r k x m m' e h = ap (onward _) h

-- The pointers of one of several consecutive elements are measured, or stop the walk.
pub row_more : {X : Type 0} (f : Reading → X → Metered X) (r : Reading) (d q i j k : ℕ) (x y : X) (m m' : Meter) → j ≡ i + 1 → fold_pointers f q (place_past r (i * (d + q) + d)) x m ≡ (Ok y, m') →
    fold_elements f d q (suc k) (place_past r (i * (d + q))) x m ≡ fold_elements f d q k (place_past r (j * (d + q))) y m'
row_more f r d q i j k x y m m' next e =
    let there : fold_pointers f q (place_past (place_past r (i * (d + q))) d) x m ≡ (Ok y, m') = ap (λ p. fold_pointers f q (record r { at = p }) x m) (omega arith) ∙ e in
    ap (onward _) there ∙ ap (λ p. fold_elements f d q k (record r { at = p }) y m') (rw next (omega arith))

pub row_stops : {X : Type 0} (f : Reading → X → Metered X) (r : Reading) (d q k : ℕ) (x : X) (m m' : Meter) (e : ErrorKind) → fold_pointers f q (place_past r d) x m ≡ (Err e, m') → fold_elements f d q (suc k) r x m ≡ (Err e, m')
row_stops f r d q k x m m' e h = ap (onward _) h

pub no_pointers : {X : Type 0} (f : Reading → X → Metered X) (r : Reading) (d n : ℕ) (x : X) (m : Meter) → fold_elements f d 0 n r x m ≡ (Ok x, m)
no_pointers f r d zero x m = refl
no_pointers f r d (suc n) x m = no_pointers f (place_past r (d + 0)) d n x m

-- The pointers of one element.
answered : {X : Type 0} (o : Result X ErrorKind × Meter) → onward answer o ≡ o
answered (Ok y, m') = refl
answered (Err k, m') = refl

pub one_row : {X : Type 0} (f : Reading → X → Metered X) (r : Reading) (d q : ℕ) (x : X) (m : Meter) → fold_elements f d q 1 r x m ≡ fold_pointers f q (place_past r d) x m
one_row f r d q x m = answered (fold_pointers f q (place_past r d) x m)

-- What the walk makes of an object that the program has read.
pub no_capability : (x : Object) → ((i : ℕ) → x ≡ ObjectCapability i → ⊥) → (shape_size (object_shape x)).cap_count ≡ 0
no_capability ObjectNull h = refl
no_capability (ObjectCapability i) h = absurd (h i refl)
no_capability (ObjectStruct start size) h = refl
no_capability (ObjectFlat start size i) h = refl
no_capability (ObjectPointers start i) h = refl
no_capability (ObjectStructs start size i) h = refl

pub no_children : {X : Type 0} (f : Reading → X → Metered X) (r : Reading) (x : Object) (z : X) (m : Meter) → ((rows : ChildRows) → HasRows x rows → ⊥) → fold_children f r (object_shape x) z m ≡ (Ok z, m)
no_children f r ObjectNull z m h = refl
no_children f r (ObjectCapability i) z m h = refl
no_children f r (ObjectFlat start size i) z m h = refl
no_children f r (ObjectStruct start size) z m h = absurd (h (record { start = start; data_words = size.data_words; pointers = size.pointers; count = 1 }) (refl, refl, refl, refl))
no_children f r (ObjectPointers start i) z m h = absurd (h (record { start = start; data_words = 0; pointers = i; count = 1 }) (refl, refl, refl, refl))
no_children f r (ObjectStructs start size i) z m h = absurd (h (record { start = start; data_words = size.data_words; pointers = size.pointers; count = i }) (refl, refl, refl, refl))

pub children_in_rows : {X : Type 0} (f : Reading → X → Metered X) (r : Reading) (x : Object) (rows : ChildRows) (z : X) (m : Meter) → HasRows x rows →
    fold_children f r (object_shape x) z m ≡ fold_elements f rows.data_words rows.pointers rows.count (record r { segment = rows.start.segment; at = rows.start.at }) z m
children_in_rows f r (ObjectStruct start size) rows z m (a, d, q, i) = rw (a, d, q, i) (sym (one_row f (record r { segment = start.segment; at = start.at }) size.data_words size.pointers z m))
children_in_rows f r (ObjectPointers start len) rows z m (a, d, q, i) =
    rw (a, d, q, i) (ap (λ p. fold_pointers f len (record r { segment = start.segment; at = p }) z m) (omega arith) ∙ sym (one_row f (record r { segment = start.segment; at = start.at }) 0 len z m))
children_in_rows f r (ObjectStructs start size len) rows z m (a, d, q, i) = rw (a, d, q, i) refl
children_in_rows f r ObjectNull rows z m h = absurd h
children_in_rows f r (ObjectCapability i) rows z m h = absurd h
children_in_rows f r (ObjectFlat start size i) rows z m h = absurd h

-- What a call leaves that stops, and one that adds a capability.
pub ended_err : {A E : Type 0} (result : Result A E) (w : Walk) → IsErr result → walk_result result w ≡ Err w.sums.refusal
ended_err (Ok x) w is = absurd (false≢true is)
ended_err (Err k) w is = refl

pub capability_ends : {A E : Type 0} (result : Result A E) (r : Reading) (z y : MessageSize) (m : Meter) (w : Walk) (x : Object) (i : ℕ) → x ≡ ObjectCapability i → FitSize z.word_count z.cap_count → read Size r m ≡ (Ok (object_shape x), w.lim) →
    (y.word_count ≡ z.word_count + (shape_size (object_shape x)).word_count) × (y.cap_count ≡ z.cap_count) → IsOk result ↔ (y.cap_count + 1 < 2 ^ 32) → OnOk result ((w.sums.size.word_count ≡ y.word_count) × (w.sums.size.cap_count ≡ y.cap_count + 1)) →
    OnErr result (w.sums.refusal ≡ MessageTooLarge (2 ^ 64 - 1)) → measure r z m ≡ (walk_result result w, w.lim)
capability_ends (Ok u) r z y m w x i is fits e first exactly sum named =
    let s : read Size r m ≡ (Ok (capability i), w.lim) = rw is at e in
    let none : y.word_count ≡ z.word_count + 0 = rw is at first.0 in
    object_added r z w.sums.size m w.lim (capability i) fits s (sum.0 ∙ none) (sum.1 ∙ ap (λ n. n + 1) first.1) w.sums.fits
capability_ends (Err k) r z y m w x i is fits e first exactly sum named =
    let s : read Size r m ≡ (Ok (capability i), w.lim) = rw is at e in
    capability_over r z m w.lim i fits s (λ h. false≢true (exactly.1 (rw first.1 h))) ∙ ap (λ k. (Err k, w.lim)) (sym named)

pub near_struct : (r : Reading) (at : ℕ) → kind (word_of r) ≡ 0 → shape r.segments (near_at r at) ≡ struct r.segment at (data_words (word_of r)) (pointer_count (word_of r))
near_struct r at z = let e : nat_eq (kind (word_of r)) 0 ≡ true = eq-eqb _ _ z in rw e refl

pub near_flat : (r : Reading) (at : ℕ) → kind (word_of r) ≡ 1 → element_size (word_of r) ≤ 5 → shape r.segments (near_at r at) ≡ flat r.segment at (element_size (word_of r)) (list_count (word_of r))
near_flat r at z small =
    let list : nat_eq (kind (word_of r)) 0 ≡ false = ne_eqb _ _ (λ e. omega (arith, e, z)) in
    let not_seven : nat_eq (element_size (word_of r)) 7 ≡ false = ne_eqb _ _ (λ e. omega (arith, e, small)) in
    let not_six : nat_eq (element_size (word_of r)) 6 ≡ false = ne_eqb _ _ (λ e. omega (arith, e, small)) in
    rw (list, not_seven, not_six) refl

-- What a call leaves that adds the words of a list of bits or bytes.
pub words_end : {A E : Type 0} (result : Result A E) (r : Reading) (z : MessageSize) (m : Meter) (w : Walk) (s p i : ℕ) (size : ℕ) → FitSize z.word_count z.cap_count → read Size r m ≡ (Ok (flat s p size i), w.lim) →
    IsOk result ↔ (z.word_count + words_for size i < 2 ^ 64) → OnOk result ((w.sums.size.word_count ≡ z.word_count + words_for size i) × (w.sums.size.cap_count ≡ z.cap_count)) →
    OnErr result (w.sums.refusal ≡ MessageTooLarge (2 ^ 64 - 1)) → measure r z m ≡ (walk_result result w, w.lim)
words_end (Ok u) r z m w s p i size fits e exactly sum named = object_added r z w.sums.size m w.lim (flat s p size i) fits e sum.0 (sum.1 ∙ sym (add-zero _)) w.sums.fits
words_end (Err k) r z m w s p i size fits e exactly sum named =
    object_over r z m w.lim (flat s p size i) fits e (λ h. false≢true (exactly.1 h)) ∙ ap (λ k. (Err k, w.lim)) (sym named)
