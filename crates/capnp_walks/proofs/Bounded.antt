-- A walk lists at most as many objects as it may read words: each pointer is in a word that was
-- charged before the pointer was read.
use Rattle.std.proofs.Common.{◌≡◌, inl, inr, ℕ, zero, suc, pred, ◌+◌, ◌*◌, ◌-◌, ◌<◌, ◌≤◌, Bool, Option, Some, None, Result, Ok, Err, true, false, nat_eq, List, [], ◌∷◌, ◌++◌, length, refl, ap, ◌∙◌, subst, arith, eq-eqb, length-append}
use Rattle.std.proofs.lemmas.Bool.{ne_eqb}
use Rattle.capnp_words.specs.declared.error.ErrorKind.{ErrorKind}
use Rattle.capnp_words.specs.Meter.{Affords, FitsIn, Meter, less}
use Rattle.capnp_format.specs.Word.{kind, data_words, pointer_count, element_size, list_count, offset_bits, upper_half}
use Rattle.capnp_format.specs.Segments.{Target}
use Rattle.capnp_pointers.specs.declared.object.Purpose.TheVariants.{Value}
use Rattle.capnp_pointers.specs.Demands.{own_charge, tag}
use Rattle.capnp_pointers.specs.Enter.{Shape, nothing, capability, struct, flat, pointers, structs, shape}
use Rattle.capnp_pointers.specs.Metered.{Metered, onward}
use Rattle.capnp_pointers.specs.Outcomes.{Entered}
use Rattle.capnp_pointers.specs.Reading.{Reading, word_of}
use Rattle.capnp_pointers.specs.Refusals.{Stopped, Unfollowed, no_target, broken, claim_exceeds, count_exceeds, exceeding, leading_nowhere}
use Rattle.capnp_pointers.specs.Spending.{Paid, after_charge}
use Rattle.capnp_pointers.specs.Wanted.{plain}
use Rattle.capnp_pointers.proofs.Budget.PaidAndLeft.{fewer_than_words}
use Rattle.capnp_pointers.proofs.OneObject.ReadAsStated.{null_is, capability_is, entering_is, stopped_is}
use Rattle.capnp_pointers.proofs.Decided.{same_or_not}
use Rattle.capnp_pointers.proofs.OneObject.ReadInOneWay.{Ends, at_capability, at_object, refused, ends}
use Rattle.capnp_pointers.proofs.WholeValue.ObjectsRead.{own_pointers, own_struct, own_structs}
use Rattle.capnp_pointers.specs.Measure.{fold_children, fold_elements, fold_pointers}
use Rattle.capnp_walks.specs.Listing.{into_list}
use Rattle.capnp_walks.specs.Walks.{Walking, added, unless_stopped, walk_place, walk_within}
use Rattle.capnp_walks.specs.declared.walks.listing.WalkedObject.{WalkedObject}
use Rattle.capnp_walks.proofs.Stepped.{elements_stay, leaf, opened, pointers_stay, refusal_stops}

abbrev Outcome : Type 0
Outcome = Result (Walking (List WalkedObject)) ErrorKind × Meter

-- The objects that were listed and the words that are left are at most n.
abbrev pub Within : ℕ → Outcome → Type 0
Within n (Ok (xs, s), m) = (left : ℕ) × (m.left ≡ Some left) × (length xs + left ≤ n)
Within n (Err k, m) = Unit {0}

weaken : (n k : ℕ) (o : Outcome) → n ≤ k → Within n o → Within k o
weaken n k (Ok (xs, s), m) le (left, is, few) = (left, is, omega (arith, le, few))
weaken n k (Err e, m) le w = tt

-- Consecutive pointers, and elements.
module _ (w : Reading → List WalkedObject → Metered (Walking (List WalkedObject))) (r : Reading)
    (h : (p : ℕ) (xs : List WalkedObject) (m : Meter) (x : ℕ) → m.left ≡ Some x → Within (length xs + x + 1) (w (record r { at = p }) xs m)) where
  pointers_within : (i p : ℕ) (xs : List WalkedObject) (m : Meter) (x : ℕ) → m.left ≡ Some x → Within (length xs + x + i) (fold_pointers (unless_stopped w) i (record r { at = p }) (xs, None) m)
  pointers_within zero p xs m x e = (x, e, omega arith)
  pointers_within (suc i) p xs m x e = go (pointers_within i (p + 1)) (w (record r { at = p }) xs m) (h p xs m x e)
    where
      go : ((ys : List WalkedObject) (m1 : Meter) (y : ℕ) → m1.left ≡ Some y → Within (length ys + y + i) (fold_pointers (unless_stopped w) i (record r { at = p + 1 }) (ys, None) m1)) → (o : Outcome) → Within (length xs + x + 1) o → Within (length xs + x + suc i) (onward (fold_pointers (unless_stopped w) i (record r { at = p + 1 })) o)
      go later (Ok (ys, None), m1) (y, f, few) = weaken (length ys + y + i) (length xs + x + suc i) (fold_pointers (unless_stopped w) i (record r { at = p + 1 }) (ys, None) m1) (omega (arith, few)) (later ys m1 y f)
      go later (Ok (ys, Some q), m1) (y, f, few) = rw (pointers_stay w i (record r { at = p + 1 }) ys q m1) (y, f, omega (arith, few))
      go later (Err k, m1) few = tt

  elements_within : (d q n p : ℕ) (xs : List WalkedObject) (m : Meter) (x : ℕ) → m.left ≡ Some x → Within (length xs + x + n * q) (fold_elements (unless_stopped w) d q n (record r { at = p }) (xs, None) m)
  elements_within d q zero p xs m x e = (x, e, omega arith)
  elements_within d q (suc n) p xs m x e = go (elements_within d q n (p + (d + q))) (fold_pointers (unless_stopped w) q (record r { at = p + d }) (xs, None) m) (pointers_within q (p + d) xs m x e)
    where
      go : ((ys : List WalkedObject) (m1 : Meter) (y : ℕ) → m1.left ≡ Some y → Within (length ys + y + n * q) (fold_elements (unless_stopped w) d q n (record r { at = p + (d + q) }) (ys, None) m1)) → (o : Outcome) → Within (length xs + x + q) o → Within (length xs + x + suc n * q) (onward (fold_elements (unless_stopped w) d q n (record r { at = p + (d + q) })) o)
      go later (Ok (ys, None), m1) (y, f, few) = weaken (length ys + y + n * q) (length xs + x + suc n * q) (fold_elements (unless_stopped w) d q n (record r { at = p + (d + q) }) (ys, None) m1) (omega (arith, few)) (later ys m1 y f)
      go later (Ok (ys, Some s), m1) (y, f, few) = rw (elements_stay w d q n (record r { at = p + (d + q) }) ys s m1) (y, f, omega (arith, few))
      go later (Err k, m1) few = tt

-- What was paid, if words are charged and x are left.
paid : {m m' : Meter} {charging : Bool} {g k : ℕ} (x : ℕ) → charging ≡ true → m.left ≡ Some x → Paid charging m m' g k → (g ≤ x) × (m'.left ≡ Some (x - g))
paid {m} {m'} {charging} {g} {k} x charges e p =
    let covered : Affords true m g = subst (λ (b : Bool). Affords b m g) charges p.covers in
    let fits : FitsIn (Some x) g = subst (λ (o : Option ℕ). FitsIn o g) e covered in
    let spent : m' ≡ after_charge true m g k = subst (λ (b : Bool). m' ≡ after_charge b m g k) charges p.spent in
    (fits, ap (λ (y : Meter). y.left) spent ∙ ap (λ (o : Option ℕ). less o g) e)

-- An object that is entered, by its kind.
abbrev Below : Reading → Type 0
Below r = (index s p : ℕ) (xs : List WalkedObject) (m : Meter) (x : ℕ) → m.left ≡ Some x → Within (length xs + x + 1) (walk_within into_list (pred r.levels) index (record r { levels = pred r.levels; segment = s; at = p }) xs m)

abbrev walked : (parent index : ℕ) → Reading → List WalkedObject → Shape → Meter → Outcome
walked parent index r xs o m = fold_children (unless_stopped (walk_within into_list (pred r.levels) index)) (record r { levels = pred r.levels }) o (added into_list parent r o xs, None) m

one_longer : (xs : List WalkedObject) (o : WalkedObject) → length (xs ++ o ∷ []) ≡ length xs + 1
one_longer xs o = length-append xs (o ∷ [])

object_within : (parent index : ℕ) (r : Reading) (xs : List WalkedObject) (m m' : Meter) (x : ℕ) (a : Target) → r.charging ≡ true → m.left ≡ Some x → Entered Value r m m' a → Below r → Within (length xs + x + 1) (walked parent index r xs (shape r.segments a) m')
object_within parent index r xs m m' x a charges e o h = elim (same_or_not (kind a.word) 0) [
  | inl k ↦
      let is_struct : nat_eq (kind a.word) 0 ≡ true = eq-eqb _ _ k in
      let ys : List WalkedObject = added into_list parent r (struct a.segment a.start (data_words a.word) (pointer_count a.word)) xs in
      let long : length ys ≡ length xs + 1 = one_longer xs _ in
      rw is_struct (weaken (length ys + (x - own_charge Value r.segments a) + pointer_count a.word) (length xs + x + 1) (walked parent index r xs (struct a.segment a.start (data_words a.word) (pointer_count a.word)) m') (omega (arith, long, cost.0, own_struct r.segments a k)) (pointers_within (walk_within into_list (pred r.levels) index) (record r { levels = pred r.levels; segment = a.segment }) (λ p zs m1 y f. h index a.segment p zs m1 y f) (pointer_count a.word) (a.start + data_words a.word) ys m' (x - own_charge Value r.segments a) cost.1))
  | inr other ↦
      let list : nat_eq (kind a.word) 0 ≡ false = ne_eqb _ _ other in
      let is_list : kind a.word ≡ 1 = omega (arith, other, o.meets.is_object) in
      elim (same_or_not (element_size a.word) 7) [
        | inl seven ↦
            let is_seven : nat_eq (element_size a.word) 7 ≡ true = eq-eqb _ _ seven in
            let d : ℕ = data_words (tag r.segments a) in
            let q : ℕ = pointer_count (tag r.segments a) in
            let n : ℕ = offset_bits (tag r.segments a) in
            let ys : List WalkedObject = added into_list parent r (structs a.segment (a.start + 1) d q n) xs in
            let long : length ys ≡ length xs + 1 = one_longer xs _ in
            let inside : n * (d + q) ≤ list_count a.word = (o.meets.tagged (is_list, seven)).1 in
            let some : n * q ≤ n * (d + q) = fewer_than_words n d q in
            rw (list, is_seven) (weaken (length ys + (x - own_charge Value r.segments a) + n * q) (length xs + x + 1) (walked parent index r xs (structs a.segment (a.start + 1) d q n) m') (omega (arith, long, cost.0, inside, some, own_structs r.segments a is_list seven)) (elements_within (walk_within into_list (pred r.levels) index) (record r { levels = pred r.levels; segment = a.segment }) (λ p zs m1 y f. h index a.segment p zs m1 y f) d q n (a.start + 1) ys m' (x - own_charge Value r.segments a) cost.1))
        | inr no_structs ↦
            let not_seven : nat_eq (element_size a.word) 7 ≡ false = ne_eqb _ _ no_structs in
            elim (same_or_not (element_size a.word) 6) [
              | inl six ↦
                  let is_six : nat_eq (element_size a.word) 6 ≡ true = eq-eqb _ _ six in
                  let ys : List WalkedObject = added into_list parent r (pointers a.segment a.start (list_count a.word)) xs in
                  let long : length ys ≡ length xs + 1 = one_longer xs _ in
                  rw (list, not_seven, is_six) (weaken (length ys + (x - own_charge Value r.segments a) + list_count a.word) (length xs + x + 1) (walked parent index r xs (pointers a.segment a.start (list_count a.word)) m') (omega (arith, long, cost.0, own_pointers r.segments a is_list six)) (pointers_within (walk_within into_list (pred r.levels) index) (record r { levels = pred r.levels; segment = a.segment }) (λ p zs m1 y f. h index a.segment p zs m1 y f) (list_count a.word) a.start ys m' (x - own_charge Value r.segments a) cost.1))
              | inr no_pointers ↦
                  let not_six : nat_eq (element_size a.word) 6 ≡ false = ne_eqb _ _ no_pointers in
                  let long : length (added into_list parent r (flat a.segment a.start (element_size a.word) (list_count a.word)) xs) ≡ length xs + 1 = one_longer xs _ in
                  rw (list, not_seven, not_six) (x - own_charge Value r.segments a, cost.1, omega (arith, long))
            ]
      ]
]
  where
    cost : (own_charge Value r.segments a ≤ x) × (m'.left ≡ Some (x - own_charge Value r.segments a))
    cost = paid {m = m} {m' = m'} {charging = r.charging} {g = own_charge Value r.segments a} {k = 1} x charges e (record { covers = o.covers; spent = o.spent })

-- What was granted before a reading stops.
unfollowed_paid : {r : Reading} {m m' : Meter} {k : ErrorKind} → Unfollowed r m m' k → (g : ℕ) × Paid r.charging m m' g 1
unfollowed_paid (exceeding some over p named) = (0, p)
unfollowed_paid (leading_nowhere some nowhere p) = (_, p)

stopped_paid : {r : Reading} {m m' : Meter} {k : ErrorKind} → Stopped Value plain r m m' k → (g : ℕ) × Paid r.charging m m' g 1
stopped_paid (no_target u) = unfollowed_paid u
stopped_paid (broken a f b p) = (_, p)
stopped_paid (claim_exceeds a f some is claims over p named) = (_, p)
stopped_paid (count_exceeds a f meets over p named) = (_, p)

place_within : (parent : ℕ) (r : Reading) (xs : List WalkedObject) (m : Meter) (x : ℕ) → r.charging ≡ true → m.left ≡ Some x → (0 < r.levels → Below r) → Within (length xs + x + 1) (walk_place into_list parent r xs m)
place_within parent r xs m x charges e h = elim (same_or_not (word_of r) 0) [
  | inl none ↦ rw (leaf into_list parent r xs m m nothing (λ f s y. refl) (null_is Value r m none)) (x, e, omega arith)
  | inr some ↦ go (ends Value r m some)
]
  where
    go : Ends Value r m → Within (length xs + x + 1) (walk_place into_list parent r xs m)
    go (at_capability a f low covered) =
        let read = capability_is Value r a m (λ e. absurd (cc e)) f low covered in
        let cost = paid {m = m} {m' = after_charge r.charging m a.pads 1} {charging = r.charging} {g = a.pads} {k = 1} x charges e (record { covers = covered; spent = refl }) in
        let long : length (added into_list parent r (capability (upper_half a.word)) xs) ≡ length xs + 1 = one_longer xs _ in
        rw (leaf into_list parent r xs m (after_charge r.charging m a.pads 1) (capability (upper_half a.word)) (λ f s y. refl) read) (x - a.pads, cost.1, omega (arith, long))
    go (at_object a m' o) =
        rw (opened into_list parent r xs m m' (shape r.segments a) o.meets.levels (entering_is Value r m m' a o)) (object_within parent _ r xs m m' x a charges e o (h o.meets.levels))
    go (refused k m' stopped) =
        let (g, p) = stopped_paid stopped in
        rw (refusal_stops into_list parent r xs m m' k (stopped_is Value r m m' k (λ e. absurd (cc e)) stopped)) (x - g, (paid x charges e p).1, omega arith)

pub walk_bounded : (n parent : ℕ) (r : Reading) (xs : List WalkedObject) (m : Meter) (x : ℕ) → r.levels ≡ n → r.charging ≡ true → m.left ≡ Some x → Within (length xs + x + 1) (walk_place into_list parent r xs m)
walk_bounded zero parent r xs m x level charges e = place_within parent r xs m x charges e (λ some. absurd (omega (arith, some, level)))
walk_bounded (suc n) parent r xs m x level charges e = place_within parent r xs m x charges e (λ some index s p ys m1 y f. walk_bounded n index (record r { levels = pred r.levels; segment = s; at = p }) ys m1 y (omega (arith, level)) charges f)
