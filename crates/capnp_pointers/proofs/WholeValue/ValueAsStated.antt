-- The reading of a whole value: the function `value` returns what the relations `Reads` and `Refused`
-- state. So a refusal has one error and leaves one limiter.
use Rattle.std.proofs.Common.{◌≡◌, inl, inr, ℕ, zero, suc, pred, ◌+◌, ◌*◌, ◌%◌, ◌^◌, ◌<◌, true, false, nat_eq, Result, Ok, Err, List, refl, sym, ap, ap₂, ◌∙◌, subst, arith, eq-eqb, add-zero}
use Rattle.std.proofs.lemmas.Bool.{ne_eqb}
use Rattle.capnp_words.specs.declared.error.ErrorKind.{ErrorKind}
use Rattle.capnp_words.specs.declared.error.ErrorKind.TheVariants.{CannotCreateACanonicalMessageWithACapability, InlineCompositeListsElementsOverrunItsWordCount, InlineCompositeListsOfNonStructTypeAreNotSupported, MalformedDoubleFarPointer, MessageContainsOutOfBoundsPointer, MessageIsTooDeeplyNestedOrContainsCycles, UnknownPointerType}
use Rattle.capnp_words.specs.declared.wire_pointer.StructSize.{StructSize}
use Rattle.capnp_words.specs.Meter.{Meter, Affords}
use Rattle.capnp_format.specs.Word.{kind, data_words, pointer_count, element_size, list_count, offset_bits, upper_half}
use Rattle.capnp_format.specs.Segments.{Target}
use Rattle.capnp_format.specs.Tree.{Tree, Trees, no_trees, tree, Elements, no_elements, element, count, element_count}
use Rattle.capnp_format.specs.Means.{MeansElements}
use Rattle.capnp_format.proofs.Levels.{one_value}
use Rattle.capnp_pointers.specs.declared.object.Purpose.TheVariants.{Value}
use Rattle.capnp_pointers.specs.Demands.{tag}
use Rattle.capnp_pointers.specs.Enter.{capability, shape}
use Rattle.capnp_pointers.specs.Faults.{child_at}
use Rattle.capnp_pointers.specs.Metered.{Metered, onward}
use Rattle.capnp_pointers.specs.Outcomes.{Entered, Reads, ReadsAll, ReadsElements}
use Rattle.capnp_pointers.specs.Reading.{Reading, place_past, tag_size}
use Rattle.capnp_pointers.specs.Refusals.{granted_before, Stopped, no_target, broken, claim_exceeds, count_exceeds, Refused, here, below, GoesBefore, in_struct, in_pointers, in_element}
use Rattle.capnp_pointers.specs.Spending.{after_charge, Paid, pointers_in, pointers_in_all, pointers_in_elements}
use Rattle.capnp_pointers.specs.Values.{permit, read_values, read_element_values, object_value, value_within, value}
use Rattle.capnp_pointers.specs.Wanted.{Form, plain, canonical, of_default, BreaksObject, FollowsTo}
use Rattle.capnp_pointers.proofs.Budget.PaidAndLeft.{after_after, after_none, affords_rest, paid_one, paid_all}
use Rattle.capnp_pointers.proofs.OneObject.ReadAsStated.{capability_is, entering_is, stopped_is}
use Rattle.capnp_pointers.proofs.Decided.{same_or_not}
use Rattle.capnp_pointers.proofs.WholeValue.UnreadableIfRefused.{unreadable, affords_less}
use Rattle.capnp_pointers.proofs.WholeValue.ValueAgrees.{Agree, value_agrees, value_is, permits, leaf_is, refusal_is}

-- a value that is read
pub reads_is : (form : Form) (r : Reading) (m m' : Meter) (t : Tree) → Reads form r m m' t → value form r m ≡ (Ok t, m')
reads_is form r m m' t x = go (value form r m) (value_agrees form r m)
  where
    go : (o : Result Tree ErrorKind × Meter) → Agree form r m o → o ≡ (Ok t, m')
    go (Ok u, m2) y =
        let same = one_value r.segments r.levels r.levels r.segment r.at u t y.cost x.cost y.means x.means in
        ap₂ (λ v m3. (Ok v, m3)) same.0 (y.spent ∙ ap₂ (λ c n. after_charge r.charging m c n) same.1 (ap pointers_in same.0) ∙ sym x.spent)
    go (Err k, m2) y = absurd ((unreadable y).only t x.cost x.means x.takes x.covers)

-- f reads what the relations read
abbrev ReadsBy : Form → (Reading → Metered Tree) → Reading → Type 0
ReadsBy form f r = (q : ℕ) (m1 m2 : Meter) (t : Tree) → Reads form (record r { at = q }) m1 m2 t → f (record r { at = q }) m1 ≡ (Ok t, m2)

nothing_read : {form : Form} {r : Reading} {m m' : Meter} → ReadsAll form r m m' no_trees → m' ≡ m
nothing_read {form} {r} {m} x = x.spent ∙ ap (λ c. after_charge r.charging m c 0) x.means ∙ after_none r.charging m

record Split (form : Form) (r : Reading) (m m' : Meter) (t : Tree) (ts : Trees) : Type 0 where
  mid : Meter
  first : Reads form r m mid t
  rest : ReadsAll form (place_past r 1) mid m' ts

split : (form : Form) (r : Reading) (m m' : Meter) (t : Tree) (ts : Trees) → ReadsAll form r m m' (tree t ts) → Split form r m m' t ts
split form r m m' t ts x =
    let k : ℕ = x.means.0 in
    let l : ℕ = x.means.1 in
    let whole : x.cost ≡ k + l = x.means.4 in
    let mid : Meter = after_charge r.charging m k (pointers_in t) in
    let first : Reads form r m mid t = record { cost = k; means = x.means.2; takes = λ e. let none = x.takes e in omega (arith, none); covers = affords_less r.charging m k x.cost (omega (arith, whole)) x.covers; spent = refl } in
    record {
      mid = mid;
      first = first;
      rest = record { cost = l; means = x.means.3; takes = λ e. let none = x.takes e in omega (arith, none); covers = affords_rest l x.cost (paid_one first) (omega (arith, whole)) x.covers; spent = x.spent ∙ ap (λ c. after_charge r.charging m c (pointers_in t + pointers_in_all ts)) whole ∙ sym (after_after r.charging m k (pointers_in t) l (pointers_in_all ts)) };
    }

trees_are : (form : Form) (f : Reading → Metered Tree) (r : Reading) → ReadsBy form f r → (ts : Trees) (p : ℕ) (m m' : Meter) → ReadsAll form (record r { at = p }) m m' ts → read_values f (count ts) (record r { at = p }) m ≡ (Ok ts, m')
trees_are form f r h no_trees p m m' x = ap (λ y. (Ok no_trees, y)) (sym (nothing_read x))
trees_are form f r h (tree t ts) p m m' x =
    let s = split form (record r { at = p }) m m' t ts x in
    ap (onward _) (h p m s.mid t s.first) ∙ ap (onward _) (trees_are form f r h ts (p + 1) s.mid m' s.rest)

trees_stop : (form : Form) (f : Reading → Metered Tree) (r : Reading) → ReadsBy form f r → (ts : Trees) (i p : ℕ) (m mid m' : Meter) (k : ErrorKind) → ReadsAll form (record r { at = p }) m mid ts → count ts < i → f (record r { at = p + count ts }) mid ≡ (Err k, m') →
    read_values f i (record r { at = p }) m ≡ (Err k, m')
trees_stop form f r h ts zero p m mid m' k x lt e = absurd (omega arith)
trees_stop form f r h no_trees (suc i) p m mid m' k x lt e =
    let same = nothing_read x in
    let there : f (record r { at = p }) m ≡ (Err k, m') = ap₂ (λ q y. f (record r { at = q }) y) (sym (add-zero p)) (sym same) ∙ e in
    ap (onward _) there
trees_stop form f r h (tree t ts) (suc i) p m mid m' k x lt e =
    let s = split form (record r { at = p }) m mid t ts x in
    let there : f (record r { at = p + 1 + count ts }) mid ≡ (Err k, m') = ap (λ q. f (record r { at = q }) mid) (omega arith) ∙ e in
    ap (onward _) (h p m s.mid t s.first) ∙ ap (onward _) (trees_stop form f r h ts i (p + 1) s.mid mid m' k s.rest (omega (arith, lt)) there)

-- elements before the one where the reading stops
record SplitRow (form : Form) (r : Reading) (size : StructSize) (m m' : Meter) (ts : Trees) (es : Elements) : Type 0 where
  mid : Meter
  many : count ts ≡ size.pointers
  first : ReadsAll form (place_past r size.data_words) m mid ts
  rest : ReadsElements form (place_past r (size.data_words + size.pointers)) size mid m' es

split_row : (form : Form) (r : Reading) (size : StructSize) (m m' : Meter) (ws : List ℕ) (ts : Trees) (es : Elements) → ReadsElements form r size m m' (element ws ts es) → SplitRow form r size m m' ts es
split_row form r size m m' ws ts es x =
    let k : ℕ = x.means.0 in
    let l : ℕ = x.means.1 in
    let whole : x.cost ≡ k + l = x.means.7 in
    let mid : Meter = after_charge r.charging m k (pointers_in_all ts) in
    let first : ReadsAll form (place_past r size.data_words) m mid ts = record { cost = k; means = x.means.5; takes = λ e. let none = x.takes e in omega (arith, none); covers = affords_less r.charging m k x.cost (omega (arith, whole)) x.covers; spent = refl } in
    let others : MeansElements r.segments r.levels r.segment (r.at + (size.data_words + size.pointers)) size.data_words size.pointers es l = subst (λ p. MeansElements r.segments r.levels r.segment p size.data_words size.pointers es l) (let e : r.at + size.data_words + size.pointers ≡ r.at + (size.data_words + size.pointers) = omega arith in e) x.means.6 in
    record {
      mid = mid;
      many = x.means.3;
      first = first;
      rest = record { cost = l; means = others; takes = λ e. let none = x.takes e in omega (arith, none); covers = affords_rest l x.cost (paid_all first) (omega (arith, whole)) x.covers; spent = x.spent ∙ ap (λ c. after_charge r.charging m c (pointers_in_all ts + pointers_in_elements es)) whole ∙ sym (after_after r.charging m k (pointers_in_all ts) l (pointers_in_elements es)) };
    }

elements_stop : (form : Form) (f : Reading → Metered Tree) (r : Reading) → ReadsBy form f r → (size : StructSize) (es : Elements) (n p : ℕ) (m mid m' : Meter) (k : ErrorKind) → ReadsElements form (record r { at = p }) size m mid es → element_count es < n →
    read_values f size.pointers (record r { at = p + element_count es * (size.data_words + size.pointers) + size.data_words }) mid ≡ (Err k, m') → read_element_values f size.data_words size.pointers n (record r { at = p }) m ≡ (Err k, m')
elements_stop form f r h size es zero p m mid m' k x lt e = absurd (omega arith)
elements_stop form f r h size no_elements (suc n) p m mid m' k x lt e =
    let same : mid ≡ m = x.spent ∙ ap (λ c. after_charge r.charging m c 0) x.means ∙ after_none r.charging m in
    let there : read_values f size.pointers (record r { at = p + size.data_words }) m ≡ (Err k, m') = ap₂ (λ q y. read_values f size.pointers (record r { at = q }) y) (let e : p + size.data_words ≡ p + 0 * (size.data_words + size.pointers) + size.data_words = omega arith in e) (sym same) ∙ e in
    ap (onward _) there
elements_stop form f r h size (element ws ts es) (suc n) p m mid m' k x lt e =
    let d : ℕ = size.data_words in
    let q : ℕ = size.pointers in
    let s = split_row form (record r { at = p }) size m mid ws ts es x in
    let row : read_values f q (record r { at = p + d }) m ≡ (Ok ts, s.mid) = ap (λ i. read_values f i (record r { at = p + d }) m) (sym s.many) ∙ trees_are form f r h ts (p + d) m s.mid s.first in
    let there : read_values f q (record r { at = p + (d + q) + element_count es * (d + q) + d }) mid ≡ (Err k, m') = ap (λ i. read_values f q (record r { at = i }) mid) (let e : p + (d + q) + element_count es * (d + q) + d ≡ p + suc (element_count es) * (d + q) + d = omega arith in e) ∙ e in
    ap (onward _) row ∙ ap (onward _) (elements_stop form f r h size es n (p + (d + q)) s.mid mid m' k s.rest (omega (arith, lt)) there)

-- one object that stops a reading in its form
capability_stops : (form : Form) (r : Reading) (m m' : Meter) (a : Target) (k : ErrorKind) → FollowsTo r a → a.word % 2 ^ 32 ≡ 3 → Paid r.charging m m' (a.pads + 0) 1 →
    ((f : Reading → Metered Tree) (at : ℕ → ℕ → Reading) (y : Meter) → onward (object_value f at) (permit form (capability (upper_half a.word)) y) ≡ (Err k, y)) → value form r m ≡ (Err k, m')
capability_stops form r m m' a k f low paid h =
    let none : a.pads + 0 ≡ a.pads = omega arith in
    leaf_is form r.levels r m (after_charge r.charging m a.pads 1) (capability (upper_half a.word)) (Err k, after_charge r.charging m a.pads 1) (capability_is Value r a m (λ e. absurd (cc e)) f low (subst (Affords r.charging m) none paid.covers)) (λ g at. h g at (after_charge r.charging m a.pads 1))
    ∙ ap (λ y. (Err k, y)) (ap (λ i. after_charge r.charging m i 1) (sym none) ∙ sym paid.spent)

plain_stops : (form : Form) (r : Reading) (m m' : Meter) (k : ErrorKind) → Stopped Value plain r m m' k → value form r m ≡ (Err k, m')
plain_stops form r m m' k h = refusal_is form r.levels r m m' k (stopped_is Value r m m' k (λ e. absurd (cc e)) h)

broken_stops : (form : Form) (r : Reading) (m m' : Meter) (a : Target) (k : ErrorKind) → FollowsTo r a → BreaksObject Value form r.segments r.levels a k → Paid r.charging m m' (a.pads + granted_before a k) 1 → value form r m ≡ (Err k, m')
broken_stops form r m m' a MalformedDoubleFarPointer f h paid = plain_stops form r m m' _ (broken a f h paid)
broken_stops form r m m' a UnknownPointerType f (three, inl other) paid = plain_stops form r m m' _ (broken a f (three, inl other) paid)
broken_stops of_default r m m' a UnknownPointerType f (three, inr e) paid = elim (same_or_not (a.word % 2 ^ 32) 3) [
  | inl low ↦ capability_stops of_default r m m' a UnknownPointerType f low paid (λ g at y. refl)
  | inr other ↦ plain_stops of_default r m m' _ (broken a f (three, inl other) paid)
]
broken_stops plain r m m' a UnknownPointerType f (three, inr e) paid = absurd (cc e)
broken_stops canonical r m m' a UnknownPointerType f (three, inr e) paid = absurd (cc e)
broken_stops canonical r m m' a CannotCreateACanonicalMessageWithACapability f (e, low) paid = capability_stops canonical r m m' a CannotCreateACanonicalMessageWithACapability f low paid (λ g at y. refl)
broken_stops plain r m m' a CannotCreateACanonicalMessageWithACapability f (e, low) paid = absurd (cc e)
broken_stops of_default r m m' a CannotCreateACanonicalMessageWithACapability f (e, low) paid = absurd (cc e)
broken_stops form r m m' a MessageIsTooDeeplyNestedOrContainsCycles f h paid = plain_stops form r m m' _ (broken a f h paid)
broken_stops form r m m' a MessageContainsOutOfBoundsPointer f h paid = plain_stops form r m m' _ (broken a f h paid)
broken_stops form r m m' a InlineCompositeListsOfNonStructTypeAreNotSupported f h paid = plain_stops form r m m' _ (broken a f h paid)
broken_stops form r m m' a InlineCompositeListsElementsOverrunItsWordCount f h paid = plain_stops form r m m' _ (broken a f h paid)
broken_stops form r m m' a k f h paid = absurd h

object_stops : (form : Form) (r : Reading) (m m' : Meter) (k : ErrorKind) → Stopped Value form r m m' k → value form r m ≡ (Err k, m')
object_stops form r m m' k (no_target h) = plain_stops form r m m' k (no_target h)
object_stops form r m m' k (broken a f h paid) = broken_stops form r m m' a k f h paid
object_stops form r m m' k (claim_exceeds a f some object claims short paid named) = plain_stops form r m m' k (claim_exceeds a f some object claims short paid named)
object_stops form r m m' k (count_exceeds a f meets short paid named) = plain_stops form r m m' k (count_exceeds a f meets short paid named)

-- one of the pointers of an object that is entered
child_stops : (form : Form) (r : Reading) (m first mid m' : Meter) (a : Target) (q : ℕ) (k : ErrorKind) → Entered Value r m first a → GoesBefore (ReadsAll form) (ReadsElements form) r a q first mid → value form (child_at r a (pred r.levels) q) mid ≡ (Err k, m') → value form r m ≡ (Err k, m')
child_stops form r m first mid m' a q k o before e =
    value_is form r.levels r m first (shape r.segments a) (entering_is Value r m first a o) o.meets.levels ∙ rw (permits form r.segments a first) (go before e)
  where
    f : Reading → Metered Tree
    f = value_within form (pred r.levels)

    by : (p : ℕ) → ReadsBy form f (child_at r a (pred r.levels) p)
    by p i m1 m2 t x = reads_is form (child_at r a (pred r.levels) i) m1 m2 t x

    go : GoesBefore (ReadsAll form) (ReadsElements form) r a q first mid → value form (child_at r a (pred r.levels) q) mid ≡ (Err k, m') → object_value f (λ s p. record r { levels = pred r.levels; segment = s; at = p }) (shape r.segments a) first ≡ (Err k, m')
    go (in_struct ts z fewer there all) e =
        let is_struct : nat_eq (kind a.word) 0 ≡ true = eq-eqb _ _ z in
        rw is_struct (ap (onward _) (trees_stop form f (child_at r a (pred r.levels) a.start) (by a.start) ts (pointer_count a.word) (a.start + data_words a.word) first mid m' k all fewer (rw there at e)))
    go (in_pointers ts z six fewer there all) e =
        let list : nat_eq (kind a.word) 0 ≡ false = ne_eqb _ _ (λ e. omega (arith, e, z)) in
        let not_seven : nat_eq (element_size a.word) 7 ≡ false = ne_eqb _ _ (λ e. omega (arith, e, six)) in
        let is_six : nat_eq (element_size a.word) 6 ≡ true = eq-eqb _ _ six in
        rw (list, not_seven, is_six) (ap (onward _) (trees_stop form f (child_at r a (pred r.levels) a.start) (by a.start) ts (list_count a.word) a.start first mid m' k all fewer (rw there at e)))
    go (in_element es ts between (z, seven) fewer less there rows all) e =
        let list : nat_eq (kind a.word) 0 ≡ false = ne_eqb _ _ (λ e. omega (arith, e, z)) in
        let is_seven : nat_eq (element_size a.word) 7 ≡ true = eq-eqb _ _ seven in
        let size : StructSize = tag_size r.segments a in
        let row = trees_stop form f (child_at r a (pred r.levels) a.start) (by a.start) ts size.pointers (a.start + 1 + element_count es * (size.data_words + size.pointers) + size.data_words) between mid m' k all less (rw there at e) in
        rw (list, is_seven) (ap (onward _) (elements_stop form f (child_at r a (pred r.levels) a.start) (by a.start) size es (offset_bits (tag r.segments a)) (a.start + 1) first between m' k rows fewer row))

pub refused_is : (form : Form) (k : ErrorKind) (r : Reading) (m m' : Meter) → Refused form r m m' k → value form r m ≡ (Err k, m')
refused_is form k r m m' (here stopped) = object_stops form r m m' k stopped
refused_is form k r m m' (below a q o before rest) = child_stops form r m _ _ m' a q k o before (refused_is form k (child_at r a (pred r.levels) q) _ m' rest)

-- what the function returns, the relations state
pub reads_if : (form : Form) (r : Reading) (m m' : Meter) (t : Tree) → value form r m ≡ (Ok t, m') → Reads form r m m' t
reads_if form r m m' t e = subst (Agree form r m) e (value_agrees form r m)

pub refused_if : (form : Form) (r : Reading) (m m' : Meter) (k : ErrorKind) → value form r m ≡ (Err k, m') → Refused form r m m' k
refused_if form r m m' k e = subst (Agree form r m) e (value_agrees form r m)
