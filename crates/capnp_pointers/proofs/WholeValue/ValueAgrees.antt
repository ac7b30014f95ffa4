-- The reading of a whole value: the relations `Reads` and `Refused` state what the function `value`
-- returns.
use Rattle.std.proofs.Common.{◌≡◌, inl, inr, ℕ, zero, suc, pred, ◌+◌, ◌*◌, ◌%◌, ◌^◌, ◌<◌, ◌≤◌, Bool, true, false, nat_eq, Result, Ok, Err, length, refl, sym, ap, ◌∙◌, subst, arith, eq-eqb, add-zero}
use Rattle.std.proofs.lemmas.Bool.{ne_eqb}
use Rattle.capnp_words.specs.declared.error.ErrorKind.{ErrorKind}
use Rattle.capnp_words.specs.declared.error.ErrorKind.TheVariants.{CannotCreateACanonicalMessageWithACapability, InlineCompositeListsElementsOverrunItsWordCount, InlineCompositeListsOfNonStructTypeAreNotSupported, MalformedDoubleFarPointer, MessageContainsOutOfBoundsPointer, MessageIsTooDeeplyNestedOrContainsCycles, UnknownPointerType}
use Rattle.capnp_words.specs.declared.wire_pointer.StructSize.{StructSize}
use Rattle.capnp_words.specs.Meter.{Meter, Affords}
use Rattle.capnp_format.specs.Word.{kind, data_words, pointer_count, element_size, list_count, offset_bits, upper_half, capability_word}
use Rattle.capnp_format.specs.Segments.{Segments, Target}
use Rattle.capnp_format.specs.Tree.{Tree, Null, Capability, Struct, Pointers, Structs, Trees, no_trees, tree, Elements, no_elements, element, count, element_count}
use Rattle.capnp_format.specs.Means.{MeansElements}
use Rattle.capnp_format.proofs.Slices.{length_words}
use Rattle.capnp_pointers.specs.declared.object.Purpose.TheVariants.{Value}
use Rattle.capnp_pointers.specs.Demands.{tag}
use Rattle.capnp_pointers.specs.Enter.{Shape, nothing, capability, shape, read}
use Rattle.capnp_pointers.specs.Faults.{child_at}
use Rattle.capnp_pointers.specs.Metered.{Metered, answer, onward}
use Rattle.capnp_pointers.specs.Outcomes.{Entered, Reads, ReadsAll, ReadsElements}
use Rattle.capnp_pointers.specs.Reading.{Reading, word_of, place_past, segment_read, words_from, tag_size}
use Rattle.capnp_pointers.specs.Refusals.{Stopped, no_target, broken, claim_exceeds, count_exceeds, Refused, here}
use Rattle.capnp_pointers.specs.Spending.{after_charge}
use Rattle.capnp_pointers.specs.Values.{permit, read_values, read_element_values, object_value, value_within, value}
use Rattle.capnp_pointers.specs.Wanted.{Form, plain, canonical, of_default, BreaksObject, FollowsTo}
use Rattle.capnp_pointers.proofs.Budget.PaidAndLeft.{paid_both, paid_one, paid_all, paid_elements, affords_none, after_none}
use Rattle.capnp_pointers.proofs.OneObject.ReadAsStated.{null_is, capability_is, entering_is, stopped_is}
use Rattle.capnp_pointers.proofs.WholeValue.ChildrenRead.{read_none}
use Rattle.capnp_pointers.proofs.Decided.{same_or_not, within_or_not}
use Rattle.capnp_pointers.proofs.Following.LeadsWhereFollowed.{leads_there}
use Rattle.capnp_pointers.proofs.OneObject.ReadInOneWay.{Ends, at_capability, at_object, refused, ends}
use Rattle.capnp_pointers.proofs.WholeValue.ObjectsRead.{read_null, read_struct, read_flat, read_pointers, read_structs}
use Rattle.capnp_pointers.proofs.OneObject.PartsMeant.{claim_list}
use Rattle.capnp_pointers.proofs.WholeValue.UnreadableIfRefused.{stops_struct, stops_pointers, stops_structs}
use Rattle.capnp_pointers.proofs.WholeValue.Shorthands.{RefusedAll, RefusedElements}

-- an object that is refused as a plain value is refused in each form
pub breaks_form : (form : Form) (S : Segments) (n : ℕ) (a : Target) (k : ErrorKind) → BreaksObject Value plain S n a k → BreaksObject Value form S n a k
breaks_form form S n a MalformedDoubleFarPointer h = h
breaks_form form S n a UnknownPointerType (three, inl other) = (three, inl other)
breaks_form form S n a UnknownPointerType (three, inr e) = absurd (cc e)
breaks_form form S n a CannotCreateACanonicalMessageWithACapability (e, low) = absurd (cc e)
breaks_form form S n a MessageIsTooDeeplyNestedOrContainsCycles h = h
breaks_form form S n a MessageContainsOutOfBoundsPointer h = h
breaks_form form S n a InlineCompositeListsOfNonStructTypeAreNotSupported h = h
breaks_form form S n a InlineCompositeListsElementsOverrunItsWordCount h = h
breaks_form form S n a k h = absurd h

pub stopped_form : {r : Reading} {m m' : Meter} {k : ErrorKind} (form : Form) → Stopped Value plain r m m' k → Stopped Value form r m m' k
stopped_form form (no_target h) = no_target h
stopped_form {r} {k = k} form (broken a f h paid) = broken a f (breaks_form form r.segments r.levels a k h) paid
stopped_form form (claim_exceeds a f some object claims short paid named) = claim_exceeds a f some object claims short paid named
stopped_form form (count_exceeds a f meets short paid named) = count_exceeds a f meets short paid named

abbrev Outcome : Type 0 → Type 0
Outcome A = Result A ErrorKind × Meter

-- one place, pointers, elements
abbrev pub Agree : Form → Reading → Meter → Outcome Tree → Type 0
Agree form r m (Ok t, m') = Reads form r m m' t
Agree form r m (Err k, m') = Refused form r m m' k

abbrev pub AllAgree : Form → Reading → ℕ → Meter → Outcome Trees → Type 0
AllAgree form r i m (Ok ts, m') = (count ts ≡ i) × ReadsAll form r m m' ts
AllAgree form r i m (Err k, m') = RefusedAll form r i m m' k

abbrev ElementsAgree : Form → Reading → StructSize → ℕ → Meter → Outcome Elements → Type 0
ElementsAgree form r size n m (Ok es, m') = (element_count es ≡ n) × ReadsElements form r size m m' es
ElementsAgree form r size n m (Err k, m') = RefusedElements form r size n m m' k

-- the first child, and those after it
read_first : {form : Form} {r : Reading} {m m' m'' : Meter} {t : Tree} {ts : Trees} → Reads form r m m' t → ReadsAll form (place_past r 1) m' m'' ts → ReadsAll form r m m'' (tree t ts)
read_first one all =
    let paid = paid_both (paid_one one) (paid_all all) in
    record { cost = one.cost + all.cost; means = (one.cost, all.cost, one.means, all.means, refl); takes = λ e. omega (arith, one.takes e, all.takes e); covers = paid.covers; spent = paid.spent }

trees_agree : (form : Form) (f : Reading → Metered Tree) (r : Reading) → ((p : ℕ) (m : Meter) → Agree form (record r { at = p }) m (f (record r { at = p }) m)) → (i p : ℕ) (m : Meter) → AllAgree form (record r { at = p }) i m (read_values f i (record r { at = p }) m)
trees_agree form f r h zero p m = (refl, read_none form (record r { at = p }) m)
trees_agree form f r h (suc i) p m = go (f (record r { at = p }) m) (h p m) (λ m1. trees_agree form f r h i (p + 1) m1)
  where
    behind_first : (t : Tree) (m1 : Meter) → Reads form (record r { at = p }) m m1 t → (o : Outcome Trees) → AllAgree form (record r { at = p + 1 }) i m1 o → AllAgree form (record r { at = p }) (suc i) m (onward (λ ts. answer (tree t ts)) o)
    behind_first t m1 one (Ok ts, m2) all = (ap suc all.0, read_first one all.1)
    behind_first t m1 one (Err k, m2) all = record {
      first = tree t all.first;
      fewer = omega (arith, all.fewer);
      mid = all.mid;
      are_read = read_first one all.are_read;
      stops = subst (λ q. Refused form (record r { at = q }) all.mid m2 k) (let e : p + 1 + count all.first ≡ p + suc (count all.first) = omega arith in e) all.stops;
    }

    go : (o : Outcome Tree) → Agree form (record r { at = p }) m o → ((m1 : Meter) → AllAgree form (record r { at = p + 1 }) i m1 (read_values f i (record r { at = p + 1 }) m1)) →
        AllAgree form (record r { at = p }) (suc i) m (onward (λ t m1. onward (λ ts. answer (tree t ts)) (read_values f i (record r { at = p + 1 }) m1)) o)
    go (Ok t, m1) one rest = behind_first t m1 one (read_values f i (record r { at = p + 1 }) m1) (rest m1)
    go (Err k, m1) one rest = record { first = no_trees; fewer = omega arith; mid = m; are_read = read_none form (record r { at = p }) m; stops = subst (λ q. Refused form (record r { at = q }) m m1 k) (sym (add-zero p)) one }

-- the first element, and those after it
first_element : {form : Form} {r : Reading} {m m' m'' : Meter} {ts : Trees} {es : Elements} (size : StructSize) → r.at + size.data_words ≤ length (segment_read r) → count ts ≡ size.pointers → ReadsAll form (place_past r size.data_words) m m' ts →
    ReadsElements form (place_past r (size.data_words + size.pointers)) size m' m'' es → ReadsElements form r size m m'' (element (words_from r size.data_words) ts es)
first_element {r = r} {es = es} size fits len all rest =
    let paid = paid_both (paid_all all) (paid_elements rest) in
    let long : length (words_from r size.data_words) ≡ size.data_words = length_words r.segments r.segment r.at size.data_words fits in
    let others : MeansElements r.segments r.levels r.segment (r.at + size.data_words + size.pointers) size.data_words size.pointers es rest.cost = subst (λ p. MeansElements r.segments r.levels r.segment p size.data_words size.pointers es rest.cost) (let e : r.at + (size.data_words + size.pointers) ≡ r.at + size.data_words + size.pointers = omega arith in e) rest.means in
    record { cost = all.cost + rest.cost; means = (all.cost, rest.cost, long, len, rw long refl, all.means, others, refl); takes = λ e. omega (arith, all.takes e, rest.takes e); covers = paid.covers; spent = paid.spent }

no_elements_read : (form : Form) (r : Reading) (size : StructSize) (m : Meter) → ReadsElements form r size m m no_elements
no_elements_read form r size m = record { cost = 0; means = refl; takes = λ e. refl; covers = affords_none r.charging m; spent = sym (after_none r.charging m) }

elements_agree : (form : Form) (f : Reading → Metered Tree) (r : Reading) → ((p : ℕ) (m : Meter) → Agree form (record r { at = p }) m (f (record r { at = p }) m)) → (size : StructSize) (n p : ℕ) (m : Meter) → p + n * (size.data_words + size.pointers) ≤ length (segment_read r) →
    ElementsAgree form (record r { at = p }) size n m (read_element_values f size.data_words size.pointers n (record r { at = p }) m)
elements_agree form f r h size zero p m fits = (refl, no_elements_read form (record r { at = p }) size m)
elements_agree form f r h size (suc n) p m fits = go (read_values f q (record r { at = p + d }) m) (trees_agree form f r h q (p + d) m) (λ m1. elements_agree form f r h size n (p + (d + q)) m1 (omega (arith, fits)))
  where
    d : ℕ
    d = size.data_words

    q : ℕ
    q = size.pointers

    s : Reading
    s = record r { at = p }

    behind_first : (ts : Trees) (m1 : Meter) → count ts ≡ q → ReadsAll form (place_past s d) m m1 ts → (o : Outcome Elements) → ElementsAgree form (place_past s (d + q)) size n m1 o → ElementsAgree form s size (suc n) m (onward (λ es. answer (element (words_from s d) ts es)) o)
    behind_first ts m1 len all (Ok es, m2) rest = (ap suc rest.0, first_element size (omega (arith, fits)) len all rest.1)
    behind_first ts m1 len all (Err k, m2) rest = record {
      first = element (words_from s d) ts rest.first;
      fewer = omega (arith, rest.fewer);
      mid = rest.mid;
      are_read = first_element size (omega (arith, fits)) len all rest.are_read;
      stops = subst (λ x. RefusedAll form (record r { at = x }) q rest.mid m2 k) (let e : p + (d + q) + element_count rest.first * (d + q) + d ≡ p + suc (element_count rest.first) * (d + q) + d = omega arith in e) rest.stops;
    }

    go : (o : Outcome Trees) → AllAgree form (place_past s d) q m o → ((m1 : Meter) → ElementsAgree form (place_past s (d + q)) size n m1 (read_element_values f d q n (place_past s (d + q)) m1)) →
        ElementsAgree form s size (suc n) m (onward (λ ts m1. onward (λ es. answer (element (words_from s d) ts es)) (read_element_values f d q n (place_past s (d + q)) m1)) o)
    go (Ok ts, m1) one rest = behind_first ts m1 one.0 one.1 (read_element_values f d q n (place_past s (d + q)) m1) (rest m1)
    go (Err k, m1) one rest = record {
      first = no_elements;
      fewer = omega arith;
      mid = m;
      are_read = no_elements_read form s size m;
      stops = subst (λ x. RefusedAll form (record r { at = x }) q m m1 k) (let e : p + d ≡ p + 0 * (d + q) + d = omega arith in e) one;
    }

-- an object that is entered, by its kind
abbrev Below : Form → Reading → Type 0
Below form r = (t p : ℕ) (m : Meter) → Agree form (record r { levels = pred r.levels; segment = t; at = p }) m (value form (record r { levels = pred r.levels; segment = t; at = p }) m)

abbrev contents : Form → Reading → Shape → Metered Tree
contents form r o = object_value (value_within form (pred r.levels)) (λ s p. record r { levels = pred r.levels; segment = s; at = p }) o

struct_agrees : (form : Form) (r : Reading) (m m' : Meter) (a : Target) → Entered Value r m m' a → Below form r → kind a.word ≡ 0 → Agree form r m (contents form r (shape r.segments a) m')
struct_agrees form r m m' a o h k =
    let c : Reading = child_at r a (pred r.levels) (a.start + data_words a.word) in
    let is_struct : nat_eq (kind a.word) 0 ≡ true = eq-eqb _ _ k in
    rw is_struct (go (read_values (value_within form (pred r.levels)) (pointer_count a.word) c m') (trees_agree form (value_within form (pred r.levels)) c (λ p m1. h a.segment p m1) (pointer_count a.word) (a.start + data_words a.word) m'))
  where
    go : (x : Outcome Trees) → AllAgree form (child_at r a (pred r.levels) (a.start + data_words a.word)) (pointer_count a.word) m' x → Agree form r m (onward (λ ts. answer (Struct (words_from (child_at r a (pred r.levels) a.start) (data_words a.word)) ts)) x)
    go (Ok ts, m1) all = read_struct o k all.0 all.1
    go (Err e, m1) all = stops_struct o k all

pointers_agree : (form : Form) (r : Reading) (m m' : Meter) (a : Target) → Entered Value r m m' a → Below form r → kind a.word ≡ 1 → element_size a.word ≡ 6 → Agree form r m (contents form r (shape r.segments a) m')
pointers_agree form r m m' a o h k six =
    let c : Reading = child_at r a (pred r.levels) a.start in
    let list : nat_eq (kind a.word) 0 ≡ false = ne_eqb _ _ (λ e. omega (arith, e, k)) in
    let not_seven : nat_eq (element_size a.word) 7 ≡ false = ne_eqb _ _ (λ e. omega (arith, e, six)) in
    let is_six : nat_eq (element_size a.word) 6 ≡ true = eq-eqb _ _ six in
    rw (list, not_seven, is_six) (go (read_values (value_within form (pred r.levels)) (list_count a.word) c m') (trees_agree form (value_within form (pred r.levels)) c (λ p m1. h a.segment p m1) (list_count a.word) a.start m'))
  where
    go : (x : Outcome Trees) → AllAgree form (child_at r a (pred r.levels) a.start) (list_count a.word) m' x → Agree form r m (onward (λ ts. answer (Pointers ts)) x)
    go (Ok ts, m1) all = read_pointers o k six all.0 all.1
    go (Err e, m1) all = stops_pointers o k six all

structs_agree : (form : Form) (r : Reading) (m m' : Meter) (a : Target) → Entered Value r m m' a → Below form r → kind a.word ≡ 1 → element_size a.word ≡ 7 → Agree form r m (contents form r (shape r.segments a) m')
structs_agree form r m m' a o h k seven =
    let g : ℕ = tag r.segments a in
    let n : ℕ = offset_bits g in
    let size : StructSize = tag_size r.segments a in
    let c : Reading = child_at r a (pred r.levels) (a.start + 1) in
    let list : nat_eq (kind a.word) 0 ≡ false = ne_eqb _ _ (λ e. omega (arith, e, k)) in
    let is_seven : nat_eq (element_size a.word) 7 ≡ true = eq-eqb _ _ seven in
    let claims = o.meets.claims in
    let inside : c.at + n * (size.data_words + size.pointers) ≤ length (segment_read c) = omega (arith, claims, (o.meets.tagged (k, seven)).1, claim_list a.word 7 k seven) in
    rw (list, is_seven) (go (read_element_values (value_within form (pred r.levels)) size.data_words size.pointers n c m') (elements_agree form (value_within form (pred r.levels)) c (λ p m1. h a.segment p m1) size n (a.start + 1) m' inside))
  where
    go : (x : Outcome Elements) → ElementsAgree form (child_at r a (pred r.levels) (a.start + 1)) (tag_size r.segments a) (offset_bits (tag r.segments a)) m' x →
        Agree form r m (onward (λ es. answer (Structs (data_words (tag r.segments a)) (pointer_count (tag r.segments a)) es)) x)
    go (Ok es, m1) all = read_structs o k seven all.0 all.1
    go (Err e, m1) all = stops_structs o k seven all

flat_agrees : (form : Form) (r : Reading) (m m' : Meter) (a : Target) → Entered Value r m m' a → kind a.word ≡ 1 → element_size a.word ≤ 5 → Agree form r m (contents form r (shape r.segments a) m')
flat_agrees form r m m' a o k small =
    let list : nat_eq (kind a.word) 0 ≡ false = ne_eqb _ _ (λ e. omega (arith, e, k)) in
    let not_seven : nat_eq (element_size a.word) 7 ≡ false = ne_eqb _ _ (λ e. omega (arith, e, small)) in
    let not_six : nat_eq (element_size a.word) 6 ≡ false = ne_eqb _ _ (λ e. omega (arith, e, small)) in
    rw (list, not_seven, not_six) (read_flat o k small)

object_agrees : (form : Form) (r : Reading) (m m' : Meter) (a : Target) → Entered Value r m m' a → Below form r → Agree form r m (contents form r (shape r.segments a) m')
object_agrees form r m m' a o h = elim (same_or_not (kind a.word) 0) [
  | inl k ↦ struct_agrees form r m m' a o h k
  | inr other ↦
      let k : kind a.word ≡ 1 = let object = o.meets.is_object in omega (arith, object, other) in
      elim (within_or_not (element_size a.word) 5) [
        | inl small ↦ flat_agrees form r m m' a o k small
        | inr large ↦ elim (same_or_not (element_size a.word) 6) [
          | inl six ↦ pointers_agree form r m m' a o h k six
          | inr not_six ↦ structs_agree form r m m' a o h k (omega (arith, large, not_six))
        ]
      ]
]

-- the value of a place is that of what is read there, if the form permits it
pub value_is : (form : Form) (n : ℕ) (r : Reading) (m m' : Meter) (o : Shape) → read Value (record r { levels = n }) m ≡ (Ok o, m') → (0 < n) → value_within form n r m ≡ onward (object_value (value_within form (pred n)) (λ s p. record r { levels = pred n; segment = s; at = p })) (permit form o m')
unfolding value_within
value_is form zero r m m' o e some = absurd (omega arith)
value_is form (suc n) r m m' o e some = ap (onward _) (ap (onward (permit form)) e)

pub leaf_is : (form : Form) (n : ℕ) (r : Reading) (m m' : Meter) (o : Shape) (x : Outcome Tree) → read Value (record r { levels = n }) m ≡ (Ok o, m') → ((f : Reading → Metered Tree) (at : ℕ → ℕ → Reading) → onward (object_value f at) (permit form o m') ≡ x) → value_within form n r m ≡ x
unfolding value_within
leaf_is form zero r m m' o x e h = ap (onward _) (ap (onward (permit form)) e) ∙ h (λ s. answer Null) (λ s p. r)
leaf_is form (suc n) r m m' o x e h = ap (onward _) (ap (onward (permit form)) e) ∙ h (value_within form n) (λ s p. record r { levels = n; segment = s; at = p })

pub refusal_is : (form : Form) (n : ℕ) (r : Reading) (m m' : Meter) (k : ErrorKind) → read Value (record r { levels = n }) m ≡ (Err k, m') → value_within form n r m ≡ (Err k, m')
unfolding value_within
refusal_is form zero r m m' k e = ap (onward _) (ap (onward (permit form)) e)
refusal_is form (suc n) r m m' k e = ap (onward _) (ap (onward (permit form)) e)

pub permits : (form : Form) (S : Segments) (a : Target) (m : Meter) → permit form (shape S a) m ≡ (Ok (shape S a), m)
permits form S a m = go form (nat_eq (kind a.word) 0) (nat_eq (element_size a.word) 7) (nat_eq (element_size a.word) 6) refl refl refl
  where
    go : (form : Form) (b c d : Bool) → nat_eq (kind a.word) 0 ≡ b → nat_eq (element_size a.word) 7 ≡ c → nat_eq (element_size a.word) 6 ≡ d → permit form (shape S a) m ≡ (Ok (shape S a), m)
    go plain b c d e f g = refl
    go canonical true c d e f g = rw e refl
    go canonical false true d e f g = rw (e, f) refl
    go canonical false false true e f g = rw (e, f, g) refl
    go canonical false false false e f g = rw (e, f, g) refl
    go of_default true c d e f g = rw e refl
    go of_default false true d e f g = rw (e, f) refl
    go of_default false false true e f g = rw (e, f, g) refl
    go of_default false false false e f g = rw (e, f, g) refl

capability_agrees : (form : Form) (r : Reading) (m : Meter) (a : Target) → FollowsTo r a → a.word % 2 ^ 32 ≡ 3 → Affords r.charging m a.pads → (f : Reading → Metered Tree) (at : ℕ → ℕ → Reading) →
    Agree form r m (onward (object_value f at) (permit form (capability (upper_half a.word)) (after_charge r.charging m a.pads 1)))
capability_agrees plain r m a f low covered g at =
    record { cost = a.pads; means = (a, leads_there r a f (λ e. omega (arith, e, low)), (let e : a.word ≡ capability_word (upper_half a.word) = omega (arith, low) in e), refl); takes = λ e. absurd (e refl); covers = covered; spent = refl }
capability_agrees canonical r m a f low covered g at = here (broken a f (refl, low) (record { covers = subst (Affords r.charging m) (let e : a.pads ≡ a.pads + 0 = omega arith in e) covered; spent = ap (λ i. after_charge r.charging m i 1) (let e : a.pads ≡ a.pads + 0 = omega arith in e) }))
capability_agrees of_default r m a f low covered g at = here (broken a f ((let three : kind a.word ≡ 3 = omega (arith, low) in three), inr refl) (record { covers = subst (Affords r.charging m) (let e : a.pads ≡ a.pads + 0 = omega arith in e) covered; spent = ap (λ i. after_charge r.charging m i 1) (let e : a.pads ≡ a.pads + 0 = omega arith in e) }))

null_permitted : (form : Form) (m : Meter) (f : Reading → Metered Tree) (at : ℕ → ℕ → Reading) → onward (object_value f at) (permit form nothing m) ≡ (Ok Null, m)
null_permitted plain m f at = refl
null_permitted canonical m f at = refl
null_permitted of_default m f at = refl

capability_outcome : Form → Reading → Meter → Target → Outcome Tree
capability_outcome plain r m a = (Ok (Capability (upper_half a.word)), after_charge r.charging m a.pads 1)
capability_outcome canonical r m a = (Err CannotCreateACanonicalMessageWithACapability, after_charge r.charging m a.pads 1)
capability_outcome of_default r m a = (Err UnknownPointerType, after_charge r.charging m a.pads 1)

capability_permitted : (form : Form) (r : Reading) (m : Meter) (a : Target) (f : Reading → Metered Tree) (at : ℕ → ℕ → Reading) → onward (object_value f at) (permit form (capability (upper_half a.word)) (after_charge r.charging m a.pads 1)) ≡ capability_outcome form r m a
unfolding capability_outcome
capability_permitted plain r m a f at = refl
capability_permitted canonical r m a f at = refl
capability_permitted of_default r m a f at = refl

place_agrees : (form : Form) (r : Reading) (m : Meter) → (0 < r.levels → Below form r) → Agree form r m (value form r m)
place_agrees form r m h = elim (same_or_not (word_of r) 0) [
  | inl z ↦ rw (leaf_is form r.levels r m m nothing (Ok Null, m) (null_is Value r m z) (null_permitted form m)) (read_null m z)
  | inr some ↦ go (ends Value r m some)
]
  where
    go : Ends Value r m → Agree form r m (value form r m)
    go (at_capability a f low covered) =
        rw (leaf_is form r.levels r m (after_charge r.charging m a.pads 1) (capability (upper_half a.word)) (capability_outcome form r m a) (capability_is Value r a m (λ e. absurd (cc e)) f low covered) (capability_permitted form r m a))
        (rw (capability_permitted form r m a (λ s. answer Null) (λ s p. r)) at (capability_agrees form r m a f low covered (λ s. answer Null) (λ s p. r)))
    go (at_object a m' o) =
        rw (value_is form r.levels r m m' (shape r.segments a) (entering_is Value r m m' a o) o.meets.levels, permits form r.segments a m') (object_agrees form r m m' a o (h o.meets.levels))
    go (refused k m' stopped) =
        rw (refusal_is form r.levels r m m' k (stopped_is Value r m m' k (λ e. absurd (cc e)) stopped)) (here (stopped_form form stopped))

agrees : (form : Form) (n : ℕ) (r : Reading) (m : Meter) → r.levels ≡ n → Agree form r m (value form r m)
agrees form zero r m e = place_agrees form r m (λ some. absurd (omega (arith, some, e)))
agrees form (suc n) r m e = place_agrees form r m (λ some t p m1. agrees form n (record r { levels = pred r.levels; segment = t; at = p }) m1 (omega (arith, e)))

-- at every place
pub value_agrees : (form : Form) (r : Reading) (m : Meter) → Agree form r m (value form r m)
value_agrees form r m = agrees form r.levels r m refl
