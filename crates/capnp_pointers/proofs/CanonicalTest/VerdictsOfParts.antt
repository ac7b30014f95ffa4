-- What a verdict of the test means: the canonical words that it has found, or that there are none.
use Rattle.std.proofs.Common.{◌≡◌, ◌≢◌, ◌↔◌, ◌⊎◌, inl, inr, ℕ, zero, suc, ◌+◌, ◌*◌, ◌-◌, ◌≤◌, ◌||◌, Bool, true, false, not, IsTrue, nat_eq, max, length, Ok, Err, refl, sym, ap, ◌∙◌, subst, arith, eq-eqb}
use Rattle.std.proofs.lemmas.Bool.{false≢true, ne_eqb}
use Rattle.capnp_words.specs.declared.wire_pointer.StructSize.{StructSize}
use Rattle.capnp_words.specs.Meter.{Meter}
use Rattle.capnp_format.specs.Segments.{segment, words_at}
use Rattle.capnp_format.specs.Tree.{Tree, Trees, no_trees, tree, Elements, no_elements, element, count, element_count}
use Rattle.capnp_format.specs.Canonical.{word_count, word_count_all, used_words, used_trees, data_width, pointer_width}
use Rattle.capnp_format.proofs.LawLemmas.{one_stands}
use Rattle.capnp_format.proofs.Slices.{length_words}
use Rattle.capnp_format.proofs.Trimming.{used_words-le, used_trees-le}
use Rattle.capnp_pointers.specs.Metered.{onward}
use Rattle.capnp_pointers.specs.Reading.{Reading, place_past, segment_read, words_from}
use Rattle.capnp_pointers.proofs.Budget.PaidAndLeft.{paid_both}
use Rattle.capnp_pointers.proofs.Decided.{same_or_not}
use Rattle.capnp_pointers.specs.Checking.{AreFound, progress, Progress, Finds, FindsAll, IsFound, IsCanonicalAt, AreCanonicalAt}
use Rattle.capnp_pointers.specs.Measure.{fold_elements, fold_pointers}
use Rattle.capnp_pointers.specs.Standing.{HasBodiesAt}
use Rattle.capnp_pointers.proofs.CanonicalForm.ElementsStand.{ElementsStand}
use Rattle.capnp_pointers.specs.Testing.{TestStep, elements_tested, is_used, pointers_tested, rows_tested, some_used, unless_fault}
use Rattle.capnp_pointers.proofs.CanonicalTest.FoundBySteps.{FindsElements, AreFoundRows, finds_none, finds_no_element}
use Rattle.capnp_pointers.proofs.CanonicalForm.CanonicalIfAccepted.{used_where_standing}
use Rattle.capnp_pointers.proofs.CanonicalForm.AcceptedExactly.{ElementsAccept, reached, widths_fail, widths_within}
use Rattle.capnp_pointers.proofs.CanonicalForm.OneMore.{one_row}
use Rattle.capnp_pointers.proofs.CanonicalTest.ReadsAsReading.{Outcome}
use Rattle.capnp_pointers.proofs.CanonicalTest.TestedBySteps.{faults_stay, fault_rows_stay, rows_halt, rows_pass, rows_wide, rows_wide_in_pointers}
use Rattle.capnp_pointers.proofs.CanonicalForm.UsedWords.{ends_used, used_ends}

-- What the outcome of a test means: for a place, for i pointers, and for n elements.
abbrev pub Says : Reading → ℕ → Meter → Outcome → Type 0
Says r h m (Ok (Ok e), m') = IsFound r (progress h m) (progress e m')
Says r h m (Ok (Err f), m') = IsCanonicalAt r h → ⊥
Says r h m (Err k, m') = Unit {0}

abbrev pub AllSay : Reading → ℕ → ℕ → Meter → Outcome → Type 0
AllSay r i h m (Ok (Ok e), m') = AreFound r i (progress h m) (progress e m')
AllSay r i h m (Ok (Err f), m') = AreCanonicalAt r i h → ⊥
AllSay r i h m (Err k, m') = Unit {0}

abbrev pub RowsSay : Reading → StructSize → ℕ → ℕ → Meter → Outcome → Type 0
RowsSay r size n h m (Ok (Ok e), m') = (es : Elements) × (element_count es ≡ n) × FindsElements r size (progress h m) (progress e m') es
RowsSay r size n h m (Ok (Err f), m') = (es : Elements) → element_count es ≡ n → ElementsStand r.segments r.segment r.at size.data_words size.pointers h es → ⊥
RowsSay r size n h m (Err k, m') = Unit {0}

-- The first pointer, and those after it.
pub finds_first : {r : Reading} {from mid to : Progress} {t : Tree} {ts : Trees} → Finds r from mid t → FindsAll (place_past r 1) mid to ts → FindsAll r from to (tree t ts)
finds_first {r} {ts = ts} one all = record {
  stand = (one.stands, subst (λ h. HasBodiesAt r.segments r.segment (r.at + 1) h ts) one.head_is all.stand);
  levels = omega (arith, one.levels, all.levels);
  paid = paid_both one.paid all.paid;
  head_is = omega (arith, one.head_is, all.head_is);
}

pub pointers_say : (f : Reading → TestStep) (r : Reading) → ((p h : ℕ) (m : Meter) → Says (record r { at = p }) h m (f (record r { at = p }) h m)) → (i p h : ℕ) (m : Meter) → AllSay (record r { at = p }) i h m (pointers_tested f i (record r { at = p }) h m)
pointers_say f r say zero p h m = (no_trees, refl, finds_none (record r { at = p }) (progress h m))
pointers_say f r say (suc i) p h m = go (f (record r { at = p }) h m) (say p h m) (λ e m1. pointers_say f r say i (p + 1) e m1)
  where
    s : Reading
    s = record r { at = p }

    behind_first : (e : ℕ) (m1 : Meter) (t : Tree) → Finds s (progress h m) (progress e m1) t → (x : Outcome) → AllSay (place_past s 1) i e m1 x → AllSay s (suc i) h m x
    behind_first e m1 t one (Ok (Ok e2), m2) (ts, len, all) = (tree t ts, ap suc len, finds_first one all)
    behind_first e m1 t one (Ok (Err fault), m2) never = λ (us, len, stand). after us len stand
      where
        after : (us : Trees) → count us ≡ suc i → HasBodiesAt s.segments s.segment s.at h us → ⊥
        after no_trees len stand = absurd (omega (arith, len))
        after (tree u us) len (stands, stand) =
            let same : t ≡ u = one_stands s.segments s.segment s.at h t u one.stands stands in
            never (us, omega (arith, len), subst (λ x. HasBodiesAt s.segments s.segment (p + 1) x us) (ap (λ v. h + word_count v) (sym same) ∙ sym one.head_is) stand)
    behind_first e m1 t one (Err k, m2) says = tt

    go : (x : Outcome) → Says s h m x → ((e : ℕ) (m1 : Meter) → AllSay (place_past s 1) i e m1 (pointers_tested f i (place_past s 1) e m1)) → AllSay s (suc i) h m (onward (fold_pointers (λ v. unless_fault (f v)) i (place_past s 1)) x)
    go (Ok (Ok e), m1) (t, one) rest = behind_first e m1 t one (pointers_tested f i (place_past s 1) e m1) (rest e m1)
    go (Ok (Err fault), m1) never rest = subst (AllSay s (suc i) h m) (sym (faults_stay f i (place_past s 1) fault m1)) (λ (us, len, stand). none us len stand)
      where
        none : (us : Trees) → count us ≡ suc i → HasBodiesAt s.segments s.segment s.at h us → ⊥
        none no_trees len stand = absurd (omega (arith, len))
        none (tree u us) len (stands, stand) = never (u, stands)
    go (Err k, m1) says rest = tt

-- The first element, and those after it.
pub finds_first_element : {r : Reading} {from mid to : Progress} {ts : Trees} {es : Elements} (size : StructSize) → r.at + size.data_words ≤ length (segment_read r) → count ts ≡ size.pointers → FindsAll (place_past r size.data_words) from mid ts →
    FindsElements (place_past r (size.data_words + size.pointers)) size mid to es → FindsElements r size from to (element (words_from r size.data_words) ts es)
finds_first_element {r} {from} {mid} {to} {ts} {es} size fits len all rest =
    let d : ℕ = size.data_words in
    let q : ℕ = size.pointers in
    let long : length (words_from r d) ≡ d = length_words r.segments r.segment r.at d fits in
    record {
      stand = (
        long,
        len,
        rw long refl,
        all.stand,
        subst (λ p. ElementsStand r.segments r.segment p d q (from.head + word_count_all ts) es) (let e : r.at + (d + q) ≡ r.at + d + q = omega arith in e)
            (subst (λ h. ElementsStand r.segments r.segment (r.at + (d + q)) d q h es) all.head_is rest.stand),
      );
      levels = omega (arith, all.levels, rest.levels);
      paid = paid_both all.paid rest.paid;
      head_is = omega (arith, all.head_is, rest.head_is);
    }

pub rows_say : (f : Reading → TestStep) (r : Reading) → ((p h : ℕ) (m : Meter) → Says (record r { at = p }) h m (f (record r { at = p }) h m)) → (size : StructSize) (n p h : ℕ) (m : Meter) → p + n * (size.data_words + size.pointers) ≤ length (segment_read r) →
    RowsSay (record r { at = p }) size n h m (elements_tested f size.data_words size.pointers n (record r { at = p }) h m)
rows_say f r say size zero p h m fits = (no_elements, refl, finds_no_element (record r { at = p }) size (progress h m))
rows_say f r say size (suc n) p h m fits = go (pointers_tested f q (record r { at = p + d }) h m) (pointers_say f r say q (p + d) h m) (λ e m1. rows_say f r say size n (p + (d + q)) e m1 (omega (arith, fits)))
  where
    d : ℕ
    d = size.data_words

    q : ℕ
    q = size.pointers

    s : Reading
    s = record r { at = p }

    behind_first : (e : ℕ) (m1 : Meter) (ts : Trees) → count ts ≡ q → FindsAll (place_past s d) (progress h m) (progress e m1) ts → (x : Outcome) → RowsSay (place_past s (d + q)) size n e m1 x → RowsSay s size (suc n) h m x
    behind_first e m1 ts len all (Ok (Ok e2), m2) (es, many, rest) = (element (words_from s d) ts es, ap suc many, finds_first_element size (omega (arith, fits)) len all rest)
    behind_first e m1 ts len all (Ok (Err fault), m2) never = after
      where
        after : (fs : Elements) → element_count fs ≡ suc n → ElementsStand s.segments s.segment s.at d q h fs → ⊥
        after no_elements many stand = absurd (omega (arith, many))
        after (element ws us fs) many stand =
            let same : ts ≡ us = one_row s.segments s.segment (p + d) h ts us all.stand stand.3 (len ∙ sym stand.1) in
            never fs (omega (arith, many))
            (subst (λ x. ElementsStand s.segments s.segment x d q e fs) (let there : p + d + q ≡ p + (d + q) = omega arith in there)
            (subst (λ x. ElementsStand s.segments s.segment (p + d + q) d q x fs) (ap (λ vs. h + word_count_all vs) (sym same) ∙ sym all.head_is) stand.4))
    behind_first e m1 ts len all (Err k, m2) says = tt

    go : (x : Outcome) → AllSay (place_past s d) q h m x → ((e : ℕ) (m1 : Meter) → RowsSay (place_past s (d + q)) size n e m1 (elements_tested f d q n (place_past s (d + q)) e m1)) →
        RowsSay s size (suc n) h m (onward (fold_elements (λ v. unless_fault (f v)) d q n (place_past s (d + q))) x)
    go (Ok (Ok e), m1) (ts, len, all) rest = behind_first e m1 ts len all (elements_tested f d q n (place_past s (d + q)) e m1) (rest e m1)
    go (Ok (Err fault), m1) never rest = subst (RowsSay s size (suc n) h m) (sym (fault_rows_stay f d q n (place_past s (d + q)) fault m1)) none
      where
        none : (fs : Elements) → element_count fs ≡ suc n → ElementsStand s.segments s.segment s.at d q h fs → ⊥
        none no_elements many stand = absurd (omega (arith, many))
        none (element ws us fs) many stand = never (us, stand.1, stand.3)
    go (Err k, m1) says rest = tt

-- A section that is used.
pub used_test : (n x : ℕ) → IsTrue (nat_eq n 0 || not (nat_eq x 0)) ↔ ((n ≡ 0) ⊎ (x ≢ 0))
used_test n x = elim (same_or_not n 0) [
  | inl none ↦ rw (eq-eqb _ _ none) ((λ t. inl none), (λ e. refl))
  | inr some ↦ elim (same_or_not x 0) [
    | inl zero_word ↦ rw (ne_eqb _ _ some, eq-eqb _ _ zero_word) ((λ t. absurd (false≢true t)), (λ e. elim e [ inl none ↦ absurd (some none) | inr other ↦ absurd (other zero_word) ]))
    | inr other ↦ rw (ne_eqb _ _ some, ne_eqb _ _ other) ((λ t. inr other), (λ e. refl))
  ]
]

-- Some elements use their whole data sections, or their whole pointer sections, exactly if that is
-- their width.
or_first : (b u y : Bool) → (b ≡ true → u ≡ true) → IsTrue (b || (u || y)) ↔ (IsTrue u ⊎ IsTrue (b || y))
or_first true u y h = ((λ t. inl (h refl)), (λ e. refl))
or_first false true y h = ((λ t. inl refl), (λ e. refl))
or_first false false y h = ((λ t. inr t), (λ e. elim e [ inl wrong ↦ absurd (false≢true wrong) | inr t ↦ t ]))

used_if_none : (n x : ℕ) → nat_eq n 0 ≡ true → (nat_eq n 0 || not (nat_eq x 0)) ≡ true
used_if_none n x e = rw e refl

wider : {U Y : Type 0} (a b d x : ℕ) → a ≤ d → b ≤ d → x ≡ max a b → (U ↔ (a ≡ d)) → (Y ↔ (b ≡ d)) → (U ⊎ Y) ↔ (x ≡ d)
wider a b d x l m e f g = (
  (λ y. e ∙ (reached a b d l m).1 (elim y [
    | inl u ↦ inl (f.0 u)
    | inr v ↦ inr (g.0 v)
  ])),
  (λ y. elim ((reached a b d l m).0 (sym e ∙ y)) [
    | inl p ↦ inl (f.1 p)
    | inr p ↦ inr (g.1 p)
  ]),
)

through : {P Q R : Type 0} → (P ↔ Q) → (Q ↔ R) → P ↔ R
through f g = ((λ p. g.0 (f.0 p)), (λ r. f.1 (g.1 r)))

none_reach : (d : ℕ) → IsTrue (nat_eq d 0 || false) ↔ (0 ≡ d)
none_reach d = elim (same_or_not d 0) [
  | inl e ↦ rw (eq-eqb _ _ e) ((λ t. sym e), (λ z. refl))
  | inr other ↦ rw (ne_eqb _ _ other) ((λ t. absurd (false≢true t)), (λ z. absurd (other (sym z))))
]

pub data_used : (r : Reading) (size : StructSize) (es : Elements) (p h : ℕ) → p + element_count es * (size.data_words + size.pointers) ≤ length (segment_read r) → ElementsStand r.segments r.segment p size.data_words size.pointers h es →
    IsTrue (nat_eq size.data_words 0 || some_used (record r { at = p }) size.data_words (size.data_words + size.pointers) (element_count es)) ↔ (data_width es ≡ size.data_words)
data_used r size no_elements p h fits stand = none_reach size.data_words
data_used r size (element ws ts es) p h fits (long, len, words, all, rest) =
    let d : ℕ = size.data_words in
    let q : ℕ = size.pointers in
    let s : Reading = record r { at = p } in
    let room : p + d ≤ length (segment_read r) = omega (arith, fits) in
    let same : words_at r.segments r.segment p d ≡ ws = ap (words_at r.segments r.segment p) (sym long) ∙ words in
    let next : ElementsStand r.segments r.segment (p + (d + q)) d q (h + word_count_all ts) es = subst (λ x. ElementsStand r.segments r.segment x d q (h + word_count_all ts) es) (let e : p + d + q ≡ p + (d + q) = omega arith in e) rest in
    through (or_first (nat_eq d 0) (is_used s d) (some_used (place_past s (d + q)) d (d + q) (element_count es)) (used_if_none d _))
    (wider (used_words ws) (data_width es) d (data_width (element ws ts es)) (omega (arith, used_words-le ws, long)) (widths_within r.segments r.segment (p + (d + q)) d q (h + word_count_all ts) es next).0 refl
    (through (used_test d _) ((λ e. ap used_words (sym same) ∙ ends_used r.segments r.segment p d room e), (λ e. used_ends r.segments r.segment p d room (ap used_words same ∙ e))))
    (data_used r size es (p + (d + q)) (h + word_count_all ts) (omega (arith, fits)) next))

pub pointers_used : (r : Reading) (size : StructSize) (es : Elements) (p h : ℕ) → p + element_count es * (size.data_words + size.pointers) ≤ length (segment_read r) → ElementsStand r.segments r.segment p size.data_words size.pointers h es →
    IsTrue (nat_eq size.pointers 0 || some_used (record r { at = p + size.data_words }) size.pointers (size.data_words + size.pointers) (element_count es)) ↔ (pointer_width es ≡ size.pointers)
pointers_used r size no_elements p h fits stand = none_reach size.pointers
pointers_used r size (element ws ts es) p h fits (long, len, words, all, rest) =
    let d : ℕ = size.data_words in
    let q : ℕ = size.pointers in
    let s : Reading = record r { at = p + d } in
    let room : p + d + q ≤ length (segment_read r) = omega (arith, fits) in
    let used : used_words (words_at r.segments r.segment (p + d) q) ≡ used_trees ts = ap (λ n. used_words (words_at r.segments r.segment (p + d) n)) (sym len) ∙ used_where_standing r.segments r.segment (p + d) h ts (omega (arith, room, len)) all in
    let next : ElementsStand r.segments r.segment (p + (d + q)) d q (h + word_count_all ts) es = subst (λ x. ElementsStand r.segments r.segment x d q (h + word_count_all ts) es) (let e : p + d + q ≡ p + (d + q) = omega arith in e) rest in
    let after : IsTrue (nat_eq q 0 || some_used (place_past s (d + q)) q (d + q) (element_count es)) ↔ (pointer_width es ≡ q) =
    subst (λ x. IsTrue (nat_eq q 0 || some_used (record r { at = x }) q (d + q) (element_count es)) ↔ (pointer_width es ≡ q)) (let e : p + (d + q) + d ≡ p + d + (d + q) = omega arith in e)
    (pointers_used r size es (p + (d + q)) (h + word_count_all ts) (omega (arith, fits)) next) in
    through (or_first (nat_eq q 0) (is_used s q) (some_used (place_past s (d + q)) q (d + q) (element_count es)) (used_if_none q _))
    (wider (used_trees ts) (pointer_width es) q (pointer_width (element ws ts es)) (omega (arith, used_trees-le ts, len)) (widths_within r.segments r.segment (p + (d + q)) d q (h + word_count_all ts) es next).1 refl
    (through (used_test q _) ((λ e. sym used ∙ ends_used r.segments r.segment (p + d) q room e), (λ e. used_ends r.segments r.segment (p + d) q room (used ∙ e))))
    after)

-- Elements, once their pointers are tested: none of them is wider than needed.
abbrev pub EachSays : Reading → StructSize → ℕ → ℕ → Meter → Outcome → Type 0
EachSays r size n h m (Ok (Ok e), m') = AreFoundRows r size n (progress h m) (progress e m')
EachSays r size n h m (Ok (Err f), m') = ElementsAccept r.segments r.segment r.at size.data_words size.pointers h n → ⊥
EachSays r size n h m (Err k, m') = Unit {0}

pub each_says : (f : Reading → TestStep) (r : Reading) (size : StructSize) (n : ℕ) (m : Meter) → r.at + n * (size.data_words + size.pointers) ≤ length (segment_read r) → (x : Outcome) → elements_tested f size.data_words size.pointers n r (r.at + n * (size.data_words + size.pointers)) m ≡ x →
    RowsSay r size n (r.at + n * (size.data_words + size.pointers)) m x → EachSays r size n (r.at + n * (size.data_words + size.pointers)) m (rows_tested f size.data_words size.pointers n r m)
each_says f r size n m fits (Err k, m') is says = subst (EachSays r size n _ m) (sym (rows_halt f size.data_words size.pointers n r m m' (Err k) is)) says
each_says f r size n m fits (Ok (Err fault), m') is never =
    subst (EachSays r size n _ m) (sym (rows_halt f size.data_words size.pointers n r m m' (Ok fault) is)) (λ (es, many, dw, pw, stand). never es many stand)
each_says f r size n m fits (Ok (Ok e), m') is (es, many, finds) = go (nat_eq d 0 || some_used r d (d + q) n) (nat_eq q 0 || some_used (place_past r d) q (d + q) n) refl refl
  where
    d : ℕ
    d = size.data_words

    q : ℕ
    q = size.pointers

    room : r.at + element_count es * (d + q) ≤ length (segment_read r)
    room = subst (λ i. r.at + i * (d + q) ≤ length (segment_read r)) (sym many) fits

    data_is : IsTrue (nat_eq d 0 || some_used r d (d + q) n) ↔ (data_width es ≡ d)
    data_is = subst (λ i. IsTrue (nat_eq d 0 || some_used r d (d + q) i) ↔ (data_width es ≡ d)) many (data_used r size es r.at (r.at + n * (d + q)) room finds.stand)

    pointers_are : IsTrue (nat_eq q 0 || some_used (place_past r d) q (d + q) n) ↔ (pointer_width es ≡ q)
    pointers_are = subst (λ i. IsTrue (nat_eq q 0 || some_used (place_past r d) q (d + q) i) ↔ (pointer_width es ≡ q)) many (pointers_used r size es r.at (r.at + n * (d + q)) room finds.stand)

    unfit : ((data_width es ≡ d) × (pointer_width es ≡ q) → ⊥) → ElementsAccept r.segments r.segment r.at d q (r.at + n * (d + q)) n → ⊥
    unfit fails = widths_fail r.segments r.segment r.at d q (r.at + n * (d + q)) n es finds.stand many fails

    go : (b c : Bool) → (nat_eq d 0 || some_used r d (d + q) n) ≡ b → (nat_eq q 0 || some_used (place_past r d) q (d + q) n) ≡ c → EachSays r size n (r.at + n * (d + q)) m (rows_tested f d q n r m)
    go false c b_is c_is = subst (EachSays r size n _ m) (sym (rows_wide f d q n e r m m' is b_is)) (unfit (λ (wide, many_pointers). false≢true (sym b_is ∙ data_is.1 wide)))
    go true false b_is c_is = subst (EachSays r size n _ m) (sym (rows_wide_in_pointers f d q n e r m m' is b_is c_is)) (unfit (λ (wide, many_pointers). false≢true (sym c_is ∙ pointers_are.1 many_pointers)))
    go true true b_is c_is = subst (EachSays r size n _ m) (sym (rows_pass f d q n e r m m' is b_is c_is)) (es, many, data_is.0 b_is, pointers_are.0 c_is, finds)
