-- A canonical copy outgrows its room exactly where the function `fit` is refused for room: what that
-- returns, the relations state.
use Rattle.std.proofs.Common.{◌≡◌, ◌⊎◌, inl, inr, ℕ, zero, suc, pred, ◌+◌, ◌*◌, ◌<◌, ◌≤◌, true, false, nat_eq, nat_le, Result, Ok, Err, length, refl, sym, ap, ◌∙◌, subst, arith, eq-eqb, le-leb, add-zero}
use Rattle.std.specs.Bool.{⊤}
use Rattle.std.proofs.lemmas.Bool.{ne_eqb, cases_lt}
use Rattle.capnp_words.specs.declared.error.ErrorKind.{ErrorKind}
use Rattle.capnp_words.specs.declared.error.ErrorKind.TheVariants.{CannotCreateACanonicalMessageWithACapability, MessageTooLarge}
use Rattle.capnp_words.specs.declared.wire_pointer.StructSize.{StructSize}
use Rattle.capnp_words.specs.Meter.{Meter, Affords}
use Rattle.capnp_format.specs.Word.{kind, data_words, pointer_count, element_size, list_count, offset_bits, upper_half}
use Rattle.capnp_format.specs.Segments.{Segments, Target}
use Rattle.capnp_format.specs.Tree.{Tree, Null, Trees, no_trees, tree, Elements, no_elements, element, count, element_count}
use Rattle.capnp_format.specs.Means.{MeansElements}
use Rattle.capnp_format.proofs.Slices.{length_words}
use Rattle.capnp_pointers.specs.declared.object.Purpose.TheVariants.{Value}
use Rattle.capnp_pointers.specs.Demands.{own_charge, tag}
use Rattle.capnp_pointers.specs.Enter.{Shape, nothing, capability, struct, flat, pointers, structs, shape, read}
use Rattle.capnp_pointers.specs.Faults.{child_at}
use Rattle.capnp_pointers.specs.Measure.{fold_children, fold_elements, fold_pointers}
use Rattle.capnp_pointers.specs.Metered.{Metered, onward}
use Rattle.capnp_pointers.specs.Outcomes.{Entered, Reads, ReadsAll, ReadsElements}
use Rattle.capnp_pointers.specs.Reading.{Reading, word_of, place_past, pointers_of, segment_read, words_from, tag_size}
use Rattle.capnp_pointers.specs.Refusals.{Stopped, broken, StopsWithin, here}
use Rattle.capnp_pointers.specs.Spending.{after_charge}
use Rattle.capnp_pointers.specs.Values.{permit}
use Rattle.capnp_pointers.specs.Wanted.{canonical, FollowsTo}
use Rattle.capnp_pointers.proofs.Budget.PaidAndLeft.{paid_both, paid_all, paid_elements, affords_none, after_none}
use Rattle.capnp_pointers.proofs.OneObject.ReadAsStated.{capability_is, entering_is, stopped_is}
use Rattle.capnp_pointers.proofs.WholeValue.ChildrenRead.{read_none}
use Rattle.capnp_pointers.proofs.Decided.{same_or_not, within_or_not}
use Rattle.capnp_pointers.proofs.OneObject.ReadInOneWay.{Ends, at_capability, at_object, refused, ends}
use Rattle.capnp_pointers.proofs.WholeValue.ObjectsRead.{read_null, read_struct, read_flat, read_pointers, read_structs}
use Rattle.capnp_pointers.proofs.OneObject.PartsMeant.{claim_list}
use Rattle.capnp_pointers.proofs.WholeValue.UnreadableIfRefused.{stops_struct, stops_pointers, stops_structs}
use Rattle.capnp_pointers.proofs.WholeValue.ValueAgrees.{permits, stopped_form}
use Rattle.capnp_copies.specs.Changes.{IsMadeOf, as_struct, as_numbers, as_pointers, as_structs}
use Rattle.capnp_copies.specs.Costs.{spent_until}
use Rattle.capnp_messages.proofs.EndValueLemmas.{read_first}
use Rattle.capnp_messages.specs.Fitting.{fit_object, fit_within, made_words}
use Rattle.capnp_copies.proofs.NoRoom.{WantsWords}

-- Within the levels of r.
abbrev pub fit : ℕ → Reading → ℕ → Metered ℕ
fit room r = fit_within room r.levels r

abbrev pub Outcome : Type 0
Outcome = Result ℕ ErrorKind × Meter

-- A reading stops at an object that satisfies P, and C holds for the words charged before it: the
-- reading of a value, of consecutive pointers, of elements.
abbrev pub Stop : Type 1
Stop = Reading → Meter → Meter → Type 0

pub record StopsAt (P : Stop) (C : ℕ → Type 0) (r : Reading) (m m' : Meter) : Type 0 where
  pub stops : StopsWithin canonical P r m m'
  pub spends : C (spent_until stops).words

pub record AllStopAt (P : Stop) (C : ℕ → Type 0) (r : Reading) (i : ℕ) (m m' : Meter) : Type 0 where
  pub first : Trees
  pub fewer : count first < i
  pub mid : Meter
  pub are_read : ReadsAll canonical r m mid first
  pub child : StopsAt P (λ s. C (are_read.cost + s)) (place_past r (count first)) mid m'

pub record ElementsStopAt (P : Stop) (C : ℕ → Type 0) (r : Reading) (size : StructSize) (i : ℕ) (m m' : Meter) : Type 0 where
  pub first : Elements
  pub fewer : element_count first < i
  pub mid : Meter
  pub are_read : ReadsElements canonical r size m mid first
  pub row : AllStopAt P (λ s. C (are_read.cost + s)) (pointers_of r size (element_count first)) size.pointers mid m'

weaker : {P : Stop} {C D : ℕ → Type 0} {r : Reading} {m m' : Meter} → ((s : ℕ) → C s → D s) → StopsAt P C r m m' → StopsAt P D r m m'
weaker h x = record { stops = x.stops; spends = h _ x.spends }

all_weaker : {P : Stop} {C D : ℕ → Type 0} {r : Reading} {i : ℕ} {m m' : Meter} → ((s : ℕ) → C s → D s) → AllStopAt P C r i m m' → AllStopAt P D r i m m'
all_weaker h x = record { first = x.first; fewer = x.fewer; mid = x.mid; are_read = x.are_read; child = weaker (λ s y. h (x.are_read.cost + s) y) x.child }

-- Such a reading is refused with k at an object, or comes to one that doesn't fit, and k says so.
abbrev pub Halts : ((P : Stop) → (ℕ → Type 0) → Type 0) → ℕ → ℕ → ErrorKind → Type 0
Halts S room z k = S (λ s i j. Stopped Value canonical s i j k) (λ s. ⊤) ⊎ ((k ≡ MessageTooLarge room) × ((n : ℕ) × S (WantsWords canonical n) (λ s. room < z + (s + n))))

halts_so : {S T : (P : Stop) → (ℕ → Type 0) → Type 0} {k : ErrorKind} (room z y c : ℕ) → y ≡ z + c →
    ((P : Stop) (C D : ℕ → Type 0) → ((s : ℕ) → C s → D (c + s)) → S P C → T P D) → Halts S room y k → Halts T room z k
halts_so room z y c e g (inl h) = inl (g _ _ _ (λ s x. tt) h)
halts_so room z y c e g (inr (named, (n, h))) = inr (named, (n, g _ (λ s. room < y + (s + n)) (λ s. room < z + (s + n)) (λ s x. omega (arith, x, e)) h))

-- What the function returns: the sum with the charge of the value, or why it halts.
abbrev pub Fits : ℕ → ℕ → Reading → Meter → Outcome → Type 0
Fits room z r m (Ok y, m') = (t : Tree) × (x : Reads canonical r m m' t) × (y ≡ z + x.cost)
Fits room z r m (Err k, m') = Halts (λ P C. StopsAt P C r m m') room z k

abbrev pub AllFit : ℕ → ℕ → Reading → ℕ → Meter → Outcome → Type 0
AllFit room z r i m (Ok y, m') = (ts : Trees) × (count ts ≡ i) × (x : ReadsAll canonical r m m' ts) × (y ≡ z + x.cost)
AllFit room z r i m (Err k, m') = Halts (λ P C. AllStopAt P C r i m m') room z k

abbrev ElementsFit : ℕ → ℕ → Reading → StructSize → ℕ → Meter → Outcome → Type 0
ElementsFit room z r size n m (Ok y, m') = (es : Elements) × (element_count es ≡ n) × (x : ReadsElements canonical r size m m' es) × (y ≡ z + x.cost)
ElementsFit room z r size n m (Err k, m') = Halts (λ P C. ElementsStopAt P C r size n m m') room z k

first_stops : {P : Stop} {C D : ℕ → Type 0} {r : Reading} {i : ℕ} {m m' : Meter} → ((s : ℕ) → C s → D (0 + s)) → StopsAt P C r m m' → AllStopAt P D r (suc i) m m'
unfolding read_none
first_stops {P} {C} {D} {r} {i} {m} {m'} h x = record {
  first = no_trees;
  fewer = omega arith;
  mid = m;
  are_read = read_none canonical r m;
  child = subst (λ q. StopsAt P (λ s. D (0 + s)) (record r { at = q }) m m') (sym (add-zero r.at)) (weaker h x);
}

later_stops : {P : Stop} {C D : ℕ → Type 0} {r : Reading} {i : ℕ} {m m1 m' : Meter} {t : Tree} (one : Reads canonical r m m1 t) → ((s : ℕ) → C s → D (one.cost + s)) → AllStopAt P C (place_past r 1) i m1 m' → AllStopAt P D r (suc i) m m'
later_stops {P} {C} {D} {r} {m' = m'} {t} one h x = record {
  first = tree t x.first;
  fewer = omega (arith, x.fewer);
  mid = x.mid;
  are_read = read_first one x.are_read;
  child =
      subst (λ q. StopsAt P (λ s. D (one.cost + x.are_read.cost + s)) (record r { at = q }) x.mid m') (let e : r.at + 1 + count x.first ≡ r.at + suc (count x.first) = omega arith in e)
      (weaker (λ s y. subst D (let e : one.cost + (x.are_read.cost + s) ≡ one.cost + x.are_read.cost + s = omega arith in e) (h (x.are_read.cost + s) y)) x.child);
}

-- f returns what is stated, for each pointer of r's segment
abbrev pub EachFits : ℕ → (Reading → ℕ → Metered ℕ) → Reading → Type 0
EachFits room f r = (p z : ℕ) (m : Meter) → Fits room z (record r { at = p }) m (f (record r { at = p }) z m)

pub trees_fit : (room : ℕ) (f : Reading → ℕ → Metered ℕ) (r : Reading) → EachFits room f r → (i p z : ℕ) (m : Meter) → AllFit room z (record r { at = p }) i m (fold_pointers f i (record r { at = p }) z m)
unfolding read_none
trees_fit room f r h zero p z m = (no_trees, refl, read_none canonical (record r { at = p }) m, sym (add-zero z))
trees_fit room f r h (suc i) p z m = go (f (record r { at = p }) z m) (h p z m) (λ y m1. trees_fit room f r h i (p + 1) y m1)
  where
    behind_first : (t : Tree) (y : ℕ) (m1 : Meter) (one : Reads canonical (record r { at = p }) m m1 t) → y ≡ z + one.cost → (o : Outcome) → AllFit room y (record r { at = p + 1 }) i m1 o → AllFit room z (record r { at = p }) (suc i) m o
    behind_first t y m1 one e (Ok y', m2) (ts, len, all, e') = (tree t ts, ap suc len, read_first one all, omega (arith, e, e'))
    behind_first t y m1 one e (Err k, m2) halts = halts_so {S = λ P C. AllStopAt P C (record r { at = p + 1 }) i m1 m2} {T = λ P C. AllStopAt P C (record r { at = p }) (suc i) m m2} room z y one.cost e (λ P C D h x. later_stops one h x) halts

    go : (o : Outcome) → Fits room z (record r { at = p }) m o → ((y : ℕ) (m1 : Meter) → AllFit room y (record r { at = p + 1 }) i m1 (fold_pointers f i (record r { at = p + 1 }) y m1)) →
        AllFit room z (record r { at = p }) (suc i) m (onward (fold_pointers f i (record r { at = p + 1 })) o)
    go (Ok y, m1) (t, one, e) rest = behind_first t y m1 one e (fold_pointers f i (record r { at = p + 1 }) y m1) (rest y m1)
    go (Err k, m1) halts rest = halts_so {S = λ P C. StopsAt P C (record r { at = p }) m m1} {T = λ P C. AllStopAt P C (record r { at = p }) (suc i) m m1} room z z 0 (sym (add-zero z)) (λ P C D h x. first_stops h x) halts

-- The first element, and those after it.
abbrev first_element : {r : Reading} {m m' m'' : Meter} {ts : Trees} {es : Elements} (size : StructSize) → r.at + size.data_words ≤ length (segment_read r) → count ts ≡ size.pointers → ReadsAll canonical (place_past r size.data_words) m m' ts →
    ReadsElements canonical (place_past r (size.data_words + size.pointers)) size m' m'' es → ReadsElements canonical r size m m'' (element (words_from r size.data_words) ts es)
first_element {r = r} {es = es} size fits len all rest =
    let paid = paid_both (paid_all all) (paid_elements rest) in
    let long : length (words_from r size.data_words) ≡ size.data_words = length_words r.segments r.segment r.at size.data_words fits in
    let others : MeansElements r.segments r.levels r.segment (r.at + size.data_words + size.pointers) size.data_words size.pointers es rest.cost = subst (λ p. MeansElements r.segments r.levels r.segment p size.data_words size.pointers es rest.cost) (let e : r.at + (size.data_words + size.pointers) ≡ r.at + size.data_words + size.pointers = omega arith in e) rest.means in
    record { cost = all.cost + rest.cost; means = (all.cost, rest.cost, long, len, rw long refl, all.means, others, refl); takes = λ e. omega (arith, all.takes e, rest.takes e); covers = paid.covers; spent = paid.spent }

abbrev no_elements_read : (r : Reading) (size : StructSize) (m : Meter) → ReadsElements canonical r size m m no_elements
no_elements_read r size m = record { cost = 0; means = refl; takes = λ e. refl; covers = affords_none r.charging m; spent = sym (after_none r.charging m) }

first_row_stops : {P : Stop} {C D : ℕ → Type 0} {r : Reading} (size : StructSize) {n : ℕ} {m m' : Meter} → ((s : ℕ) → C s → D (0 + s)) → AllStopAt P C (place_past r size.data_words) size.pointers m m' → ElementsStopAt P D r size (suc n) m m'
first_row_stops {P} {C} {D} {r} size {n} {m} {m'} h x = record {
  first = no_elements;
  fewer = omega arith;
  mid = m;
  are_read = no_elements_read r size m;
  row = subst (λ q. AllStopAt P (λ s. D (0 + s)) (record r { at = q }) size.pointers m m') (let e : r.at + size.data_words ≡ r.at + 0 * (size.data_words + size.pointers) + size.data_words = omega arith in e) (all_weaker h x);
}

later_row_stops : {P : Stop} {C D : ℕ → Type 0} {r : Reading} (size : StructSize) {n : ℕ} {m m1 m' : Meter} {ts : Trees} → r.at + size.data_words ≤ length (segment_read r) → count ts ≡ size.pointers → (all : ReadsAll canonical (place_past r size.data_words) m m1 ts) →
    ((s : ℕ) → C s → D (all.cost + s)) → ElementsStopAt P C (place_past r (size.data_words + size.pointers)) size n m1 m' → ElementsStopAt P D r size (suc n) m m'
later_row_stops {P} {C} {D} {r} size {n} {m' = m'} {ts} fits len all h x =
    let d : ℕ = size.data_words in
    let q : ℕ = size.pointers in
    record {
      first = element (words_from r d) ts x.first;
      fewer = omega (arith, x.fewer);
      mid = x.mid;
      are_read = first_element size fits len all x.are_read;
      row =
          subst (λ at. AllStopAt P (λ s. D (all.cost + x.are_read.cost + s)) (record r { at = at }) q x.mid m') (let e : r.at + (d + q) + element_count x.first * (d + q) + d ≡ r.at + suc (element_count x.first) * (d + q) + d = omega arith in e)
          (all_weaker (λ s y. subst D (let e : all.cost + (x.are_read.cost + s) ≡ all.cost + x.are_read.cost + s = omega arith in e) (h (x.are_read.cost + s) y)) x.row);
    }

elements_fit : (room : ℕ) (f : Reading → ℕ → Metered ℕ) (r : Reading) → EachFits room f r → (size : StructSize) (n p z : ℕ) (m : Meter) → p + n * (size.data_words + size.pointers) ≤ length (segment_read r) →
    ElementsFit room z (record r { at = p }) size n m (fold_elements f size.data_words size.pointers n (record r { at = p }) z m)
elements_fit room f r h size zero p z m fits = (no_elements, refl, no_elements_read (record r { at = p }) size m, sym (add-zero z))
elements_fit room f r h size (suc n) p z m fits = go (fold_pointers f q (record r { at = p + d }) z m) (trees_fit room f r h q (p + d) z m) (λ y m1. elements_fit room f r h size n (p + (d + q)) y m1 (omega (arith, fits)))
  where
    d : ℕ
    d = size.data_words

    q : ℕ
    q = size.pointers

    s : Reading
    s = record r { at = p }

    room_for_words : p + d ≤ length (segment_read r)
    room_for_words = omega (arith, fits)

    behind_first : (ts : Trees) (y : ℕ) (m1 : Meter) → count ts ≡ q → (all : ReadsAll canonical (place_past s d) m m1 ts) → y ≡ z + all.cost → (o : Outcome) → ElementsFit room y (place_past s (d + q)) size n m1 o → ElementsFit room z s size (suc n) m o
    behind_first ts y m1 len all e (Ok y', m2) (es, more, rest, e') = (element (words_from s d) ts es, ap suc more, first_element size room_for_words len all rest, omega (arith, e, e'))
    behind_first ts y m1 len all e (Err k, m2) halts = halts_so {S = λ P C. ElementsStopAt P C (place_past s (d + q)) size n m1 m2} {T = λ P C. ElementsStopAt P C s size (suc n) m m2} room z y all.cost e (λ P C D h x. later_row_stops size room_for_words len all h x) halts

    go : (o : Outcome) → AllFit room z (place_past s d) q m o → ((y : ℕ) (m1 : Meter) → ElementsFit room y (place_past s (d + q)) size n m1 (fold_elements f d q n (place_past s (d + q)) y m1)) →
        ElementsFit room z s size (suc n) m (onward (fold_elements f d q n (place_past s (d + q))) o)
    go (Ok y, m1) (ts, len, all, e) rest = behind_first ts y m1 len all e (fold_elements f d q n (place_past s (d + q)) y m1) (rest y m1)
    go (Err k, m1) halts rest = halts_so {S = λ P C. AllStopAt P C (place_past s d) q m m1} {T = λ P C. ElementsStopAt P C s size (suc n) m m1} room z z 0 (sym (add-zero z)) (λ P C D h x. first_row_stops size h x) halts

-- An object that is entered, by its kind.
abbrev Below : ℕ → Reading → Type 0
Below room r = (t : ℕ) → EachFits room (fit_within room (pred r.levels)) (record r { levels = pred r.levels; segment = t })

abbrev contents : ℕ → Reading → Shape → ℕ → Metered ℕ
contents room r o = fold_children (fit_within room (pred r.levels)) (record r { levels = pred r.levels }) o

struct_stops : {P : Stop} {C D : ℕ → Type 0} {r : Reading} {m m1 m' : Meter} {a : Target} → Entered Value r m m1 a → kind a.word ≡ 0 → ((s : ℕ) → C s → D (own_charge Value r.segments a + s)) →
    AllStopAt P C (child_at r a (pred r.levels) (a.start + data_words a.word)) (pointer_count a.word) m1 m' → StopsAt P D r m m'
unfolding stops_struct
struct_stops o k h x = record { stops = stops_struct o k (record { first = x.first; fewer = x.fewer; mid = x.mid; are_read = x.are_read; stops = x.child.stops }); spends = h _ x.child.spends }

pointers_stop : {P : Stop} {C D : ℕ → Type 0} {r : Reading} {m m1 m' : Meter} {a : Target} → Entered Value r m m1 a → kind a.word ≡ 1 → element_size a.word ≡ 6 → ((s : ℕ) → C s → D (own_charge Value r.segments a + s)) →
    AllStopAt P C (child_at r a (pred r.levels) a.start) (list_count a.word) m1 m' → StopsAt P D r m m'
unfolding stops_pointers
pointers_stop o k six h x = record { stops = stops_pointers o k six (record { first = x.first; fewer = x.fewer; mid = x.mid; are_read = x.are_read; stops = x.child.stops }); spends = h _ x.child.spends }

structs_stop : {P : Stop} {C D : ℕ → Type 0} {r : Reading} {m m1 m' : Meter} {a : Target} → Entered Value r m m1 a → kind a.word ≡ 1 → element_size a.word ≡ 7 → ((s : ℕ) → C s → D (own_charge Value r.segments a + s)) →
    ElementsStopAt P C (child_at r a (pred r.levels) (a.start + 1)) (tag_size r.segments a) (offset_bits (tag r.segments a)) m1 m' → StopsAt P D r m m'
unfolding stops_structs
structs_stop {D = D} {r} {a = a} o k seven h x =
    record {
      stops = stops_structs o k seven (record { first = x.first; fewer = x.fewer; mid = x.mid; are_read = x.are_read; stops = record { first = x.row.first; fewer = x.row.fewer; mid = x.row.mid; are_read = x.row.are_read; stops = x.row.child.stops } });
      spends =
          let rest : ℕ = (spent_until x.row.child.stops).words in
          subst D (let e : own_charge Value r.segments a + (x.are_read.cost + (x.row.are_read.cost + rest)) ≡ own_charge Value r.segments a + (x.are_read.cost + x.row.are_read.cost + rest) = omega arith in e) (h _ x.row.child.spends);
    }

struct_fits : (room : ℕ) (r : Reading) (z y : ℕ) (m m' : Meter) (a : Target) → y ≡ z + own_charge Value r.segments a → Entered Value r m m' a → Below room r → kind a.word ≡ 0 → Fits room z r m (contents room r (shape r.segments a) y m')
unfolding read_struct
struct_fits room r z y m m' a is o h k =
    let c : Reading = child_at r a (pred r.levels) (a.start + data_words a.word) in
    let is_struct : nat_eq (kind a.word) 0 ≡ true = eq-eqb _ _ k in
    rw is_struct (go (fold_pointers (fit_within room (pred r.levels)) (pointer_count a.word) c y m') (trees_fit room (fit_within room (pred r.levels)) c (h a.segment) (pointer_count a.word) (a.start + data_words a.word) y m'))
  where
    go : (x : Outcome) → AllFit room y (child_at r a (pred r.levels) (a.start + data_words a.word)) (pointer_count a.word) m' x → Fits room z r m x
    go (Ok w, m1) (ts, len, all, e) = (_, read_struct o k len all, omega (arith, e, is))
    go (Err e, m1) halts = halts_so {S = λ P C. AllStopAt P C (child_at r a (pred r.levels) (a.start + data_words a.word)) (pointer_count a.word) m' m1} {T = λ P C. StopsAt P C r m m1} room z y (own_charge Value r.segments a) is (λ P C D h x. struct_stops o k h x) halts

pointers_fit : (room : ℕ) (r : Reading) (z y : ℕ) (m m' : Meter) (a : Target) → y ≡ z + own_charge Value r.segments a → Entered Value r m m' a → Below room r → kind a.word ≡ 1 → element_size a.word ≡ 6 → Fits room z r m (contents room r (shape r.segments a) y m')
unfolding read_pointers
pointers_fit room r z y m m' a is o h k six =
    let c : Reading = child_at r a (pred r.levels) a.start in
    let list : nat_eq (kind a.word) 0 ≡ false = ne_eqb _ _ (λ e. omega (arith, e, k)) in
    let not_seven : nat_eq (element_size a.word) 7 ≡ false = ne_eqb _ _ (λ e. omega (arith, e, six)) in
    let is_six : nat_eq (element_size a.word) 6 ≡ true = eq-eqb _ _ six in
    rw (list, not_seven, is_six) (go (fold_pointers (fit_within room (pred r.levels)) (list_count a.word) c y m') (trees_fit room (fit_within room (pred r.levels)) c (h a.segment) (list_count a.word) a.start y m'))
  where
    go : (x : Outcome) → AllFit room y (child_at r a (pred r.levels) a.start) (list_count a.word) m' x → Fits room z r m x
    go (Ok w, m1) (ts, len, all, e) = (_, read_pointers o k six len all, omega (arith, e, is))
    go (Err e, m1) halts = halts_so {S = λ P C. AllStopAt P C (child_at r a (pred r.levels) a.start) (list_count a.word) m' m1} {T = λ P C. StopsAt P C r m m1} room z y (own_charge Value r.segments a) is (λ P C D h x. pointers_stop o k six h x) halts

structs_fit : (room : ℕ) (r : Reading) (z y : ℕ) (m m' : Meter) (a : Target) → y ≡ z + own_charge Value r.segments a → Entered Value r m m' a → Below room r → kind a.word ≡ 1 → element_size a.word ≡ 7 → Fits room z r m (contents room r (shape r.segments a) y m')
unfolding read_structs
structs_fit room r z y m m' a is o h k seven =
    let n : ℕ = offset_bits (tag r.segments a) in
    let size : StructSize = tag_size r.segments a in
    let c : Reading = child_at r a (pred r.levels) (a.start + 1) in
    let list : nat_eq (kind a.word) 0 ≡ false = ne_eqb _ _ (λ e. omega (arith, e, k)) in
    let is_seven : nat_eq (element_size a.word) 7 ≡ true = eq-eqb _ _ seven in
    let claims = o.meets.claims in
    let inside : c.at + n * (size.data_words + size.pointers) ≤ length (segment_read c) = omega (arith, claims, (o.meets.tagged (k, seven)).1, claim_list a.word 7 k seven) in
    rw (list, is_seven) (go (fold_elements (fit_within room (pred r.levels)) size.data_words size.pointers n c y m') (elements_fit room (fit_within room (pred r.levels)) c (h a.segment) size n (a.start + 1) y m' inside))
  where
    go : (x : Outcome) → ElementsFit room y (child_at r a (pred r.levels) (a.start + 1)) (tag_size r.segments a) (offset_bits (tag r.segments a)) m' x → Fits room z r m x
    go (Ok w, m1) (es, len, all, e) = (_, read_structs o k seven len all, omega (arith, e, is))
    go (Err e, m1) halts = halts_so {S = λ P C. ElementsStopAt P C (child_at r a (pred r.levels) (a.start + 1)) (tag_size r.segments a) (offset_bits (tag r.segments a)) m' m1} {T = λ P C. StopsAt P C r m m1} room z y (own_charge Value r.segments a) is (λ P C D h x. structs_stop o k seven h x) halts

flat_fits : (room : ℕ) (r : Reading) (z y : ℕ) (m m' : Meter) (a : Target) → y ≡ z + own_charge Value r.segments a → Entered Value r m m' a → kind a.word ≡ 1 → element_size a.word ≤ 5 → Fits room z r m (contents room r (shape r.segments a) y m')
unfolding read_flat
flat_fits room r z y m m' a is o k small =
    let list : nat_eq (kind a.word) 0 ≡ false = ne_eqb _ _ (λ e. omega (arith, e, k)) in
    let not_seven : nat_eq (element_size a.word) 7 ≡ false = ne_eqb _ _ (λ e. omega (arith, e, small)) in
    let not_six : nat_eq (element_size a.word) 6 ≡ false = ne_eqb _ _ (λ e. omega (arith, e, small)) in
    rw (list, not_seven, not_six) (_, read_flat o k small, is)

-- The kinds of objects.
pub data Kind (w : ℕ) : Type 0 where
  a_struct : kind w ≡ 0 → Kind w
  numbers : kind w ≡ 1 → element_size w ≤ 5 → Kind w
  list_of_pointers : kind w ≡ 1 → element_size w ≡ 6 → Kind w
  list_of_structs : kind w ≡ 1 → element_size w ≡ 7 → Kind w

kind_of : (w : ℕ) → kind w < 2 → Kind w
kind_of w object = elim (same_or_not (kind w) 0) [
  | inl k ↦ a_struct k
  | inr other ↦
      let k : kind w ≡ 1 = omega (arith, object, other) in
      elim (within_or_not (element_size w) 5) [
        | inl small ↦ numbers k small
        | inr large ↦ elim (same_or_not (element_size w) 6) [
          | inl six ↦ list_of_pointers k six
          | inr not_six ↦ list_of_structs k (omega (arith, large, not_six))
        ]
      ]
]

object_fits : (room : ℕ) (r : Reading) (z : ℕ) (m m' : Meter) (a : Target) → Entered Value r m m' a → Below room r → Fits room z r m (contents room r (shape r.segments a) (z + own_charge Value r.segments a) m')
object_fits room r z m m' a o h = elim (kind_of a.word o.meets.is_object) [
  | a_struct k ↦ struct_fits room r z (z + own_charge Value r.segments a) m m' a refl o h k
  | numbers k small ↦ flat_fits room r z (z + own_charge Value r.segments a) m m' a refl o k small
  | list_of_pointers k six ↦ pointers_fit room r z (z + own_charge Value r.segments a) m m' a refl o h k six
  | list_of_structs k seven ↦ structs_fit room r z (z + own_charge Value r.segments a) m m' a refl o h k seven
]

-- The words of an object's copy, by its shape.
pub made_is : (r : Reading) (a : Target) → kind a.word < 2 → IsMadeOf canonical r a (made_words r.segments (shape r.segments a))
made_is r a object = elim (kind_of a.word object) [
  | a_struct k ↦ (let is_struct : nat_eq (kind a.word) 0 ≡ true = eq-eqb _ _ k in as_struct k (rw is_struct refl))
  | numbers k small ↦ (
      let list : nat_eq (kind a.word) 0 ≡ false = ne_eqb _ _ (λ e. omega (arith, e, k)) in
      let not_seven : nat_eq (element_size a.word) 7 ≡ false = ne_eqb _ _ (λ e. omega (arith, e, small)) in
      let not_six : nat_eq (element_size a.word) 6 ≡ false = ne_eqb _ _ (λ e. omega (arith, e, small)) in
      as_numbers k small (rw (list, not_seven, not_six) refl)
      )
  | list_of_pointers k six ↦ (
      let list : nat_eq (kind a.word) 0 ≡ false = ne_eqb _ _ (λ e. omega (arith, e, k)) in
      let not_seven : nat_eq (element_size a.word) 7 ≡ false = ne_eqb _ _ (λ e. omega (arith, e, six)) in
      let is_six : nat_eq (element_size a.word) 6 ≡ true = eq-eqb _ _ six in
      as_pointers k six (rw (list, not_seven, is_six) refl)
      )
  | list_of_structs k seven ↦ (
      let list : nat_eq (kind a.word) 0 ≡ false = ne_eqb _ _ (λ e. omega (arith, e, k)) in
      let is_seven : nat_eq (element_size a.word) 7 ≡ true = eq-eqb _ _ seven in
      as_structs (k, seven) (rw (list, is_seven) refl)
      )
]

-- and it has no other number of words
pub one_number : (r : Reading) (a : Target) (n i : ℕ) → IsMadeOf canonical r a n → IsMadeOf canonical r a i → n ≡ i
one_number r a n i (as_struct k e) (as_struct l f) = e ∙ sym f
one_number r a n i (as_struct k e) (as_numbers l small f) = absurd (omega (arith, k, l))
one_number r a n i (as_struct k e) (as_pointers l six f) = absurd (omega (arith, k, l))
one_number r a n i (as_struct k e) (as_structs (l, seven) f) = absurd (omega (arith, k, l))
one_number r a n i (as_numbers k small e) (as_struct l f) = absurd (omega (arith, k, l))
one_number r a n i (as_numbers k small e) (as_numbers l other f) = e ∙ sym f
one_number r a n i (as_numbers k small e) (as_pointers l six f) = absurd (omega (arith, small, six))
one_number r a n i (as_numbers k small e) (as_structs (l, seven) f) = absurd (omega (arith, small, seven))
one_number r a n i (as_pointers k six e) (as_struct l f) = absurd (omega (arith, k, l))
one_number r a n i (as_pointers k six e) (as_numbers l small f) = absurd (omega (arith, small, six))
one_number r a n i (as_pointers k six e) (as_pointers l other f) = e ∙ sym f
one_number r a n i (as_pointers k six e) (as_structs (l, seven) f) = absurd (omega (arith, six, seven))
one_number r a n i (as_structs (k, seven) e) (as_struct l f) = absurd (omega (arith, k, l))
one_number r a n i (as_structs (k, seven) e) (as_numbers l small f) = absurd (omega (arith, small, seven))
one_number r a n i (as_structs (k, seven) e) (as_pointers l six f) = absurd (omega (arith, six, seven))
one_number r a n i (as_structs (k, seven) e) (as_structs (l, other) f) = e ∙ sym f

-- The function, a step at a time: an object that is read, with or without room for it.
at_level : (room n : ℕ) (r : Reading) (z : ℕ) (m m' : Meter) (o : Shape) → 0 < n → read Value (record r { levels = n }) m ≡ (Ok o, m') → permit canonical o m' ≡ (Ok o, m') →
    fit_within room n r z m ≡ onward (fold_children (fit_within room (pred n)) (record r { levels = pred n }) o) (fit_object room r o z m')
unfolding fit_within
at_level room zero r z m m' o some e p = absurd (omega arith)
at_level room (suc n) r z m m' o some e p = ap (onward _) (ap (onward (permit canonical)) e ∙ p)

-- an object has a shape
shape_some : (S : Segments) (a : Target) → kind a.word < 2 → shape S a ≡ nothing → ⊥
shape_some S a object h = elim (kind_of a.word object) [
  | a_struct k ↦ (let is_struct : nat_eq (kind a.word) 0 ≡ true = eq-eqb _ _ k in let e = rw is_struct at h in absurd (cc e))
  | numbers k small ↦ (
      let list : nat_eq (kind a.word) 0 ≡ false = ne_eqb _ _ (λ e. omega (arith, e, k)) in
      let not_seven : nat_eq (element_size a.word) 7 ≡ false = ne_eqb _ _ (λ e. omega (arith, e, small)) in
      let not_six : nat_eq (element_size a.word) 6 ≡ false = ne_eqb _ _ (λ e. omega (arith, e, small)) in
      let e = rw (list, not_seven, not_six) at h in
      absurd (cc e)
      )
  | list_of_pointers k six ↦ (
      let list : nat_eq (kind a.word) 0 ≡ false = ne_eqb _ _ (λ e. omega (arith, e, k)) in
      let not_seven : nat_eq (element_size a.word) 7 ≡ false = ne_eqb _ _ (λ e. omega (arith, e, six)) in
      let is_six : nat_eq (element_size a.word) 6 ≡ true = eq-eqb _ _ six in
      let e = rw (list, not_seven, is_six) at h in
      absurd (cc e)
      )
  | list_of_structs k seven ↦ (
      let list : nat_eq (kind a.word) 0 ≡ false = ne_eqb _ _ (λ e. omega (arith, e, k)) in
      let is_seven : nat_eq (element_size a.word) 7 ≡ true = eq-eqb _ _ seven in
      let e = rw (list, is_seven) at h in
      absurd (cc e)
      )
]

beyond : (x room : ℕ) → room < x → nat_le x room ≡ false
beyond x room more = grind (arith, more)

added : (room : ℕ) (r : Reading) (z : ℕ) (m : Meter) (a : Target) (o : Shape) → FollowsTo r a → (o ≡ nothing → ⊥) → nat_le (z + made_words r.segments o) room ≡ true → fit_object room r o z m ≡ (Ok (z + own_charge Value r.segments a), m)
added room r z m a nothing f some short = absurd (some refl)
added room r z m a (capability i) f some short = rw (f.1, short) refl
added room r z m a (struct s p d q) f some short = rw (f.1, short) refl
added room r z m a (flat s p size n) f some short = rw (f.1, short) refl
added room r z m a (pointers s p n) f some short = rw (f.1, short) refl
added room r z m a (structs s p d q n) f some short = rw (f.1, short) refl

too_large : (room : ℕ) (r : Reading) (z : ℕ) (m : Meter) (o : Shape) → (o ≡ nothing → ⊥) → nat_le (z + made_words r.segments o) room ≡ false → fit_object room r o z m ≡ (Err (MessageTooLarge room), m)
too_large room r z m nothing some long = absurd (some refl)
too_large room r z m (capability i) some long = rw long refl
too_large room r z m (struct s p d q) some long = rw long refl
too_large room r z m (flat s p size n) some long = rw long refl
too_large room r z m (pointers s p n) some long = rw long refl
too_large room r z m (structs s p d q n) some long = rw long refl

-- An object that is entered fits, or it doesn't.
pub entered_fits : (room : ℕ) (r : Reading) (z : ℕ) (m m' : Meter) (a : Target) → Entered Value r m m' a → z + made_words r.segments (shape r.segments a) ≤ room → fit room r z m ≡ contents room r (shape r.segments a) (z + own_charge Value r.segments a) m'
entered_fits room r z m m' a o short =
    let fits : nat_le (z + made_words r.segments (shape r.segments a)) room ≡ true = le-leb _ _ short in
    at_level room r.levels r z m m' (shape r.segments a) o.meets.levels (entering_is Value r m m' a o) (permits canonical r.segments a m')
    ∙ ap (onward (contents room r (shape r.segments a))) (added room r z m' a (shape r.segments a) o.follows (shape_some r.segments a o.meets.is_object) fits)

pub entered_outgrows : (room : ℕ) (r : Reading) (z : ℕ) (m m' : Meter) (a : Target) → Entered Value r m m' a → room < z + made_words r.segments (shape r.segments a) → fit room r z m ≡ (Err (MessageTooLarge room), m')
entered_outgrows room r z m m' a o long =
    let over : nat_le (z + made_words r.segments (shape r.segments a)) room ≡ false = beyond _ room long in
    at_level room r.levels r z m m' (shape r.segments a) o.meets.levels (entering_is Value r m m' a o) (permits canonical r.segments a m')
    ∙ ap (onward (contents room r (shape r.segments a))) (too_large room r z m' (shape r.segments a) (shape_some r.segments a o.meets.is_object) over)

null_fits : (room n : ℕ) (r : Reading) (z : ℕ) (m : Meter) → word_of r ≡ 0 → fit_within room n r z m ≡ (Ok z, m)
unfolding fit_within
null_fits room zero r z m none = rw none refl
null_fits room (suc n) r z m none = rw none refl

refusal_fits : (room n : ℕ) (r : Reading) (z : ℕ) (m m' : Meter) (k : ErrorKind) → read Value (record r { levels = n }) m ≡ (Err k, m') → fit_within room n r z m ≡ (Err k, m')
unfolding fit_within
refusal_fits room zero r z m m' k e = ap (onward _) (ap (onward (permit canonical)) e)
refusal_fits room (suc n) r z m m' k e = ap (onward _) (ap (onward (permit canonical)) e)

capability_fits : (room n : ℕ) (r : Reading) (z : ℕ) (m m' : Meter) (i : ℕ) → read Value (record r { levels = n }) m ≡ (Ok (capability i), m') → fit_within room n r z m ≡ (Err CannotCreateACanonicalMessageWithACapability, m')
unfolding fit_within
capability_fits room zero r z m m' i e = ap (onward _) (ap (onward (permit canonical)) e)
capability_fits room (suc n) r z m m' i e = ap (onward _) (ap (onward (permit canonical)) e)

-- So the function agrees with the relations at each place.
place_fits : (room : ℕ) (r : Reading) (z : ℕ) (m : Meter) → (0 < r.levels → Below room r) → Fits room z r m (fit room r z m)
unfolding read_null
place_fits room r z m h = elim (same_or_not (word_of r) 0) [
  | inl none ↦ rw (null_fits room r.levels r z m none) (null_agrees none)
  | inr some ↦ go (ends Value r m some)
]
  where
    null_agrees : word_of r ≡ 0 → Fits room z r m (Ok z, m)
    null_agrees none = (Null, read_null m none, sym (add-zero z))

    go : Ends Value r m → Fits room z r m (fit room r z m)
    go (at_capability a f low covered) =
        rw (capability_fits room r.levels r z m (after_charge r.charging m a.pads 1) (upper_half a.word) (capability_is Value r a m (λ e. absurd (cc e)) f low covered))
        (inl (record {
          stops = here (broken a f (refl, low) (record { covers = subst (Affords r.charging m) (let e : a.pads ≡ a.pads + 0 = omega arith in e) covered; spent = ap (λ i. after_charge r.charging m i 1) (let e : a.pads ≡ a.pads + 0 = omega arith in e) }));
          spends = tt;
        }))
    go (at_object a m' o) = elim (cases_lt room (z + made_words r.segments (shape r.segments a))) [
      | inl long ↦ rw (entered_outgrows room r z m m' a o long) (inr (refl, (made_words r.segments (shape r.segments a), record { stops = here (a, o, made_is r a o.meets.is_object); spends = omega (arith, long) })))
      | inr short ↦ rw (entered_fits room r z m m' a o short) (object_fits room r z m m' a o (h o.meets.levels))
    ]
    go (refused k m' stopped) =
        rw (refusal_fits room r.levels r z m m' k (stopped_is Value r m m' k (λ e. absurd (cc e)) stopped)) (inl (record { stops = here (stopped_form canonical stopped); spends = tt }))

agrees : (room n : ℕ) (r : Reading) (z : ℕ) (m : Meter) → r.levels ≡ n → Fits room z r m (fit room r z m)
agrees room zero r z m e = place_fits room r z m (λ some. absurd (omega (arith, some, e)))
agrees room (suc n) r z m e = place_fits room r z m (λ some t p y m1. agrees room n (record r { levels = pred r.levels; segment = t; at = p }) y m1 (omega (arith, e)))

pub fits : (room : ℕ) (r : Reading) (z : ℕ) (m : Meter) → Fits room z r m (fit room r z m)
fits room r z m = agrees room r.levels r z m refl
