-- Children that are read one after another, and where the reading stops. Lemmas on `Means` name all
-- its arguments: it is defined by recursion on the value, so the checker can't find any of them
-- from a premise.
use Rattle.std.proofs.Common.{◌≡◌, ℕ, suc, ◌+◌, ◌*◌, ◌<◌, ◌≤◌, Bool, List, length, refl, sym, ap, ◌∙◌, subst, arith}
use Rattle.capnp_words.specs.declared.error.ErrorKind.{ErrorKind}
use Rattle.capnp_format.specs.Segments.{segment, words_at, HasWords}
use Rattle.capnp_format.specs.Tree.{Tree, Trees, no_trees, tree, Elements, no_elements, element, count, element_count, capabilities, capabilities_all, capabilities_elements}
use Rattle.capnp_format.specs.Means.{Means, MeansAll}
use Rattle.capnp_words.specs.Meter.{Meter}
use Rattle.capnp_pointers.specs.Spending.{Paid, after_charge, pointers_in, pointers_in_all, pointers_in_elements}
use Rattle.capnp_pointers.specs.Outcomes.{MeansThere, Reads, ReadsAll, ReadsElements}
use Rattle.capnp_pointers.proofs.WholeValue.Unreadable.{Unreadable, UnreadableAll, UnreadableElements, Spends}
use Rattle.capnp_pointers.specs.Wanted.{Form}
use Rattle.capnp_pointers.specs.Reading.{Reading, place_past, pointers_of}
use Rattle.capnp_words.specs.declared.wire_pointer.StructSize.{StructSize}
use Rattle.capnp_format.proofs.Levels.{one_value}
use Rattle.capnp_format.proofs.Children.{with_last, means_more}
use Rattle.capnp_format.proofs.Slices.{length_words}
use Rattle.capnp_pointers.proofs.Budget.PaidAndLeft.{one_element_more, after_none, affords_rest, affords_none, paid_both, paid_one, paid_all, paid_elements, pointers_within_all, pointers_within_elements}
use Rattle.capnp_pointers.proofs.WholeValue.Shorthands.{MeanThere, ElementsMean}

pub capabilities-with_last : (ts : Trees) (u : Tree) → capabilities_all (with_last ts u) ≡ capabilities_all ts + capabilities u
capabilities-with_last no_trees u = omega arith
capabilities-with_last (tree t ts) u = omega (arith, capabilities-with_last ts u)

pub pointers_in-with_last : (ts : Trees) (u : Tree) → pointers_in_all (with_last ts u) ≡ pointers_in_all ts + pointers_in u
pointers_in-with_last no_trees u = omega arith
pointers_in-with_last (tree t ts) u = omega (arith, pointers_in-with_last ts u)

-- no child is read yet
unfoldable pub read_none : (form : Form) (r : Reading) (m : Meter) → ReadsAll form r m m no_trees
read_none form r m = record { cost = 0; means = refl; takes = λ e. refl; covers = affords_none r.charging m; spent = sym (after_none r.charging m) }

-- one child more is read
unfoldable pub read_more : {form : Form} {r : Reading} {m m' m'' : Meter} {ts : Trees} {u : Tree} → ReadsAll form r m m' ts → Reads form (place_past r (count ts)) m' m'' u → ReadsAll form r m m'' (with_last ts u)
read_more {form} {r} {m} {m'} {m''} {ts} {u} all one = record {
  cost = all.cost + one.cost;
  means = means_more r.segments r.levels r.segment r.at ts u all.cost one.cost all.means one.means;
  takes = λ t. omega (arith, capabilities-with_last ts u, all.takes t, one.takes t);
  covers = (paid_both (paid_all all) (paid_one one)).covers;
  spent = (paid_both (paid_all all) (paid_one one)).spent ∙ ap (after_charge r.charging m (all.cost + one.cost)) (sym (pointers_in-with_last ts u));
}

-- the cost of the children or elements at a place
abbrev CostAll : Reading → Trees → Type 0
CostAll r ts = (k : ℕ) × MeanThere r ts k

abbrev CostElements : Reading → StructSize → Elements → Type 0
CostElements r size es = (k : ℕ) × ElementsMean r size es k

abbrev SomeElements : Reading → StructSize → Type 0
SomeElements r size = (es : Elements) × (k : ℕ) × ElementsMean r size es k

-- the child after the first ones ts, in any longer meaning us of the same place
next_child : (r : Reading) (ts us : Trees) (x : CostAll r ts) (y : CostAll r us) → count ts < count us →
    (u : Tree) × (e : ℕ) × MeansThere (place_past r (count ts)) u e × (x.0 + e ≤ y.0) × (capabilities u ≤ capabilities_all us)
next_child r ts no_trees x y lt = absurd (omega arith)
next_child r no_trees (tree u us) (k, h) (c, (a, b, one, rest, g)) lt =
    (u, a, subst (λ q. Means r.segments r.levels r.segment q u a) (let e : r.at ≡ r.at + 0 = omega arith in e) one, omega arith, omega arith)
next_child r (tree t ts) (tree u us) (k, (x, y, first, others, f)) (c, (a, b, one, rest, g)) lt =
    let same = (one_value r.segments r.levels r.levels r.segment r.at t u x a first one).1 in
    let z = next_child (place_past r 1) ts us (y, others) (b, rest) (omega arith) in (
      z.0,
      z.1,
      subst (λ q. Means r.segments r.levels r.segment q z.0 z.1) (let e : r.at + 1 + count ts ≡ r.at + suc (count ts) = omega arith in e) z.2,
      omega (arith, same, f, g, z.3),
      omega (arith, z.4),
    )

pub spends_on : {charging : Bool} {m m' m'' : Meter} {c r0 limit : ℕ} (i l : ℕ) → Paid charging m m' c r0 → r0 ≤ c + i → i + l ≤ limit → Spends charging m' m'' l → Spends charging m m'' limit
spends_on {charging} {m} {m'} {m''} {c} {r0} i l first few le (g, r, covers', e', few') =
    let then : Paid charging m' m'' g r = record { covers = covers'; spent = e' } in
    let paid = paid_both first then in
    (c + g, r0 + r, paid.covers, paid.spent, omega arith)

-- the reading of the next child is refused
pub read_stop : {form : Form} {r : Reading} {m m' m'' : Meter} {ts : Trees} {k : ErrorKind} (i : ℕ) → ReadsAll form r m m' ts → count ts < i → Unreadable form (place_past r (count ts)) m' m'' k → UnreadableAll form r i m m'' k
read_stop {form} {r} {m} {m'} {m''} {ts} i all lt refused = record {
  named = (r.at + count ts, omega arith, omega arith, refused.named);
  only = λ us d len others takes covers.
      let x = next_child r ts us (all.cost, all.means) (d, others) (omega (arith, len)) in
      refused.only x.0 x.1 x.2 (λ t. omega (arith, takes t, x.4)) (affords_rest x.1 d (paid_all all) x.3 covers);
  spent =
      spends_on (count ts) 1 (paid_all all) (pointers_within_all r ts all.cost all.means) (omega arith) refused.spent;
}

-- elements
abbrev pub with_last_element : Elements → List ℕ → Trees → Elements
with_last_element no_elements ws ts = element ws ts no_elements
with_last_element (element vs us es) ws ts = element vs us (with_last_element es ws ts)

pub count-with_last_element : (es : Elements) (ws : List ℕ) (ts : Trees) → element_count (with_last_element es ws ts) ≡ suc (element_count es)
count-with_last_element no_elements ws ts = refl
count-with_last_element (element vs us es) ws ts = ap suc (count-with_last_element es ws ts)

pub capabilities-with_last_element : (es : Elements) (ws : List ℕ) (ts : Trees) → capabilities_elements (with_last_element es ws ts) ≡ capabilities_elements es + capabilities_all ts
capabilities-with_last_element no_elements ws ts = omega arith
capabilities-with_last_element (element vs us es) ws ts = omega (arith, capabilities-with_last_element es ws ts)

pub pointers_in-with_last_element : (es : Elements) (ws : List ℕ) (ts : Trees) → pointers_in_elements (with_last_element es ws ts) ≡ pointers_in_elements es + pointers_in_all ts
pointers_in-with_last_element no_elements ws ts = omega arith
pointers_in-with_last_element (element vs us es) ws ts = omega (arith, pointers_in-with_last_element es ws ts)

-- the element number j of the elements of this size: its words, and the cost of its children
pub record ElementAt (r : Reading) (size : StructSize) (j : ℕ) (ws : List ℕ) (ts : Trees) : Type 0 where
  pub long : length ws ≡ size.data_words
  pub len : count ts ≡ size.pointers
  pub words : HasWords r.segments r.segment (r.at + j * (size.data_words + size.pointers)) ws
  pub cost : ℕ
  pub means : MeanThere (pointers_of r size j) ts cost

pub elements_more : {r : Reading} {size : StructSize} {ws : List ℕ} {ts : Trees} (es : Elements) (k : ℕ) (last : ElementAt r size (element_count es) ws ts) → ElementsMean r size es k →
    ElementsMean r size (with_last_element es ws ts) (k + last.cost)
elements_more {r} {size} {ws} {ts} no_elements k last h = (
  last.cost,
  0,
  last.long,
  last.len,
  subst (λ i. HasWords r.segments r.segment i ws) (let e : r.at + 0 * (size.data_words + size.pointers) ≡ r.at = omega arith in e) last.words,
  subst (λ i. MeansAll r.segments r.levels r.segment i ts last.cost) (let e : r.at + 0 * (size.data_words + size.pointers) + size.data_words ≡ r.at + size.data_words = omega arith in e) last.means,
  refl,
  omega arith,
)
elements_more {r} {size} {ws} {ts} (element vs us es) k last (a, b, long, len, has, first, rest, g) =
    let d : ℕ = size.data_words in
    let q : ℕ = size.pointers in
    let e : r.at + suc (element_count es) * (d + q) ≡ r.at + d + q + element_count es * (d + q) = omega arith in
    let last' : ElementAt (place_past (place_past r d) q) size (element_count es) ws ts = record {
      long = last.long;
      len = last.len;
      words = subst (λ i. HasWords r.segments r.segment i ws) e last.words;
      cost = last.cost;
      means = subst (λ i. MeansAll r.segments r.levels r.segment (i + d) ts last.cost) e last.means;
    } in
    (a, b + last.cost, long, len, has, first, elements_more {r = place_past (place_past r d) q} {size = size} {ws = ws} {ts = ts} es b last' rest, omega arith)

-- no element is read yet
unfoldable pub read_no_element : (form : Form) (r : Reading) (size : StructSize) (m : Meter) → ReadsElements form r size m m no_elements
read_no_element form r size m = record { cost = 0; means = refl; takes = λ e. refl; covers = affords_none r.charging m; spent = sym (after_none r.charging m) }

-- one element more, after its children are read
unfoldable pub read_element : {form : Form} {r : Reading} {size : StructSize} {m m' m'' : Meter} {es : Elements} {ts : Trees} → ReadsElements form r size m m' es →
    r.at + element_count es * (size.data_words + size.pointers) + size.data_words ≤ length (segment r.segments r.segment) → count ts ≡ size.pointers → ReadsAll form (pointers_of r size (element_count es)) m' m'' ts →
    ReadsElements form r size m m'' (with_last_element es (words_at r.segments r.segment (r.at + element_count es * (size.data_words + size.pointers)) size.data_words) ts)
read_element {form} {r} {size} {m} {m'} {m''} {es} {ts} all fits len one =
    let d : ℕ = size.data_words in
    let q : ℕ = size.pointers in
    let ws : List ℕ = words_at r.segments r.segment (r.at + element_count es * (d + q)) d in
    let long : length ws ≡ d = length_words r.segments r.segment (r.at + element_count es * (d + q)) d fits in
    let last : ElementAt r size (element_count es) ws ts = record { long = long; len = len; words = rw long refl; cost = one.cost; means = one.means } in
    record {
      cost = all.cost + one.cost;
      means = elements_more es all.cost last all.means;
      takes = λ t. omega (arith, capabilities-with_last_element es ws ts, all.takes t, one.takes t);
      covers = (paid_both (paid_elements all) (paid_all one)).covers;
      spent = (paid_both (paid_elements all) (paid_all one)).spent ∙ ap (after_charge r.charging m (all.cost + one.cost)) (sym (pointers_in-with_last_element es ws ts));
    }

one_value_all : (r : Reading) (ts us : Trees) (x : CostAll r ts) (y : CostAll r us) → count ts ≡ count us → x.0 ≡ y.0
one_value_all r no_trees no_trees (k, h) (c, g) len = h ∙ sym g
one_value_all r no_trees (tree u us) x y len = absurd (omega arith)
one_value_all r (tree t ts) no_trees x y len = absurd (omega arith)
one_value_all r (tree t ts) (tree u us) (k, (x, y, first, others, f)) (c, (a, b, one, rest, g)) len =
    omega (arith, (one_value r.segments r.levels r.levels r.segment r.at t u x a first one).1, one_value_all (place_past r 1) ts us (y, others) (b, rest) (omega arith))

-- the children of the element after the first ones, in any longer meaning of the same place
abbrev NextElement : Reading → StructSize → ℕ → ℕ → Elements → ℕ → Type 0
NextElement r size j k us c =
    (ts : Trees) × (e : ℕ) × (count ts ≡ size.pointers) × MeanThere (pointers_of r size j) ts e × (k + e ≤ c) × (capabilities_all ts ≤ capabilities_elements us)

next_element : (r : Reading) (size : StructSize) (es : Elements) (x : CostElements r size es) (y : SomeElements r size) → element_count es < element_count y.0 → NextElement r size (element_count es) x.0 y.0 y.1
next_element r size no_elements x (no_elements, c, g) lt = absurd (omega arith)
next_element r size (element vs ts es) x (no_elements, c, g) lt = absurd (omega arith)
next_element r size no_elements (k, h) (element ws ts us, c, (a, b, long, len, has, one, rest, g)) lt =
    let d : ℕ = size.data_words in
    let q : ℕ = size.pointers in
    (ts, a, len, subst (λ i. MeansAll r.segments r.levels r.segment i ts a) (let e : r.at + d ≡ r.at + 0 * (d + q) + d = omega arith in e) one, omega arith, omega arith)
next_element r size (element vs ts es) (k, (x, y, long', len', has', first, others, f)) (element ws us os, c, (a, b, long, len, has, one, rest, g)) lt =
    let d : ℕ = size.data_words in
    let q : ℕ = size.pointers in
    let same = one_value_all (place_past r d) ts us (x, first) (a, one) (len' ∙ sym len) in
    let z = next_element (place_past (place_past r d) q) size es (y, others) (os, b, rest) (omega arith) in (
      z.0,
      z.1,
      z.2,
      subst (λ i. MeansAll r.segments r.levels r.segment (i + d) z.0 z.1) (let e : r.at + d + q + element_count es * (d + q) ≡ r.at + suc (element_count es) * (d + q) = omega arith in e) z.3,
      omega (arith, same, f, g, z.4),
      omega (arith, z.5),
    )

-- the reading of a child of the next element is refused
pub read_element_stop : {form : Form} {r : Reading} {size : StructSize} {m m' m'' : Meter} {es : Elements} {k : ErrorKind} (i : ℕ) → ReadsElements form r size m m' es → element_count es < i →
    UnreadableAll form (pointers_of r size (element_count es)) size.pointers m' m'' k → UnreadableElements form r size i m m'' k
read_element_stop {form} {r} {size} {m} {m'} {m''} {es} i all lt refused =
    let d : ℕ = size.data_words in
    let q : ℕ = size.pointers in
    record {
      named = (element_count es, lt, refused.named);
      only = λ us x len others takes covers.
          let o = next_element r size es (all.cost, all.means) (us, x, others) (omega (arith, len)) in
          refused.only o.0 o.1 o.2 o.3 (λ t. omega (arith, takes t, o.5)) (affords_rest o.1 x (paid_elements all) o.4 covers);
      spent =
          spends_on (element_count es * q) q (paid_elements all)
          (pointers_within_elements r size es all.cost all.means) (one_element_more (element_count es) i q lt) refused.spent;
    }
