-- Canonical children and elements, one more at a time. If the next one isn't canonical, no longer
-- list is.
-- The lemmas take the place, the head and what is there one by one, in the way of `HasCanonicalAt`.
use Rattle.std.proofs.Common.{◌≡◌, ℕ, suc, ◌+◌, ◌*◌, ◌<◌, ◌≤◌, refl, sym, ap, ap₂, ◌∙◌, subst, arith}
use Rattle.capnp_format.specs.Segments.{Segments, words_at}
use Rattle.capnp_format.specs.Tree.{Tree, Trees, no_trees, tree, Elements, no_elements, element, count, element_count, depth, depth_all, depth_elements}
use Rattle.capnp_format.specs.Canonical.{word_count, word_count_all, word_count_elements, charge, charge_all, charge_elements, HasCanonicalAt}
use Rattle.capnp_pointers.specs.Standing.{HasBodiesAt}
use Rattle.capnp_pointers.proofs.CanonicalForm.ElementsStand.{ElementsStand}
use Rattle.capnp_format.proofs.Appending.{append_trees}
use Rattle.capnp_format.proofs.LawLemmas.{one_stands}
pub use Rattle.capnp_pointers.proofs.WholeValue.WordsAdded.{words-with_last, words-with_last_element}

-- Canonical words of some value are at a place and a head.
abbrev pub Accepts : Segments → ℕ → ℕ → ℕ → Type 0
Accepts S s p h = (t : Tree) × HasCanonicalAt S s p h t

-- Canonical words of some n children are from a place and a head on.
abbrev pub AllAccept : Segments → ℕ → ℕ → ℕ → ℕ → Type 0
AllAccept S s p h n = (ts : Trees) × (count ts ≡ n) × HasBodiesAt S s p h ts

-- The child next after ts, if a longer list us of children is canonical: its charge and levels are
-- within those of us.
pub record NextTree (S : Segments) (s p h : ℕ) (ts us : Trees) : Type 0 where
  pub next : Tree
  pub rest : Trees
  pub parts : us ≡ append_trees ts (tree next rest)
  pub stands : HasCanonicalAt S s (p + count ts) (h + word_count_all ts) next
  pub charged : charge_all ts + charge next ≤ charge_all us
  pub levelled : depth next ≤ depth_all us

-- If two lists of children are canonical from the same place and head on, the shorter one begins
-- the longer one.
pub next_stands : (S : Segments) (s p h : ℕ) (ts us : Trees) → HasBodiesAt S s p h ts → HasBodiesAt S s p h us → count ts < count us → NextTree S s p h ts us
next_stands S s p h no_trees no_trees a b less = absurd (omega arith)
next_stands S s p h no_trees (tree u vs) a b less =
    record {
      next = u;
      rest = vs;
      parts = refl;
      stands = subst (λ q. HasCanonicalAt S s q (h + 0) u) (let e : p ≡ p + 0 = omega arith in e) (subst (λ i. HasCanonicalAt S s p i u) (let e : h ≡ h + 0 = omega arith in e) b.0);
      charged = omega arith;
      levelled = omega arith;
    }
next_stands S s p h (tree t ts) no_trees a b less = absurd (omega arith)
next_stands S s p h (tree t ts) (tree u us) a b less =
    let same = one_stands S s p h u t b.0 a.0 in
    let r = next_stands S s (p + 1) (h + word_count t) ts us a.1
    (subst (λ i. HasBodiesAt S s (p + 1) i us) (let e : h + word_count u ≡ h + word_count t = ap (λ v. h + word_count v) same in e) b.1) (omega arith) in
    record {
      next = r.next;
      rest = r.rest;
      parts = ap₂ tree same r.parts;
      stands =
          subst (λ q. HasCanonicalAt S s q (h + (word_count t + word_count_all ts)) r.next) (let e : p + 1 + count ts ≡ p + suc (count ts) = omega arith in e)
          (subst (λ i. HasCanonicalAt S s (p + 1 + count ts) i r.next) (let e : h + word_count t + word_count_all ts ≡ h + (word_count t + word_count_all ts) = omega arith in e) r.stands);
      charged = (let c = ap charge same in let k = r.charged in omega arith);
      levelled = (let k = r.levelled in omega arith);
    }

-- At most one list of a given number of children is canonical from a place and a head on.
pub one_row : (S : Segments) (s p h : ℕ) (ts us : Trees) → HasBodiesAt S s p h ts → HasBodiesAt S s p h us → count ts ≡ count us → ts ≡ us
one_row S s p h no_trees no_trees a b e = refl
one_row S s p h no_trees (tree u us) a b e = absurd (omega arith)
one_row S s p h (tree t ts) no_trees a b e = absurd (omega arith)
one_row S s p h (tree t ts) (tree u us) a b e =
    let same = one_stands S s p h t u a.0 b.0 in
    ap₂ tree same (one_row S s (p + 1) (h + word_count t) ts us a.1
    (subst (λ i. HasBodiesAt S s (p + 1) i us) (let e : h + word_count u ≡ h + word_count t = ap (λ v. h + word_count v) (sym same) in e) b.1) (omega arith))

-- The children of the element next after es, if a longer list fs of elements is canonical: their
-- charge and levels are within those of fs.
pub record NextElement (S : Segments) (s p d q h : ℕ) (es fs : Elements) : Type 0 where
  pub next : Trees
  pub counts : count next ≡ q
  pub stand : HasBodiesAt S s (p + element_count es * (d + q) + d) (h + word_count_elements es) next
  pub charged : charge_elements es + charge_all next ≤ charge_elements fs
  pub levelled : depth_all next ≤ depth_elements fs

-- At most one list of a given number of elements is canonical from a place and a head on.
pub one_row_of_elements : (S : Segments) (s p d q h : ℕ) (es fs : Elements) → ElementsStand S s p d q h es → ElementsStand S s p d q h fs → element_count es ≡ element_count fs → es ≡ fs
one_row_of_elements S s p d q h no_elements no_elements a b e = refl
one_row_of_elements S s p d q h no_elements (element vs us fs) a b e = absurd (omega arith)
one_row_of_elements S s p d q h (element ws ts es) no_elements a b e = absurd (omega arith)
one_row_of_elements S s p d q h (element ws ts es) (element vs us fs) a b e =
    let same = one_row S s (p + d) h ts us a.3 b.3 (a.1 ∙ sym b.1) in
    let words : ws ≡ vs = sym a.2 ∙ ap (words_at S s p) (a.0 ∙ sym b.0) ∙ b.2 in
    ap₂ (λ vs us. element vs us es) words same
    ∙ ap (element vs us) (one_row_of_elements S s (p + d + q) d q (h + word_count_all ts) es fs a.4
    (subst (λ i. ElementsStand S s (p + d + q) d q i fs) (let e : h + word_count_all us ≡ h + word_count_all ts = ap (λ v. h + word_count_all v) (sym same) in e) b.4) (omega arith))

-- If the next child isn't canonical, no list of more children is.
pub none_stand : (S : Segments) (s p h n : ℕ) (ts : Trees) → HasBodiesAt S s p h ts → count ts < n → (Accepts S s (p + count ts) (h + word_count_all ts) → ⊥) → AllAccept S s p h n → ⊥
none_stand S s p h n ts a less fails all = let r = next_stands S s p h ts all.0 a all.2 (omega (arith, all.1)) in fails (r.next, r.stands)
