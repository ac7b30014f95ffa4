-- Object by object: canonical words of some value are at a place and a head exactly if the object
-- passes the checks of its canonical form. Each lemma takes what the checks found one by one.
use Rattle.std.proofs.Common.{◌≡◌, ◌≢◌, ℕ, ◌+◌, ◌*◌, ◌≤◌, ◌↔◌, ◌⊎◌, inl, inr, max, sym, ap, ◌∙◌, subst, arith}
use Rattle.std.proofs.lemmas.Bool.{cases_lt}
use Rattle.capnp_format.specs.Word.{kind}
use Rattle.capnp_format.specs.Segments.{Segments, word_at, IsPlace, Target}
use Rattle.capnp_format.specs.Tree.{Structs, Elements, no_elements, element, element_count}
use Rattle.capnp_format.specs.Means.{Claims, ListAt, IsTag}
use Rattle.capnp_format.specs.Canonical.{data_width, pointer_width, word_count_all}
use Rattle.capnp_pointers.proofs.CanonicalForm.ElementsStand.{ElementsStand}
use Rattle.capnp_format.proofs.Bounds.{HasSmallWords}
use Rattle.capnp_pointers.proofs.CanonicalForm.CanonicalIfAccepted.{structs_stand}
use Rattle.capnp_pointers.proofs.CanonicalForm.OneMore.{Accepts, one_row_of_elements}
use Rattle.capnp_format.proofs.Trimming.{used_words-le, used_trees-le}
use Rattle.capnp_pointers.proofs.CanonicalForm.AcceptedIfCanonical.{structs_found}

-- Canonical words of some n elements are from a place and a head on, and no smaller sections would
-- hold them.
abbrev pub ElementsAccept : Segments → ℕ → ℕ → ℕ → ℕ → ℕ → ℕ → Type 0
ElementsAccept S s p d q h n = (es : Elements) × (element_count es ≡ n) × (data_width es ≡ d) × (pointer_width es ≡ q) × ElementsStand S s p d q h es

-- If its tag is known, a list of structs is canonical exactly if its elements are canonical after
-- the tag and fill its words.
pub structs_of_tag : (S : Segments) (s p h : ℕ) (a : Target) (m n d q : ℕ) → HasSmallWords S s → IsPlace S s p → kind (word_at S s p) ≢ 2 → ListAt S s p a 7 m → a.start ≡ h → Claims S a (m + 1) → IsTag (word_at S s h) n d q →
    Accepts S s p h ↔ ((n * (d + q) ≡ m) × (es : Elements) × (element_count es ≡ n) × (data_width es ≡ d) × (pointer_width es ≡ q) × ElementsStand S s (h + 1) d q (h + 1 + m) es)
structs_of_tag S s p h a m n d q w place other o start claim tag = (
  (λ x.
      let r = structs_found S s p h a m x.0 x.1 o in
      let f = r.4 in
      let dd : r.0 ≡ d = sym f.tag.data_of ∙ tag.data_of in
      let qq : r.1 ≡ q = sym f.tag.pointers ∙ tag.pointers in
      let nn : element_count r.2 ≡ n = sym f.tag.counts ∙ tag.counts in
      let exact : n * (d + q) ≡ m = ap (λ i. i * (d + q)) (sym nn) ∙ ap (λ i. element_count r.2 * (i + q)) (sym dd) ∙ ap (λ i. element_count r.2 * (r.0 + i)) (sym qq) ∙ f.exact in (
        exact,
        r.2,
        nn,
        f.data_used ∙ dd,
        f.pointers_used ∙ qq,
        subst (λ i. ElementsStand S s (h + 1) i q (h + 1 + m) r.2) dd (subst (λ i. ElementsStand S s (h + 1) r.0 i (h + 1 + m) r.2) qq f.elements),
      )),
  (λ y. (Structs d q y.1, structs_stand S s p h a m n d q y.1 w place other o start claim tag y.0 y.2 y.3 y.4 y.5)),
)

-- If the widths of all elements aren't the least, there are no such canonical elements.
pub widths_fail : (S : Segments) (s p d q h n : ℕ) (es : Elements) → ElementsStand S s p d q h es → element_count es ≡ n →
    ((data_width es ≡ d) × (pointer_width es ≡ q) → ⊥) → ElementsAccept S s p d q h n → ⊥
widths_fail S s p d q h n es a len fails = λ x.
    let same = one_row_of_elements S s p d q h es x.0 a x.4 (len ∙ sym x.1) in
    fails (ap data_width same ∙ x.2, ap pointer_width same ∙ x.3)

-- The widths of canonical elements are at most those of the list.
pub widths_within : (S : Segments) (s p d q h : ℕ) (es : Elements) → ElementsStand S s p d q h es → (data_width es ≤ d) × (pointer_width es ≤ q)
widths_within S s p d q h no_elements a = (omega arith, omega arith)
widths_within S s p d q h (element ws ts es) a =
    let r = widths_within S s (p + d + q) d q (h + word_count_all ts) es a.4 in
    (omega (arith, used_words-le ws, a.0, r.0), omega (arith, used_trees-le ts, a.1, r.1))

-- Elements and one more reach a width exactly if they reached it before, or this element reaches
-- it.
pub reached : (a b d : ℕ) → a ≤ d → b ≤ d → (max a b ≡ d) ↔ ((a ≡ d) ⊎ (b ≡ d))
reached a b d l m = (
  (λ e. elim (cases_lt a d) [
    | inl less ↦ inr (omega arith)
    | inr more ↦ inl (omega arith)
  ]),
  (λ e. omega arith),
)
