-- Rows of elements in a segment, and the next element of a list that the words mean.
use Rattle.std.proofs.Common.{◌≡◌, ℕ, zero, suc, ◌+◌, ◌-◌, ◌*◌, ◌<◌, ◌≤◌, List, [], ◌∷◌, ◌++◌, length, get_or, take, drop, replicate, refl, sym, ap, ap₂, ◌∙◌, subst, arith, append-nil, length-append, length-drop, get_or-drop}
use Rattle.std.proofs.lemmas.List.{length-replicate, take-append-drop, get_or_append_left, get_or-append_right}
use Rattle.std.proofs.lemmas.List.{take-take}
use Rattle.capnp_format.specs.Segments.{Segments, segment, words_at}
use Rattle.capnp_format.specs.Tree.{Trees, no_trees, tree, Elements, no_elements, element, count, element_count}
use Rattle.capnp_words.specs.declared.wire_pointer.StructSize.{StructSize}
use Rattle.capnp_pointers.specs.Reading.{Reading, place_past, pointers_of}
use Rattle.capnp_pointers.specs.Wanted.{Form}
use Rattle.capnp_copies.specs.declared.widths.ElementSizes.{ElementSizes}
use Rattle.capnp_format.specs.Canonical.{take_trees, cut_to, word_count_all, word_count_elements, rows, element_bodies}
use Rattle.capnp_format.proofs.Levels.{one_value}
use Rattle.capnp_copies.specs.Forms.{kept_each}
use Rattle.capnp_copies.proofs.KeptChildren.{cut_kept, kept_no_elements, words_of_first}
use Rattle.capnp_copies.proofs.Shapes.{rows_laid, AreShapedElements, length-rows, length-element_bodies}
use Rattle.capnp_pointers.proofs.WholeValue.Shorthands.{MeanThere, ElementsMean}

-- The beginning.

all_zero : (xs : List ℕ) → ((i : ℕ) → get_or xs i 0 ≡ 0) → xs ≡ replicate (length xs) 0
all_zero [] z = refl
all_zero (x ∷ xs) z = ap₂ (λ y ys. y ∷ ys) (z 0) (all_zero xs (λ i. z (suc i)))

pub rows_begun : (ws : List ℕ) (at n : ℕ) (size : StructSize) → at + n * (size.data_words + size.pointers) ≡ length ws → ((i : ℕ) → at ≤ i → get_or ws i 0 ≡ 0) →
    ws ≡ rows_laid (take at ws) size.data_words size.pointers no_elements n
rows_begun ws at n size l z =
    let d : ℕ = size.data_words in
    let q : ℕ = size.pointers in
    let rest : drop at ws ≡ replicate (n * (d + q)) 0 =
    all_zero (drop at ws) (λ i. get_or-drop at ws i 0 ∙ z (at + i) (omega arith)) ∙ ap (λ i. replicate i 0) (let e : length (drop at ws) ≡ n * (d + q) = omega (arith, length-drop at ws) in e) in
    sym (take-append-drop at ws) ∙ ap (λ xs. take at ws ++ xs) rest
    ∙ sym (append-nil (take at ws ++ [] ++ replicate (n * (d + q)) 0) ∙ ap (λ xs. xs ++ replicate (n * (d + q)) 0) (append-nil (take at ws)))

-- One more.

-- Elements of one size, with their rows after the words `front`.
pub record Laid : Type 0 where
  pub front : List ℕ
  pub size : StructSize
  pub elements : Elements
  pub shaped : AreShapedElements size.data_words size.pointers elements

pub length_laid : (front : List ℕ) (d q n : ℕ) (es : Elements) → AreShapedElements d q es → length (rows_laid front d q es n) ≡ length front + element_count es * (d + q) + n * (d + q) + word_count_elements es
length_laid front d q n es v =
    let R = rows d q (n * (d + q)) es in
    let Z : List ℕ = replicate (n * (d + q)) 0 in
    omega (
      arith,
      length-append (front ++ R ++ Z) (element_bodies es),
      length-append (front ++ R) Z,
      length-append front R,
      length-rows d q (n * (d + q)) es v,
      length-replicate {A = ℕ} (n * (d + q)) 0,
      length-element_bodies d q es v,
    )

pub get_or-zeros : (n i : ℕ) → get_or (replicate {A = ℕ} n 0) i 0 ≡ 0
get_or-zeros zero i = refl
get_or-zeros (suc n) zero = refl
get_or-zeros (suc n) (suc i) = get_or-zeros n i

-- The end of the rows that are laid.
abbrev pub rows_end : Laid → ℕ
rows_end x = length x.front + element_count x.elements * (x.size.data_words + x.size.pointers)

pub row_null : (x : Laid) (n i : ℕ) → rows_end x ≤ i → i < rows_end x + n * (x.size.data_words + x.size.pointers) → get_or (rows_laid x.front x.size.data_words x.size.pointers x.elements n) i 0 ≡ 0
row_null x n i l m =
    let front : List ℕ = x.front in
    let d : ℕ = x.size.data_words in
    let q : ℕ = x.size.pointers in
    let es : Elements = x.elements in
    let v = x.shaped in
    let A = front ++ rows d q (n * (d + q)) es in
    let Z : List ℕ = replicate (n * (d + q)) 0 in
    let la : length A ≡ length front + element_count es * (d + q) = omega (arith, length-append front (rows d q (n * (d + q)) es), length-rows d q (n * (d + q)) es v) in
    get_or_append_left (A ++ Z) (element_bodies es) 0 i (omega (arith, length-append A Z, length-replicate {A = ℕ} (n * (d + q)) 0))
    ∙ get_or-append_right A Z (length A) i 0 refl (omega arith) ∙ get_or-zeros (n * (d + q)) (i - length A)

-- Refusals.

pub one_row : (r : Reading) (ts us : Trees) → (k : ℕ) × MeanThere r ts k → (c : ℕ) × MeanThere r us c → count ts ≡ count us → ts ≡ us
one_row r no_trees no_trees h g len = refl
one_row r no_trees (tree u us) h g len = absurd (omega arith)
one_row r (tree t ts) no_trees h g len = absurd (omega arith)
one_row r (tree t ts) (tree u us) (k, (x, y, first, others, f)) (c, (a, b, one, rest, g)) len =
    ap₂ tree (one_value r.segments r.levels r.levels r.segment r.at t u x a first one).0 (one_row (place_past r 1) ts us (y, others) (b, rest) (omega arith))

-- One place means both lists of elements.
abbrev pub BothMeant : Reading → StructSize → Elements → Elements → Type 0
BothMeant r size es us = ((k : ℕ) × ElementsMean r size es k) × ((c : ℕ) × ElementsMean r size us c)

-- The element after the first ones, in any longer list of elements that the same place means.
pub next_element_words : (b : Form) (r : Reading) (sizes : ElementSizes) (es us : Elements) → BothMeant r sizes.source es us → element_count es < element_count us →
    (ts : Trees) × (x : ℕ) × (count ts ≡ sizes.source.pointers) × MeanThere (pointers_of r sizes.source (element_count es)) ts x
    × (word_count_elements (cut_kept b sizes es) + word_count_all (take_trees sizes.kept.pointers (kept_each b ts)) ≤ word_count_elements (cut_kept b sizes us))
next_element_words b r sizes es no_elements h lt = absurd (omega arith)
next_element_words b r sizes no_elements (element ws ts us) (h, (c, (a, e, long, len, has, one, rest, g))) lt =
    let d : ℕ = sizes.source.data_words in
    let q : ℕ = sizes.source.pointers in
    (ts, a, len, subst (λ i. MeanThere (record r { at = i }) ts a) (let f : r.at + d ≡ r.at + 0 * (d + q) + d = omega arith in f) one, omega (arith, ap (λ xs. word_count_elements (cut_to sizes.kept.data_words sizes.kept.pointers xs)) (kept_no_elements b), words_of_first b sizes ws ts us))
next_element_words b r sizes (element vs ts es) (element ws us os) ((k, (x, y, long', len', has', first, others, f)), (c, (a, e, long, len, has, one, rest, g))) lt =
    let d : ℕ = sizes.source.data_words in
    let q : ℕ = sizes.source.pointers in
    let same = ap (λ v. word_count_all (take_trees sizes.kept.pointers (kept_each b v))) (one_row (place_past r d) ts us (x, first) (a, one) (len' ∙ sym len)) in
    let z = next_element_words b (record r { at = r.at + d + q }) sizes es os ((y, others), (e, rest)) (omega arith) in (
      z.0,
      z.1,
      z.2,
      subst (λ i. MeanThere (record r { at = i + d }) z.0 z.1) (let h : r.at + d + q + element_count es * (d + q) ≡ r.at + suc (element_count es) * (d + q) = omega arith in h) z.3,
      omega (arith, same, z.4, words_of_first b sizes vs ts es, words_of_first b sizes ws us os),
    )

-- Elements without width.

no_rows : (k : ℕ) (es : Elements) → (rows 0 0 k (cut_to 0 0 es) ≡ []) × (element_bodies (cut_to 0 0 es) ≡ [])
no_rows k no_elements = (refl, refl)
no_rows k (element ws ts es) = ((no_rows (k + 0) es).0, (no_rows k es).1)

pub blank_rows : (e q : ℕ) (front : List ℕ) (es : Elements) → e + q ≡ 0 → rows_laid front e q (cut_to e q es) 0 ≡ front
blank_rows e q front es sum =
    let no_data : e ≡ 0 = omega arith in
    let no_pointers : q ≡ 0 = omega arith in
    let none = no_rows 0 es in
    rw (no_data, no_pointers) (ap₂ (λ xs ys. front ++ xs ++ [] ++ ys) none.0 none.1 ∙ append-nil (front ++ [] ++ []) ∙ append-nil (front ++ []) ∙ append-nil front)

pub words_taken : (S : Segments) (s p e d : ℕ) → e ≤ d → take e (words_at S s p d) ≡ words_at S s p e
words_taken S s p e d le = take-take e d (drop p (segment S s)) le
