-- What trimming keeps.
use Rattle.std.proofs.Common.{◌≡◌, ℕ, zero, suc, ◌+◌, ◌*◌, ◌≤◌, max, Bool, true, false, nat_eq, List, [], ◌∷◌, length, take, refl, ap, ap₂, ◌∙◌, arith, le_refl, take-take, length-take}
use Rattle.capnp_format.specs.Tree.{Tree, Null, Capability, Struct, Flat, Pointers, Structs, Trees, no_trees, tree, Elements, no_elements, element, count, element_count}
use Rattle.capnp_format.specs.Canonical.{used_from, used_words, is_null, used_trees, take_trees, data_width, pointer_width, cut_to, cut_struct, cut_structs, trim, trim_each, trim_elements, word_count, word_count_all, word_count_elements}
use Rattle.capnp_format.specs.Value.{IsValue, AreValues, AreElements}

-- the part that is used

used_from-le : (b : Bool) (n : ℕ) → used_from b n ≤ suc n
used_from-le true zero = omega arith
used_from-le true (suc n) = omega arith
used_from-le false n = omega arith

pub used_from-rest : (b : Bool) (k n : ℕ) → used_from b k ≤ suc n → k ≤ n
used_from-rest b zero n l = omega arith
used_from-rest true (suc k) n l = omega arith
used_from-rest false (suc k) n l = omega arith

-- if no part of a list is used, its first cell is empty and nothing of the rest is used
pub used_from-past : (b : Bool) (k : ℕ) → used_from b k ≤ 0 → (b ≡ true) × (k ≡ 0)
used_from-past true zero l = (refl, refl)
used_from-past true (suc k) l = absurd (omega arith)
used_from-past false k l = absurd (omega arith)

used_from-none : (b : Bool) (k : ℕ) → used_from b k ≤ 0 → used_from b k ≡ 0
used_from-none b k l = omega arith

pub used_words-le : (xs : List ℕ) → used_words xs ≤ length xs
used_words-le [] = omega arith
used_words-le (x ∷ xs) = omega (arith, used_from-le (nat_eq x 0) (used_words xs), used_words-le xs)

pub used_trees-le : (ts : Trees) → used_trees ts ≤ count ts
used_trees-le no_trees = omega arith
used_trees-le (tree t ts) = omega (arith, used_from-le (is_null t) (used_trees ts), used_trees-le ts)

pub used_words-take : (n : ℕ) (xs : List ℕ) → used_words xs ≤ n → used_words (take n xs) ≡ used_words xs
used_words-take zero xs l = omega arith
used_words-take (suc n) [] l = refl
used_words-take (suc n) (x ∷ xs) l = ap (used_from (nat_eq x 0)) (used_words-take n xs (used_from-rest (nat_eq x 0) (used_words xs) n l))

pub used_trees-take : (n : ℕ) (ts : Trees) → used_trees ts ≤ n → used_trees (take_trees n ts) ≡ used_trees ts
used_trees-take zero ts l = omega arith
used_trees-take (suc n) no_trees l = refl
used_trees-take (suc n) (tree t ts) l = ap (used_from (is_null t)) (used_trees-take n ts (used_from-rest (is_null t) (used_trees ts) n l))

take_trees-again : (n : ℕ) (ts : Trees) → take_trees n (take_trees n ts) ≡ take_trees n ts
take_trees-again zero ts = refl
take_trees-again (suc n) no_trees = refl
take_trees-again (suc n) (tree t ts) = ap (tree t) (take_trees-again n ts)

-- trimming twice

pub trim_each-take : (n : ℕ) (ts : Trees) → trim_each (take_trees n ts) ≡ take_trees n (trim_each ts)
trim_each-take zero ts = refl
trim_each-take (suc n) no_trees = refl
trim_each-take (suc n) (tree t ts) = ap (tree (trim t)) (trim_each-take n ts)

trim_elements-cut : (d q : ℕ) (es : Elements) → trim_elements (cut_to d q es) ≡ cut_to d q (trim_elements es)
trim_elements-cut d q no_elements = refl
trim_elements-cut d q (element ws ts es) = ap₂ (λ us fs. element (take d ws) us fs) (trim_each-take q ts) (trim_elements-cut d q es)

cut_to-again : (d q : ℕ) (es : Elements) → cut_to d q (cut_to d q es) ≡ cut_to d q es
cut_to-again d q no_elements = refl
cut_to-again d q (element ws ts es) =
    ap₂ (λ vs us. element vs us (cut_to d q (cut_to d q es))) (take-take d d ws (le_refl d)) (take_trees-again q ts) ∙ ap (element (take d ws) (take_trees q ts)) (cut_to-again d q es)

data_width-cut : (d q : ℕ) (es : Elements) → data_width es ≤ d → data_width (cut_to d q es) ≡ data_width es
data_width-cut d q no_elements l = refl
data_width-cut d q (element ws ts es) l = ap₂ max (used_words-take d ws (omega arith)) (data_width-cut d q es (omega arith))

pointer_width-cut : (d q : ℕ) (es : Elements) → pointer_width es ≤ q → pointer_width (cut_to d q es) ≡ pointer_width es
pointer_width-cut d q no_elements l = refl
pointer_width-cut d q (element ws ts es) l = ap₂ max (used_trees-take q ts (omega arith)) (pointer_width-cut d q es (omega arith))

cut_struct-again : (ws : List ℕ) (ts : Trees) → cut_struct (take (used_words ws) ws) (take_trees (used_trees ts) ts) ≡ cut_struct ws ts
cut_struct-again ws ts =
    ap₂ (λ n m. Struct (take n (take (used_words ws) ws)) (take_trees m (take_trees (used_trees ts) ts))) (used_words-take (used_words ws) ws (le_refl (used_words ws))) (used_trees-take (used_trees ts) ts (le_refl (used_trees ts)))
    ∙ ap₂ Struct (take-take (used_words ws) (used_words ws) ws (le_refl (used_words ws))) (take_trees-again (used_trees ts) ts)

cut_structs-again : (es : Elements) → cut_structs (cut_to (data_width es) (pointer_width es) es) ≡ cut_structs es
cut_structs-again es =
    let d = data_width es in
    let q = pointer_width es in
    ap₂ (λ n m. Structs n m (cut_to n m (cut_to d q es))) (data_width-cut d q es (le_refl d)) (pointer_width-cut d q es (le_refl q)) ∙ ap (Structs d q) (cut_to-again d q es)

mutual
  pub trim-trim : (t : Tree) → trim (trim t) ≡ trim t
  trim-trim Null = refl
  trim-trim (Capability i) = refl
  trim-trim (Struct ws ts) =
      ap (cut_struct (take (used_words ws) ws)) (trim_each-take (used_trees (trim_each ts)) (trim_each ts) ∙ ap (take_trees (used_trees (trim_each ts))) (trim_each-trim_each ts))
      ∙ cut_struct-again ws (trim_each ts)
  trim-trim (Flat size ns) = refl
  trim-trim (Pointers ts) = ap Pointers (trim_each-trim_each ts)
  trim-trim (Structs d q es) =
      let fs = trim_elements es in
      ap cut_structs (trim_elements-cut (data_width fs) (pointer_width fs) fs ∙ ap (cut_to (data_width fs) (pointer_width fs)) (trim_elements-trim_elements es)) ∙ cut_structs-again fs

  trim_each-trim_each : (ts : Trees) → trim_each (trim_each ts) ≡ trim_each ts
  trim_each-trim_each no_trees = refl
  trim_each-trim_each (tree t ts) = ap₂ tree (trim-trim t) (trim_each-trim_each ts)

  trim_elements-trim_elements : (es : Elements) → trim_elements (trim_elements es) ≡ trim_elements es
  trim_elements-trim_elements no_elements = refl
  trim_elements-trim_elements (element ws ts es) = ap₂ (element ws) (trim_each-trim_each ts) (trim_elements-trim_elements es)

-- sizes

take_trees-words : (n : ℕ) (ts : Trees) → word_count_all (take_trees n ts) ≤ word_count_all ts
take_trees-words zero ts = omega arith
take_trees-words (suc n) no_trees = omega arith
take_trees-words (suc n) (tree t ts) = omega (arith, take_trees-words n ts)

cut_to-words : (d q : ℕ) (es : Elements) → word_count_elements (cut_to d q es) ≤ word_count_elements es
cut_to-words d q no_elements = omega arith
cut_to-words d q (element ws ts es) = omega (arith, take_trees-words q ts, cut_to-words d q es)

pub take_trees-count : (n : ℕ) (ts : Trees) → n ≤ count ts → count (take_trees n ts) ≡ n
take_trees-count zero ts l = refl
take_trees-count (suc n) no_trees l = omega arith
take_trees-count (suc n) (tree t ts) l = ap suc (take_trees-count n ts (omega arith))

pub cut_to-count : (d q : ℕ) (es : Elements) → element_count (cut_to d q es) ≡ element_count es
cut_to-count d q no_elements = refl
cut_to-count d q (element ws ts es) = ap suc (cut_to-count d q es)

pub trim_each-count : (ts : Trees) → count (trim_each ts) ≡ count ts
trim_each-count no_trees = refl
trim_each-count (tree t ts) = ap suc (trim_each-count ts)

pub trim_elements-count : (es : Elements) → element_count (trim_elements es) ≡ element_count es
trim_elements-count no_elements = refl
trim_elements-count (element ws ts es) = ap suc (trim_elements-count es)

pub widths-le : (d q : ℕ) (es : Elements) → AreElements d q es → (data_width (trim_elements es) ≤ d) × (pointer_width (trim_elements es) ≤ q)
widths-le d q no_elements h = (omega arith, omega arith)
widths-le d q (element ws ts es) h =
    (omega (arith, used_words-le ws, (widths-le d q es h.4).0), omega (arith, used_trees-le (trim_each ts), trim_each-count ts, (widths-le d q es h.4).1))

-- e data words and r pointers are at most d and q
pub record Narrower (e r d q : ℕ) : Type 0 where
  pub data_words : e ≤ d
  pub pointers : r ≤ q

pub rows-le : {e r d q : ℕ} (n : ℕ) → Narrower e r d q → n * (e + r) ≤ n * (d + q)
rows-le {e = e} {r = r} {d = d} {q = q} n narrower =
    let a : e ≤ d = narrower.data_words in
    let b : r ≤ q = narrower.pointers in
    grind arith

mutual
  pub trim-words : (t : Tree) → IsValue t → word_count (trim t) ≤ word_count t
  trim-words Null v = omega arith
  trim-words (Capability i) v = omega arith
  trim-words (Struct ws ts) v =
      omega (
        arith,
        length-take (used_words ws) ws,
        used_words-le ws,
        used_trees-le (trim_each ts),
        take_trees-count (used_trees (trim_each ts)) (trim_each ts) (used_trees-le (trim_each ts)),
        trim_each-count ts,
        take_trees-words (used_trees (trim_each ts)) (trim_each ts),
        trim_each-words ts v.3,
      )
  trim-words (Flat size ns) v = omega arith
  trim-words (Pointers ts) v = omega (arith, trim_each-count ts, trim_each-words ts v.1)
  trim-words (Structs d q es) v =
      let fs = trim_elements es in
      let w = widths-le d q es v.4 in
      omega (
        arith,
        ap (λ n. n * (data_width fs + pointer_width fs)) (cut_to-count (data_width fs) (pointer_width fs) fs ∙ trim_elements-count es),
        rows-le (element_count es) (let n : Narrower (data_width fs) (pointer_width fs) d q = record { data_words = w.0; pointers = w.1 } in n),
        cut_to-words (data_width fs) (pointer_width fs) fs,
        trim_elements-words d q es v.4,
      )

  trim_each-words : (ts : Trees) → AreValues ts → word_count_all (trim_each ts) ≤ word_count_all ts
  trim_each-words no_trees v = omega arith
  trim_each-words (tree t ts) v = omega (arith, trim-words t v.0, trim_each-words ts v.1)

  trim_elements-words : (d q : ℕ) (es : Elements) → AreElements d q es → word_count_elements (trim_elements es) ≤ word_count_elements es
  trim_elements-words d q no_elements v = omega arith
  trim_elements-words d q (element ws ts es) v = omega (arith, trim_each-words ts v.3, trim_elements-words d q es v.4)
