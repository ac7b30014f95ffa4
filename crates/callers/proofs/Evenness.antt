-- The length of canonical words, for any value that a message means, even if the message's words
-- don't have 64 bits.
use Rattle.std.proofs.Common.{◌≡◌, ℕ, zero, suc, ◌+◌, ◌*◌, ◌≤◌, ◌++◌, length, refl, ◌∙◌, arith, length-append, length-take}
use Rattle.std.specs.Bool.{⊤}
use Rattle.capnp_format.specs.Numbers.{words_for}
use Rattle.capnp_format.specs.Segments.{Segments}
use Rattle.capnp_format.specs.Tree.{Tree, Null, Capability, Struct, Flat, Pointers, Structs, Trees, no_trees, tree, Elements, no_elements, element, count, element_count}
use Rattle.capnp_format.specs.Canonical.{word_count, word_count_all, word_count_elements, pointers, rows, body, bodies, element_bodies, used_trees, take_trees, data_width, pointer_width, cut_to, trim, trim_each, trim_elements, encoding}
use Rattle.capnp_format.specs.Means.{Means, MeansAll, MeansElements}
use Rattle.capnp_format.proofs.Digits.{length-digits}
use Rattle.capnp_format.proofs.Lengths.{length-pointers}
use Rattle.capnp_format.proofs.Trimming.{used_words-le, used_trees-le, take_trees-count, trim_each-count}

-- The elements of each list of structs have as many data words and children as the list says.
abbrev mutual
  pub IsEven : Tree → Type 0
  IsEven Null = ⊤
  IsEven (Capability i) = ⊤
  IsEven (Struct ws ts) = AreEven ts
  IsEven (Flat size ns) = ⊤
  IsEven (Pointers ts) = AreEven ts
  IsEven (Structs d q es) = RowsAreEven d q es

  pub AreEven : Trees → Type 0
  AreEven no_trees = ⊤
  AreEven (tree t ts) = IsEven t × AreEven ts

  pub RowsAreEven : ℕ → ℕ → Elements → Type 0
  RowsAreEven d q no_elements = ⊤
  RowsAreEven d q (element ws ts es) = (length ws ≡ d) × (count ts ≡ q) × AreEven ts × RowsAreEven d q es

mutual
  pub means_even : (S : Segments) (n s p : ℕ) (t : Tree) (c : ℕ) → Means S n s p t c → IsEven t
  means_even S n s p Null c h = tt
  means_even S n s p (Capability i) c h = tt
  means_even S n s p (Struct ws ts) c (a, k, some, o, claim, e, all, g) = mean_even S _ _ _ ts k all
  means_even S n s p (Flat size ns) c h = tt
  means_even S n s p (Pointers ts) c (a, k, some, o, claim, all, g) = mean_even S _ _ _ ts k all
  means_even S n s p (Structs d q es) c (a, m, k, some, o, claim, tag, fits, all, g) = rows_even S _ _ _ d q k es all

  mean_even : (S : Segments) (n s p : ℕ) (ts : Trees) (c : ℕ) → MeansAll S n s p ts c → AreEven ts
  mean_even S n s p no_trees c h = tt
  mean_even S n s p (tree t ts) c (k, l, first, rest, g) = (means_even S n s p t k first, mean_even S n s (p + 1) ts l rest)

  rows_even : (S : Segments) (n s p d q c : ℕ) (es : Elements) → MeansElements S n s p d q es c → RowsAreEven d q es
  rows_even S n s p d q c no_elements h = tt
  rows_even S n s p d q c (element ws ts es) (k, l, wide, many, words, first, rest, g) =
      (wide, many, mean_even S n s (p + d) ts k first, rows_even S n s (p + d + q) d q l es rest)

take_even : (n : ℕ) (ts : Trees) → AreEven ts → AreEven (take_trees n ts)
take_even zero ts h = tt
take_even (suc n) no_trees h = tt
take_even (suc n) (tree t ts) h = (h.0, take_even n ts h.1)

cut_even : (d q e r : ℕ) (es : Elements) → e ≤ d → r ≤ q → RowsAreEven d q es → RowsAreEven e r (cut_to e r es)
cut_even d q e r no_elements less few h = tt
cut_even d q e r (element ws ts es) less few h =
    (omega (arith, length-take e ws, h.0, less), take_trees-count r ts (omega (arith, h.1, few)), take_even r ts h.2, cut_even d q e r es less few h.3)

widths_even : (d q : ℕ) (es : Elements) → RowsAreEven d q es → (data_width es ≤ d) × (pointer_width es ≤ q)
widths_even d q no_elements h = (omega arith, omega arith)
widths_even d q (element ws ts es) h =
    let rest = widths_even d q es h.3 in
    (omega (arith, used_words-le ws, h.0, rest.0), omega (arith, used_trees-le ts, h.1, rest.1))

mutual
  trim_even : (t : Tree) → IsEven t → IsEven (trim t)
  trim_even Null h = tt
  trim_even (Capability i) h = tt
  trim_even (Struct ws ts) h = take_even (used_trees (trim_each ts)) (trim_each ts) (trim_each_even ts h)
  trim_even (Flat size ns) h = tt
  trim_even (Pointers ts) h = trim_each_even ts h
  trim_even (Structs d q es) h =
      let fs = trim_elements_even d q es h in
      let w = widths_even d q (trim_elements es) fs in
      cut_even d q (data_width (trim_elements es)) (pointer_width (trim_elements es)) (trim_elements es) w.0 w.1 fs

  trim_each_even : (ts : Trees) → AreEven ts → AreEven (trim_each ts)
  trim_each_even no_trees h = tt
  trim_each_even (tree t ts) h = (trim_even t h.0, trim_each_even ts h.1)

  trim_elements_even : (d q : ℕ) (es : Elements) → RowsAreEven d q es → RowsAreEven d q (trim_elements es)
  trim_elements_even d q no_elements h = tt
  trim_elements_even d q (element ws ts es) h =
      (h.0, trim_each-count ts ∙ h.1, trim_each_even ts h.2, trim_elements_even d q es h.3)

rows_long : (d q k : ℕ) (es : Elements) → RowsAreEven d q es → length (rows d q k es) ≡ element_count es * (d + q)
rows_long d q k no_elements h = omega arith
rows_long d q k (element ws ts es) h =
    omega (
      arith,
      h.0,
      h.1,
      length-append (ws ++ pointers (element_count es * (d + q) + k) ts) (rows d q (k + word_count_all ts) es),
      length-append ws (pointers (element_count es * (d + q) + k) ts),
      length-pointers (element_count es * (d + q) + k) ts,
      rows_long d q (k + word_count_all ts) es h.3,
    )

mutual
  body_long : (t : Tree) → IsEven t → length (body t) ≡ word_count t
  body_long Null h = refl
  body_long (Capability i) h = refl
  body_long (Struct ws ts) h =
      omega (arith, length-append (ws ++ pointers 0 ts) (bodies ts), length-append ws (pointers 0 ts), length-pointers 0 ts, bodies_long ts h)
  body_long (Flat size ns) h = length-digits _ (words_for size (length ns)) _
  body_long (Pointers ts) h = omega (arith, length-append (pointers 0 ts) (bodies ts), length-pointers 0 ts, bodies_long ts h)
  body_long (Structs d q es) h =
      omega (arith, length-append (rows d q 0 es) (element_bodies es), rows_long d q 0 es h, rest_long d q es h)

  bodies_long : (ts : Trees) → AreEven ts → length (bodies ts) ≡ word_count_all ts
  bodies_long no_trees h = refl
  bodies_long (tree t ts) h = omega (arith, length-append (body t) (bodies ts), body_long t h.0, bodies_long ts h.1)

  rest_long : (d q : ℕ) (es : Elements) → RowsAreEven d q es → length (element_bodies es) ≡ word_count_elements es
  rest_long d q no_elements h = refl
  rest_long d q (element ws ts es) h = omega (arith, length-append (bodies ts) (element_bodies es), bodies_long ts h.2, rest_long d q es h.3)

-- the canonical words of what a place means are one for the pointer and those of its objects
pub canonical_long : (S : Segments) (n s p : ℕ) (t : Tree) (c : ℕ) → Means S n s p t c → length (encoding (trim t)) ≡ 1 + word_count (trim t)
canonical_long S n s p t c means = omega (arith, body_long (trim t) (trim_even t (means_even S n s p t c means)))
