-- Trees whose lists of structs each have elements of one size, which is all that lengths require of
-- a value. What a place means has this shape.
use Rattle.std.proofs.Common.{◌≡◌, ℕ, zero, suc, pred, ◌+◌, ◌*◌, ◌≤◌, List, ◌++◌, length, replicate, refl, ◌∙◌, arith, length-append, length-take}
use Rattle.capnp_format.specs.Numbers.{words_for}
use Rattle.capnp_format.specs.Tree.{Tree, Null, Capability, Struct, Flat, Pointers, Structs, Trees, no_trees, tree, Elements, no_elements, element, count, element_count}
use Rattle.capnp_words.specs.declared.wire_pointer.StructSize.{StructSize}
use Rattle.capnp_pointers.specs.Faults.{child_at}
use Rattle.capnp_pointers.specs.Outcomes.{MeansThere}
use Rattle.capnp_pointers.specs.Reading.{Reading, place_past}
use Rattle.capnp_words.specs.Sizes.{sized}
use Rattle.capnp_format.specs.Canonical.{used_trees, take_trees, data_width, pointer_width, cut_to, trim, trim_each, trim_elements, word_count, word_count_all, word_count_elements, pointers, rows, body, bodies, element_bodies}
use Rattle.capnp_format.proofs.Digits.{length-digits}
use Rattle.capnp_format.proofs.Lengths.{length-pointers}
use Rattle.capnp_format.proofs.Trimming.{used_words-le, used_trees-le, take_trees-count, trim_each-count}
use Rattle.capnp_pointers.proofs.WholeValue.Shorthands.{MeanThere, ElementsMean}

-- The words while elements are copied, after the words `front`: the rows of es are there, and n
-- rows are still to come.
abbrev pub rows_laid : List ℕ → ℕ → ℕ → Elements → ℕ → List ℕ
rows_laid front d q es n = front ++ rows d q (n * (d + q)) es ++ replicate (n * (d + q)) 0 ++ element_bodies es

abbrev mutual
  pub IsShaped : Tree → Type 0
  IsShaped Null = Unit {0}
  IsShaped (Capability i) = Unit {0}
  IsShaped (Struct ws ts) = AreShaped ts
  IsShaped (Flat size ns) = Unit {0}
  IsShaped (Pointers ts) = AreShaped ts
  IsShaped (Structs d q es) = AreShapedElements d q es

  pub AreShaped : Trees → Type 0
  AreShaped no_trees = Unit {0}
  AreShaped (tree t ts) = IsShaped t × AreShaped ts

  -- Elements of d data words and q children each.
  pub AreShapedElements : ℕ → ℕ → Elements → Type 0
  AreShapedElements d q no_elements = Unit {0}
  AreShapedElements d q (element ws ts es) = (length ws ≡ d) × (count ts ≡ q) × AreShaped ts × AreShapedElements d q es

-- What a place means.

mutual
  pub means_shaped : (r : Reading) (t : Tree) (c : ℕ) → MeansThere r t c → IsShaped t
  means_shaped r Null c h = tt
  means_shaped r (Capability i) c h = tt
  means_shaped r (Struct ws ts) c (a, k, some, o, claim, e, all, g) = all_shaped (child_at r a (pred r.levels) (a.start + length ws)) ts k all
  means_shaped r (Flat size ns) c h = tt
  means_shaped r (Pointers ts) c (a, k, some, o, claim, all, g) = all_shaped (child_at r a (pred r.levels) a.start) ts k all
  means_shaped r (Structs d q es) c (a, m, k, some, o, claim, tag, fits, all, g) = elements_shaped (child_at r a (pred r.levels) (a.start + 1)) (sized d q) es k all

  pub all_shaped : (r : Reading) (ts : Trees) (c : ℕ) → MeanThere r ts c → AreShaped ts
  all_shaped r no_trees c h = tt
  all_shaped r (tree t ts) c (k, l, one, rest, g) = (means_shaped r t k one, all_shaped (place_past r 1) ts l rest)

  pub elements_shaped : (r : Reading) (size : StructSize) (es : Elements) (c : ℕ) → ElementsMean r size es c → AreShapedElements size.data_words size.pointers es
  elements_shaped r size no_elements c h = tt
  elements_shaped r size (element ws ts es) c (k, l, long, len, e, all, rest, g) =
      (long, len, all_shaped (place_past r size.data_words) ts k all, elements_shaped (record r { at = r.at + size.data_words + size.pointers }) size es l rest)

-- Trimmed trees.

pub take_trees-shaped : (n : ℕ) (ts : Trees) → AreShaped ts → AreShaped (take_trees n ts)
take_trees-shaped zero ts v = tt
take_trees-shaped (suc n) no_trees v = tt
take_trees-shaped (suc n) (tree t ts) v = (v.0, take_trees-shaped n ts v.1)

pub cut_to-shaped : (size least : StructSize) (es : Elements) → least.data_words ≤ size.data_words → least.pointers ≤ size.pointers → AreShapedElements size.data_words size.pointers es →
    AreShapedElements least.data_words least.pointers (cut_to least.data_words least.pointers es)
cut_to-shaped size least no_elements a b v = tt
cut_to-shaped size least (element ws ts es) a b v = (
  omega (arith, length-take least.data_words ws, v.0),
  take_trees-count least.pointers ts (omega (arith, v.1)),
  take_trees-shaped least.pointers ts v.2,
  cut_to-shaped size least es a b v.3,
)

pub widths_shaped : (d q : ℕ) (es : Elements) → AreShapedElements d q es → (data_width (trim_elements es) ≤ d) × (pointer_width (trim_elements es) ≤ q)
widths_shaped d q no_elements h = (omega arith, omega arith)
widths_shaped d q (element ws ts es) h =
    (omega (arith, used_words-le ws, h.0, (widths_shaped d q es h.3).0), omega (arith, used_trees-le (trim_each ts), trim_each-count ts, h.1, (widths_shaped d q es h.3).1))

mutual
  pub trim-shaped : (t : Tree) → IsShaped t → IsShaped (trim t)
  trim-shaped Null v = tt
  trim-shaped (Capability i) v = tt
  trim-shaped (Struct ws ts) v = take_trees-shaped (used_trees (trim_each ts)) (trim_each ts) (trim_each-shaped ts v)
  trim-shaped (Flat size ns) v = tt
  trim-shaped (Pointers ts) v = trim_each-shaped ts v
  trim-shaped (Structs d q es) v =
      let fs = trim_elements es in
      let w = widths_shaped d q es v in
      cut_to-shaped (sized d q) (sized (data_width fs) (pointer_width fs)) fs w.0 w.1 (trim_elements-shaped d q es v)

  pub trim_each-shaped : (ts : Trees) → AreShaped ts → AreShaped (trim_each ts)
  trim_each-shaped no_trees v = tt
  trim_each-shaped (tree t ts) v = (trim-shaped t v.0, trim_each-shaped ts v.1)

  pub trim_elements-shaped : (d q : ℕ) (es : Elements) → AreShapedElements d q es → AreShapedElements d q (trim_elements es)
  trim_elements-shaped d q no_elements v = tt
  trim_elements-shaped d q (element ws ts es) v = (v.0, trim_each-count ts ∙ v.1, trim_each-shaped ts v.2, trim_elements-shaped d q es v.3)

-- Lengths.

pub length-rows : (d q k : ℕ) (es : Elements) → AreShapedElements d q es → length (rows d q k es) ≡ element_count es * (d + q)
length-rows d q k no_elements h = omega arith
length-rows d q k (element ws ts es) h =
    omega (
      arith,
      h.0,
      h.1,
      length-append (ws ++ pointers (element_count es * (d + q) + k) ts) (rows d q (k + word_count_all ts) es),
      length-append ws (pointers (element_count es * (d + q) + k) ts),
      length-pointers (element_count es * (d + q) + k) ts,
      length-rows d q (k + word_count_all ts) es h.3,
    )

mutual
  pub length-body : (t : Tree) → IsShaped t → length (body t) ≡ word_count t
  length-body Null h = refl
  length-body (Capability i) h = refl
  length-body (Struct ws ts) h =
      omega (arith, length-append (ws ++ pointers 0 ts) (bodies ts), length-append ws (pointers 0 ts), length-pointers 0 ts, length-bodies ts h)
  length-body (Flat size ns) h = length-digits _ (words_for size (length ns)) _
  length-body (Pointers ts) h = omega (arith, length-append (pointers 0 ts) (bodies ts), length-pointers 0 ts, length-bodies ts h)
  length-body (Structs d q es) h =
      omega (arith, length-append (rows d q 0 es) (element_bodies es), length-rows d q 0 es h, length-element_bodies d q es h)

  pub length-bodies : (ts : Trees) → AreShaped ts → length (bodies ts) ≡ word_count_all ts
  length-bodies no_trees h = refl
  length-bodies (tree t ts) h = omega (arith, length-append (body t) (bodies ts), length-body t h.0, length-bodies ts h.1)

  pub length-element_bodies : (d q : ℕ) (es : Elements) → AreShapedElements d q es → length (element_bodies es) ≡ word_count_elements es
  length-element_bodies d q no_elements h = refl
  length-element_bodies d q (element ws ts es) h = omega (arith, length-append (bodies ts) (element_bodies es), length-bodies ts h.2, length-element_bodies d q es h.3)
