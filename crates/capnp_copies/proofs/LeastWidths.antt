-- The widths that the elements in a segment use, by their words.
use Rattle.std.proofs.Common.{◌≡◌, ℕ, ◌+◌, ◌*◌, ◌≤◌, max, nat_eq, length, refl, sym, ap, ap₂, ◌∙◌, arith, eq-eqb, ne_eqb}
use Rattle.capnp_format.specs.Tree.{Tree, Null, Capability, Struct, Flat, Pointers, Structs, Trees, no_trees, tree, Elements, no_elements, element, count, element_count}
use Rattle.capnp_words.specs.declared.wire_pointer.StructSize.{StructSize}
use Rattle.capnp_pointers.specs.Outcomes.{MeansThere}
use Rattle.capnp_pointers.specs.Reading.{Reading, place_past, segment_read, word_of, words_from}
use Rattle.capnp_format.specs.Canonical.{used_from, used_words, is_null, used_trees, data_width, pointer_width}
use Rattle.capnp_pointers.proofs.CanonicalForm.UsedWords.{words_at-more}
use Rattle.capnp_copies.specs.Widths.{most_used}
use Rattle.capnp_copies.proofs.Scanning.{data_used, pointers_used}
use Rattle.capnp_pointers.proofs.WholeValue.Shorthands.{MeanThere, ElementsMean}

-- A child is Null exactly if its pointer is zero.
pub means_is_null : (r : Reading) (t : Tree) (c : ℕ) → MeansThere r t c → nat_eq (word_of r) 0 ≡ is_null t
means_is_null r Null c h = eq-eqb (word_of r) 0 h.0
means_is_null r (Capability i) c (a, l, e, g) = ne_eqb (word_of r) 0 l.0
means_is_null r (Struct ws ts) c (a, k, some, o, claim, e, all, g) = ne_eqb (word_of r) 0 o.leads_to.0
means_is_null r (Flat size ns) c (a, some, small, o, claim, e, g) = ne_eqb (word_of r) 0 o.leads_to.0
means_is_null r (Pointers ts) c (a, k, some, o, claim, all, g) = ne_eqb (word_of r) 0 o.leads_to.0
means_is_null r (Structs d q es) c (a, m, k, some, o, claim, tag, fits, all, g) = ne_eqb (word_of r) 0 o.leads_to.0

-- The number of children that are used is that of the words used among their pointers.
pub used_where_meant : (r : Reading) (ts : Trees) (c : ℕ) → r.at + count ts ≤ length (segment_read r) → MeanThere r ts c → used_words (words_from r (count ts)) ≡ used_trees ts
used_where_meant r no_trees c l h = refl
used_where_meant r (tree t ts) c l (k, m, one, rest, g) =
    ap used_words (words_at-more r.segments r.segment r.at (count ts) (omega arith))
    ∙ ap₂ used_from (means_is_null r t k one) (used_where_meant (place_past r 1) ts m (omega arith) rest)

-- The place after one element.
abbrev next : Reading → StructSize → Reading
next r size = record r { at = r.at + size.data_words + size.pointers }

-- The least widths of elements are those of their words.
pub data_where_meant : (r : Reading) (size : StructSize) (es : Elements) (c : ℕ) → ElementsMean r size es c → data_width es ≡ data_used (segment_read r) r.at size.data_words size.pointers (element_count es)
data_where_meant r size no_elements c h = refl
data_where_meant r size (element ws ts es) c (k, l, long, len, e, all, rest, g) =
    let d : ℕ = size.data_words in
    let q : ℕ = size.pointers in
    ap₂ max (ap used_words (sym e ∙ ap (λ m. words_from r m) long))
    (data_where_meant (next r size) size es l rest ∙ ap (λ i. data_used (segment_read r) i d q (element_count es)) (let b : r.at + d + q ≡ r.at + (d + q) = omega arith in b))

pub pointers_where_meant : (r : Reading) (size : StructSize) (es : Elements) (c : ℕ) → r.at + element_count es * (size.data_words + size.pointers) ≤ length (segment_read r) → ElementsMean r size es c →
    pointer_width es ≡ pointers_used (segment_read r) r.at size.data_words size.pointers (element_count es)
pointers_where_meant r size no_elements c l h = refl
pointers_where_meant r size (element ws ts es) c l (k, m, long, len, e, all, rest, g) =
    let d : ℕ = size.data_words in
    let q : ℕ = size.pointers in
    ap₂ max (sym (used_where_meant (place_past r d) ts k (omega (arith, len)) all) ∙ ap (λ i. used_words (words_from (place_past r d) i)) len)
    (pointers_where_meant (next r size) size es m (omega arith) rest ∙ ap (λ i. most_used (segment_read r) i q (d + q) (element_count es)) (let b : r.at + d + q + d ≡ r.at + d + (d + q) = omega arith in b))
