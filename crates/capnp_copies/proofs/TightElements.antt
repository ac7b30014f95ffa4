-- Elements in place over the last words of a segment: none yet, one more element, and elements
-- without width.
use Rattle.std.proofs.Common.{◌≡◌, ℕ, ◌+◌, ◌-◌, ◌*◌, ◌<◌, ◌≤◌, List, length, take, refl, sym, ap, ◌∙◌, subst, arith}
use Rattle.std.proofs.lemmas.List.{take_all}
use Rattle.capnp_words.specs.Meter.{Meter}
use Rattle.capnp_format.specs.Segments.{segment, IsPlace}
use Rattle.capnp_format.specs.Tree.{Trees, Elements, no_elements, count}
use Rattle.capnp_format.specs.Canonical.{cut_to, word_count_all, word_count_elements}
use Rattle.capnp_arena_traits.specs.View.{View}
use Rattle.capnp_arena_traits.specs.Written.{with_segment, with_words, overwritten}
use Rattle.capnp_allocation.specs.Filled.{IsElementFilled}
use Rattle.capnp_allocation.specs.Memory.{KeepsMemory}
use Rattle.capnp_pointers.specs.Outcomes.{ReadsAll}
use Rattle.capnp_pointers.specs.Reading.{Reading, place_past, words_from}
use Rattle.capnp_pointers.specs.Wanted.{Form}
use Rattle.capnp_pointers.proofs.WholeValue.ChildrenRead.{with_last_element}
use Rattle.capnp_pointers.proofs.WholeValue.WordsAdded.{words-with_last_element}
use Rattle.capnp_copies.specs.Changes.{CopyCall, copy_call, StayInSegment, EndsInZeros, CopiesChildren, CopiesRows}
use Rattle.capnp_copies.specs.Forms.{kept_each, kept_elements}
use Rattle.capnp_copies.specs.Copied.{with_children}
use Rattle.capnp_copies.proofs.Shapes.{rows_laid}
use Rattle.capnp_copies.proofs.CopiesNear.{call_of, CopiesChildren as ChildrenCopied, CopiesElement as ElementCopied}
use Rattle.capnp_copies.specs.declared.widths.ElementSizes.{ElementSizes}
use Rattle.capnp_copies.proofs.ElementsLaid.{blank_rows, rows_begun}
use Rattle.capnp_copies.proofs.ElementSteps.{DataPut, children_put, ElementsFit, RowsCopied, AtRow, next_row, row_put}
use Rattle.capnp_copies.proofs.KeptChildren.{cut_kept}
use Rattle.capnp_copies.proofs.KeptForms.{SourceKept}
use Rattle.capnp_copies.proofs.SegmentsWritten.{not_written, length-with_words}
use Rattle.capnp_copies.proofs.StayingNear.{stay_first, stay_later}
use Rattle.capnp_allocation.specs.Makes.{call_at}

-- One element.

-- A call copies the kept sections of one element of a list of structs.
pub record CopiesElement (r : Reading) (sizes : ElementSizes) (c : CopyCall) : Type 0 where
  pub children : Trees
  pub counts : count children ≡ sizes.kept.pointers
  pub are_read : ReadsAll c.form (place_past r sizes.source.data_words) c.before c.after children
  pub made : IsElementFilled c.old.words c.new.words c.segment c.at
      (words_from r sizes.kept.data_words) (kept_each c.form children)
  pub memory : KeepsMemory c.old c.new
  pub stands :
      IsPlace c.old.words c.segment c.at →
      StayInSegment c.old c.new c.segment (word_count_all (kept_each c.form children))
      → c.new.words
      ≡ with_segment c.old.words c.segment
      (with_children (overwritten (segment c.old.words c.segment) c.at
      (words_from r sizes.kept.data_words)) (c.at
      + sizes.kept.data_words) (kept_each c.form children))

-- The kept data words of an element are written at a place.
pub record IsPut (r : Reading) (sizes : ElementSizes) (old mid : View) (s p : ℕ) : Type 0 where
  pub long : length (words_from r sizes.kept.data_words) ≡ sizes.kept.data_words
  pub room : p + sizes.kept.data_words ≤ length (segment old.words s)
  pub writes : mid ≡ record old { words = with_words old.words s p (words_from r sizes.kept.data_words) }

pub element_tight : {r : Reading} {sizes : ElementSizes} {s p : ℕ} {old mid new : View} {m m' : Meter} (b : Form) → IsPut r sizes old mid s p → (children : CopiesChildren (place_past r sizes.source.data_words) sizes.kept.pointers (copy_call b (call_at s (p + sizes.kept.data_words) mid new) m m')) →
    IsPlace old.words s p → StayInSegment old new s (word_count_all (kept_each b children.children)) →
    new.words ≡ with_segment old.words s (with_children (overwritten (segment old.words s) p (words_from r sizes.kept.data_words)) (p + sizes.kept.data_words) (kept_each b children.children))
element_tight {r} {sizes} {s} {p} {old} {mid} {new} {m} {m'} b put children place fits =
    let us : List ℕ = words_from r sizes.kept.data_words in
    let long : length (segment mid.words s) ≡ length (segment old.words s) = ap (λ (v : View). length (segment v.words s)) put.writes ∙ length-with_words old.words s p us (omega (arith, put.long, put.room)) in
    let room : mid.room s ≡ old.room s = ap (λ (v : View). v.room s) put.writes in
    let one : ChildrenCopied (place_past r sizes.source.data_words) sizes.kept.pointers (call_of b mid new s m m') (p + sizes.kept.data_words) =
    record { children = children.children; counts = children.counts; are_read = children.are_read; made = children.stands (stay_later old mid new s s (word_count_all (kept_each b children.children)) (word_count_all (kept_each b children.children)) (λ f. omega (arith, f, long, room)) fits) } in
    let written : DataPut r sizes old mid s p us = record { place = place; are_words = refl; counts = put.long; writes = put.writes } in
    children_put written one

-- Elements, one after the other.

pub no_row_tight : (b : Form) (sizes : ElementSizes) (s p n : ℕ) (v : View) (m : Meter) → EndsInZeros (copy_call b (call_at s p v v) m m) ((0 + n) * (sizes.kept.data_words + sizes.kept.pointers)) →
    v.words ≡ with_segment v.words s (rows_laid (take p (segment v.words s)) sizes.kept.data_words sizes.kept.pointers no_elements n)
no_row_tight b sizes s p n v m last =
    let none : 0 + n ≡ n = omega arith in
    not_written v.words s
    ∙ ap (with_segment v.words s) (rows_begun (segment v.words s) p n sizes.kept (subst (λ k. p + k * (sizes.kept.data_words + sizes.kept.pointers) ≡ length (segment v.words s)) none last.ends) last.zero)

pub no_width_tight : (b : Form) (sizes : ElementSizes) (s p n : ℕ) (v : View) (m : Meter) (es : Elements) → sizes.kept.data_words + sizes.kept.pointers ≡ 0 → EndsInZeros (copy_call b (call_at s p v v) m m) ((n + 0) * (sizes.kept.data_words + sizes.kept.pointers)) →
    v.words ≡ with_segment v.words s (rows_laid (take p (segment v.words s)) sizes.kept.data_words sizes.kept.pointers (cut_kept b sizes es) 0)
no_width_tight b sizes s p n v m es none last =
    let W : List ℕ = segment v.words s in
    let nothing : (n + 0) * (sizes.kept.data_words + sizes.kept.pointers) ≡ (n + 0) * 0 = ap (λ i. (n + 0) * i) none in
    let end : length W ≤ p = omega (arith, last.ends, nothing) in
    not_written v.words s ∙ ap (with_segment v.words s) (sym (blank_rows sizes.kept.data_words sizes.kept.pointers (take p W) (kept_elements b es) none ∙ take_all p W end))

pub row_tight : {r : Reading} {sizes : ElementSizes} {n i s p : ℕ} {old mid new : View} {m m' m'' : Meter} (b : Form) → IsPlace old.words s p → length old.words ≤ length mid.words → length mid.words ≤ length new.words → SourceKept b r sizes n → 0 < sizes.kept.data_words + sizes.kept.pointers → i < n → (first : CopiesRows r sizes i (n - i) (copy_call b (call_at s p old mid) m m')) →
    (next : CopiesElement (place_past r (i * (sizes.source.data_words + sizes.source.pointers))) sizes (copy_call b (call_at s (p + i * (sizes.kept.data_words + sizes.kept.pointers)) mid new) m' m'')) → (all : Elements) →
    cut_to sizes.kept.data_words sizes.kept.pointers (kept_elements b all)
    ≡ with_last_element (cut_to sizes.kept.data_words sizes.kept.pointers (kept_elements b first.elements)) (words_from (place_past r (i * (sizes.source.data_words + sizes.source.pointers))) sizes.kept.data_words) (kept_each b next.children) →
    EndsInZeros (copy_call b (call_at s p old new) m m'') ((i + 1 + (n - (i + 1))) * (sizes.kept.data_words + sizes.kept.pointers)) → StayInSegment old new s (word_count_elements (cut_kept b sizes all)) →
    new.words ≡ with_segment old.words s (rows_laid (take p (segment old.words s)) sizes.kept.data_words sizes.kept.pointers (cut_kept b sizes all) (n - (i + 1)))
row_tight {r} {sizes} {n} {i} {s} {p} {old} {mid} {new} {m} {m'} {m''} b place grows longer fit wide more first next all shape last fits =
    let w : ℕ = sizes.kept.data_words + sizes.kept.pointers in
    let us : List ℕ = words_from (place_past r (i * (sizes.source.data_words + sizes.source.pointers))) sizes.kept.data_words in
    let fs : Elements = cut_kept b sizes first.elements in
    let ts : Trees = kept_each b next.children in
    let words : word_count_elements (cut_kept b sizes all) ≡ word_count_elements fs + word_count_all ts = ap word_count_elements shape ∙ words-with_last_element fs us ts in
    let to_n : i + 1 + (n - (i + 1)) ≡ n = omega (arith, more) in
    let to_i : n ≡ i + (n - i) = omega (arith, more) in
    let ends : p + n * w ≡ length (segment old.words s) = subst (λ k. p + k * w ≡ length (segment old.words s)) to_n last.ends in
    let before : EndsInZeros (copy_call b (call_at s p old mid) m m') ((i + (n - i)) * w) = record { ends = subst (λ k. p + k * w ≡ length (segment old.words s)) to_i ends; zero = last.zero } in
    let rows : RowsCopied r sizes i (n - i) (call_of b old mid s m m') p =
    record { elements = first.elements; counts = first.counts; are_read = first.are_read; made = first.stands before (stay_first old mid new s p (word_count_elements (cut_kept b sizes all)) (word_count_elements fs) (omega (arith, words)) place grows longer fits) } in
    let fitting : ElementsFit r sizes n (segment old.words s) p = record { room = ends; inside = fit.inside; less_data = fit.less_data; less_pointers = fit.less_pointers } in
    let here : AtRow r sizes n i w (call_of b old mid s m m') p = record { fits = fitting; width = refl; wide = wide; more = more; rows = rows } in
    let x = next_row here in
    let room : mid.room s ≡ old.room s = first.memory.1 s x.there in
    let one : ElementCopied (place_past r (i * (sizes.source.data_words + sizes.source.pointers))) sizes (call_of b mid new s m' m'') (p + i * w) =
    record { children = next.children; counts = next.counts; are_read = next.are_read; made = next.stands (omega (arith, x.room, wide)) (stay_later old mid new s s (word_count_elements (cut_kept b sizes all)) (word_count_all ts) (λ f. omega (arith, f, words, x.long, room)) fits) } in
    row_put here one ∙ ap (λ y. with_segment old.words s (rows_laid (take p (segment old.words s)) sizes.kept.data_words sizes.kept.pointers y (n - (i + 1)))) (sym shape)

pub all_rows : {r : Reading} {sizes : ElementSizes} {i n s p : ℕ} {b : Form} {old new : View} {m m' : Meter} → n ≤ i → i ≤ n → CopiesRows r sizes i (n - i) (copy_call b (call_at s p old new) m m') → CopiesRows r sizes n 0 (copy_call b (call_at s p old new) m m')
all_rows {r} {sizes} {i} {n} {s} {p} {b} {old} {new} {m} {m'} le ge rows =
    let same : i ≡ n = omega (arith, le, ge) in
    let none : n - i ≡ 0 = omega (arith, le) in
    subst (λ j. CopiesRows r sizes j 0 (copy_call b (call_at s p old new) m m')) same (subst (λ k. CopiesRows r sizes i k (copy_call b (call_at s p old new) m m')) none rows)
