-- A list of structs that is copied into the segment of its pointer, once its words are allocated:
-- its elements.
use Rattle.std.proofs.Common.{◌≡◌, ℕ, ◌+◌, ◌*◌, ◌<◌, ◌≤◌, ◌∷◌, ◌++◌, List, [], length, set, take, replicate, sym, ap, ap₂, ◌∙◌, arith, append_assoc, append-nil}
use Rattle.std.proofs.Math.Seq.{take-append-add}
use Rattle.capnp_words.specs.declared.wire_pointer.StructSize.{StructSize}
use Rattle.capnp_words.specs.Meter.{Meter}
use Rattle.capnp_format.specs.Word.{struct_word, list_word}
use Rattle.capnp_format.specs.Segments.{Segments, segment, IsPlace}
use Rattle.capnp_format.specs.Tree.{Structs, Elements, element_count}
use Rattle.capnp_format.specs.Canonical.{trim, trim_elements, cut_to, pointer, rows, element_bodies, offset_to}
use Rattle.capnp_arena_traits.specs.View.{View}
use Rattle.capnp_arena_traits.specs.Written.{with_segment, with_word}
use Rattle.capnp_pointers.specs.Reading.{Reading, segment_read}
use Rattle.capnp_pointers.specs.Wanted.{Form}
use Rattle.capnp_copies.specs.Forms.{kept_elements}
use Rattle.capnp_copies.proofs.Shapes.{rows_laid}
use Rattle.capnp_copies.proofs.InPlace.{IsCopied}
use Rattle.capnp_copies.proofs.CopiesNear.{TakesWords}
use Rattle.capnp_copies.proofs.CopiesNear.{call_of, CopiesElements}
use Rattle.capnp_copies.proofs.Scanning.{data_used, pointers_used}
use Rattle.capnp_copies.proofs.Copying.{there}
use Rattle.capnp_copies.proofs.KeptChildren.{cut_kept-count}
use Rattle.capnp_copies.proofs.LeastWidths.{data_where_meant, pointers_where_meant}
use Rattle.capnp_copies.proofs.SegmentsWritten.{then_written}
use Rattle.capnp_copies.proofs.UsedChildren.{trim-structs}
use Rattle.capnp_pointers.proofs.WholeValue.Shorthands.{ElementsMean}

-- The sections are the least that lose nothing of i elements.
pub record AreLeast (r : Reading) (size least : StructSize) (i : ℕ) : Type 0 where
  pub of_data : least.data_words ≡ data_used (segment_read r) r.at size.data_words size.pointers i
  pub of_pointers : least.pointers ≡ pointers_used (segment_read r) r.at size.data_words size.pointers i

-- The canonical form of a list of structs that is meant.

pub trimmed_list : {r : Reading} {size least : StructSize} {i : ℕ} (es : Elements) (c : ℕ) → r.at + i * (size.data_words + size.pointers) ≤ length (segment_read r) → AreLeast r size least i → element_count es ≡ i → ElementsMean r size es c →
    trim (Structs size.data_words size.pointers es) ≡ Structs least.data_words least.pointers (cut_to least.data_words least.pointers (trim_elements es))
trimmed_list {r} {size} {least} {i} es c inside is_least len all =
    let d : ℕ = size.data_words in
    let q : ℕ = size.pointers in
    let of_data : data_used (segment_read r) r.at d q (element_count es) ≡ least.data_words = rw len (sym is_least.of_data) in
    let of_pointers : pointers_used (segment_read r) r.at d q (element_count es) ≡ least.pointers = rw len (sym is_least.of_pointers) in
    trim-structs d q es
    ∙ ap₂ (λ j k. Structs j k (cut_to j k (trim_elements es))) (data_where_meant r size es c all ∙ of_data)
    (pointers_where_meant r size es c (rw len inside) all ∙ of_pointers)

-- The words of a list are allocated: its tag, with the sections that are kept, and zero words for
-- its elements.
pub record ListBegun (least : StructSize) (i : ℕ) (old mid : View) (id at head : ℕ) : Type 0 where
  pub place : IsPlace old.words id at
  pub taken : TakesWords old mid id head (struct_word i least.data_words least.pointers ∷ replicate (i * (least.data_words + least.pointers)) 0)

-- The tag of a list of structs, and its elements, once they are written, and the list's pointer.
pub list_put : {b : Form} {r : Reading} {size least : StructSize} {i count : ℕ} {old mid last new : View} {id at head x : ℕ} {m m' : Meter} → ListBegun least i old mid id at head → (elements : CopiesElements r (record { count = count; source = size; kept = least }) i (call_of b mid last id m m') (head + 1)) →
    x ≡ list_word (offset_to at (length (segment old.words id))) 7 (i * (least.data_words + least.pointers)) → new ≡ record last { words = with_word last.words id at x } → IsCopied old.words new.words id at (Structs least.data_words least.pointers (cut_to least.data_words least.pointers (kept_elements b elements.elements)))
list_put {b} {r} {size} {least} {i} {old} {mid} {last} {new} {id} {at} {head} {x} begun elements word writes =
    let M : Segments = old.words in
    let W : List ℕ = segment M id in
    let id_there : id < length M = there M id at begun.place in
    let e : ℕ = least.data_words in
    let q : ℕ = least.pointers in
    let es : Elements = cut_to e q (kept_elements b elements.elements) in
    let len : element_count es ≡ i = cut_kept-count b e q elements.elements ∙ elements.counts in
    let put : last.words ≡ with_segment mid.words id (rows_laid (take (length W + 1) (segment mid.words id)) e q es 0) = rw (sym begun.taken.starts) elements.made in
    let tag : ℕ = struct_word i e q in
    let Z : List ℕ = replicate (i * (e + q)) 0 in
    let front : take (length W + 1) (W ++ (tag ∷ Z)) ≡ W ++ tag ∷ [] = take-append-add W (tag ∷ Z) 1 in
    let laid : rows_laid (W ++ tag ∷ []) e q es 0 ≡ W ++ ((tag ∷ rows e q 0 es) ++ element_bodies es) =
    ap (λ j. W ++ tag ∷ [] ++ rows e q j es ++ replicate j 0 ++ element_bodies es) (let z : 0 * (e + q) ≡ 0 = omega arith in z) ∙ simp (append_assoc, append-nil) in
    let same : x ≡ pointer (Structs e q es) (offset_to at (length W)) = word ∙ ap (λ j. list_word (offset_to at (length W)) 7 (j * (e + q))) (sym len) in
    let second = then_written M id (W ++ (tag ∷ Z)) (λ xs. rows_laid (take (length W + 1) xs) e q es 0) (id_there, ap (λ (v : View). v.words) begun.taken.extends) put in
    then_written M id (rows_laid (take (length W + 1) (W ++ (tag ∷ Z))) e q es 0) (λ xs. set xs at x) (id_there, second) (ap (λ (v : View). v.words) writes)
    ∙ ap (with_segment M id) (ap₂ (λ xs y. set xs at y) (ap (λ xs. rows_laid xs e q es 0) front ∙ laid ∙ ap (λ j. W ++ ((struct_word j e q ∷ rows e q 0 es) ++ element_bodies es)) (sym len)) same)
