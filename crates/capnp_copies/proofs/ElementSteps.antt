-- The elements of a list of structs that are copied into its segment: one element, and the next
-- row.
use Rattle.std.proofs.Common.{◌≡◌, ℕ, suc, ◌+◌, ◌-◌, ◌*◌, ◌<◌, ◌≤◌, List, get_or, length, take, refl, sym, ap, ◌∙◌, arith, length-take}
use Rattle.capnp_words.specs.Meter.{Meter}
use Rattle.capnp_format.specs.Segments.{Segments, segment, word_at, words_at, IsPlace}
use Rattle.capnp_format.specs.Tree.{Trees, Elements, element_count}
use Rattle.capnp_format.specs.Canonical.{cut_to, word_count_elements}
use Rattle.capnp_format.proofs.Slices.{length_words}
use Rattle.capnp_arena_traits.specs.View.{View}
use Rattle.capnp_arena_traits.specs.Written.{with_segment, with_words, overwritten}
use Rattle.capnp_pointers.specs.Outcomes.{ReadsElements}
use Rattle.capnp_pointers.specs.Reading.{Reading, place_past, segment_read, words_from}
use Rattle.capnp_pointers.specs.Wanted.{Form}
use Rattle.capnp_pointers.proofs.WholeValue.ChildrenRead.{with_last_element}
use Rattle.capnp_copies.specs.Forms.{kept_each, kept_elements}
use Rattle.capnp_copies.specs.Copied.{with_children}
use Rattle.capnp_copies.proofs.CopiesNear.{Call, call_of, CopiesChildren, CopiesElement}
use Rattle.capnp_copies.specs.declared.widths.ElementSizes.{ElementSizes}
use Rattle.capnp_copies.proofs.Copying.{there}
use Rattle.capnp_copies.proofs.ElementsCopied.{element_put}
use Rattle.capnp_copies.proofs.ElementsLaid.{Laid, length_laid, row_null}
use Rattle.capnp_copies.proofs.KeptChildren.{kept_each-count, cut_kept, cut_kept-count, kept_elements-shaped}
use Rattle.capnp_copies.proofs.SegmentsWritten.{then_written, words_written}
use Rattle.capnp_copies.proofs.Shapes.{rows_laid, AreShapedElements, elements_shaped, cut_to-shaped}

-- One element.

-- The kept data words us of an element are written at its row.
pub record DataPut (r : Reading) (sizes : ElementSizes) (old mid : View) (id at : ℕ) (us : List ℕ) : Type 0 where
  pub place : IsPlace old.words id at
  pub are_words : us ≡ words_from r sizes.kept.data_words
  pub counts : length us ≡ sizes.kept.data_words
  pub writes : mid ≡ record old { words = with_words old.words id at us }

-- The children of an element, once its words are written.
pub children_put : {b : Form} {r : Reading} {sizes : ElementSizes} {old mid new : View} {id at : ℕ} {us : List ℕ} {m m' : Meter} → DataPut r sizes old mid id at us →
    (children : CopiesChildren (place_past r sizes.source.data_words) sizes.kept.pointers (call_of b mid new id m m') (at + sizes.kept.data_words)) →
    new.words ≡ with_segment old.words id (with_children (overwritten (segment old.words id) at (words_from r sizes.kept.data_words)) (at + sizes.kept.data_words) (kept_each b children.children))
children_put {b} {r} {sizes} {old} {mid} {new} {id} {at} {us} put children =
    let e : ℕ = sizes.kept.data_words in
    let W : List ℕ = segment old.words id in
    let ts : Trees = children.children in
    then_written old.words id (overwritten W at us) (λ xs. with_children xs (at + e) (kept_each b ts)) (there old.words id at put.place, ap (λ (v : View). v.words) put.writes) children.made
    ∙ ap (λ xs. with_segment old.words id (with_children (overwritten W at xs) (at + e) (kept_each b ts))) put.are_words

-- The elements are inside the source. Their rows, with the sections of the copy, are the last of
-- the words W, from position `at` on.
pub record ElementsFit (r : Reading) (sizes : ElementSizes) (n : ℕ) (W : List ℕ) (at : ℕ) : Type 0 where
  pub room : at + n * (sizes.kept.data_words + sizes.kept.pointers) ≡ length W
  pub inside : r.at + n * (sizes.source.data_words + sizes.source.pointers) ≤ length (segment_read r)
  pub less_data : sizes.kept.data_words ≤ sizes.source.data_words
  pub less_pointers : sizes.kept.pointers ≤ sizes.source.pointers

-- The first i elements are copied, and the rows of `left` others are still zero.
pub record RowsCopied (r : Reading) (sizes : ElementSizes) (i left : ℕ) (c : Call) (at : ℕ) : Type 0 where
  pub elements : Elements
  pub counts : element_count elements ≡ i
  pub are_read : ReadsElements c.form r sizes.source c.before c.after elements
  pub made :
      c.new.words
      ≡ with_segment c.old.words c.id
      (rows_laid (take at (segment c.old.words c.id)) sizes.kept.data_words sizes.kept.pointers (cut_to sizes.kept.data_words sizes.kept.pointers (kept_elements c.form elements)) left)

-- Elements without width.

-- The loop over n elements is at element i, with rows of w words.
pub record AtRow (r : Reading) (sizes : ElementSizes) (n i w : ℕ) (c : Call) (at : ℕ) : Type 0 where
  pub fits : ElementsFit r sizes n (segment c.old.words c.id) at
  pub width : w ≡ sizes.kept.data_words + sizes.kept.pointers
  pub wide : 0 < w
  pub more : i < n
  pub rows : RowsCopied r sizes i (n - i) c at

-- The row of the next element is in the segment, and null where its pointers go. The rows es of the
-- elements before it have one size.
pub record NextRow (old mid : View) (sizes : ElementSizes) (id at i w : ℕ) (es : Elements) : Type 0 where
  pub there : id < length old.words
  pub shaped : AreShapedElements sizes.kept.data_words sizes.kept.pointers es
  pub counts : element_count es ≡ i
  pub starts : at + i * w ≡ length (take at (segment old.words id)) + element_count es * (sizes.kept.data_words + sizes.kept.pointers)
  pub long : length (segment mid.words id) ≡ length (segment old.words id) + word_count_elements es
  pub room : at + i * w + (sizes.kept.data_words + sizes.kept.pointers) ≤ length (segment mid.words id)
  pub null : (j : ℕ) → j < sizes.kept.pointers → word_at mid.words id (at + i * w + sizes.kept.data_words + j) ≡ 0

pub next_row : {b : Form} {r : Reading} {sizes : ElementSizes} {n i w id at : ℕ} {old mid : View} {m m' : Meter} (here : AtRow r sizes n i w (call_of b old mid id m m') at) → NextRow old mid sizes id at i w (cut_kept b sizes here.rows.elements)
next_row {b} {r} {sizes} {n} {i} {w} {id} {at} {old} {mid} here =
    let M : Segments = old.words in
    let e : ℕ = sizes.kept.data_words in
    let q : ℕ = sizes.kept.pointers in
    let d : ℕ = sizes.source.data_words in
    let v : ℕ = sizes.source.pointers in
    let es : Elements = here.rows.elements in
    let fs : Elements = cut_to e q (kept_elements b es) in
    let k : ℕ = n - i in
    let F : List ℕ = take at (segment M id) in
    let X : List ℕ = rows_laid F e q fs k in
    let before : suc i * (e + q) ≤ n * (e + q) = (let less : suc i ≤ n = here.more in grind arith) in
    let id_there : id < length M = there M id at (omega (arith, here.width, here.wide, here.fits.room)) in
    let are_shaped : AreShapedElements e q fs =
    cut_to-shaped sizes.source sizes.kept (kept_elements b es) here.fits.less_data here.fits.less_pointers
    (kept_elements-shaped b d v es (elements_shaped r sizes.source es here.rows.are_read.cost here.rows.are_read.means)) in
    let count_fs : element_count fs ≡ i = cut_kept-count b e q es ∙ here.rows.counts in
    let parts : n * (e + q) ≡ i * (e + q) + k * (e + q) = ap (λ j. j * (e + q)) (let f : n ≡ i + k = omega (arith, here.more) in f) ∙ (let f : (i + k) * (e + q) ≡ i * (e + q) + k * (e + q) = grind arith in f) in
    let fits : at + n * (e + q) ≡ length (segment M id) = here.fits.room in
    let lf : length F ≡ at = omega (arith, length-take at (segment M id)) in
    let iw : i * w ≡ i * (e + q) = ap (λ j. i * j) here.width in
    let cw : element_count fs * (e + q) ≡ i * (e + q) = ap (λ j. j * (e + q)) count_fs in
    let same : segment mid.words id ≡ X = words_written M mid.words id X id_there here.rows.made in
    let lx : length X ≡ length F + element_count fs * (e + q) + k * (e + q) + word_count_elements fs = length_laid F e q k fs are_shaped in
    let lk : length (segment mid.words id) ≡ length X = ap length same in
    let row_there : i * (e + q) + (e + q) ≤ n * (e + q) = omega (arith, before) in
    let laid : Laid = record { front = F; size = sizes.kept; elements = fs; shaped = are_shaped } in
    record {
      there = id_there;
      shaped = are_shaped;
      counts = count_fs;
      starts = omega arith;
      long = omega arith;
      room = omega arith;
      null = λ j b. ap (λ xs. get_or xs (at + i * w + e + j) 0) same ∙ row_null laid k (at + i * w + e + j) (omega arith) (omega arith);
    }

pub next_inside : {r : Reading} {sizes : ElementSizes} {n i w at : ℕ} {c : Call} (width : ℕ) → AtRow r sizes n i w c at → width ≡ sizes.source.data_words + sizes.source.pointers → r.at + i * width + (sizes.source.data_words + sizes.source.pointers) ≤ length (segment_read r)
next_inside {r} {sizes} {n} {i} width here is =
    let a : ℕ = sizes.source.data_words + sizes.source.pointers in
    let less : suc i ≤ n = here.more in
    rw is (let f : suc i * a ≤ n * a = grind arith in omega (arith, f, here.fits.inside))

-- The words of the next element, and of its children, once they are written.
pub row_put : {b : Form} {r : Reading} {sizes : ElementSizes} {n i w id at : ℕ} {old mid new : View} {m m' m'' : Meter} (here : AtRow r sizes n i w (call_of b old mid id m m') at) →
    (next : CopiesElement (place_past r (i * (sizes.source.data_words + sizes.source.pointers))) sizes (call_of b mid new id m' m'') (at + i * w)) →
    new.words
    ≡ with_segment old.words id
    (rows_laid (take at (segment old.words id)) sizes.kept.data_words sizes.kept.pointers
    (with_last_element (cut_kept b sizes here.rows.elements) (words_at r.segments r.segment (r.at + i * (sizes.source.data_words + sizes.source.pointers)) sizes.kept.data_words) (kept_each b next.children)) (n - (i + 1)))
row_put {b} {r} {sizes} {n} {i} {w} {id} {at} {old} {mid} {new} {m} {m'} {m''} here next =
    let M : Segments = old.words in
    let d : ℕ = sizes.source.data_words in
    let v : ℕ = sizes.source.pointers in
    let e : ℕ = sizes.kept.data_words in
    let q : ℕ = sizes.kept.pointers in
    let fs : Elements = cut_to e q (kept_elements b here.rows.elements) in
    let ts : Trees = next.children in
    let x = next_row here in
    let left : ℕ = n - (i + 1) in
    let more : n - i ≡ suc left = omega (arith, here.more) in
    let us : List ℕ = words_at r.segments r.segment (r.at + i * (d + v)) e in
    let inside : r.at + i * (d + v) + (d + v) ≤ length (segment_read r) = next_inside (d + v) here refl in
    let count_us : length us ≡ e = length_words r.segments r.segment (r.at + i * (d + v)) e (omega (arith, here.fits.less_data)) in
    let F : List ℕ = take at (segment M id) in
    let laid : Laid = record { front = F; size = sizes.kept; elements = fs; shaped = x.shaped } in
    let before : mid.words ≡ with_segment M id (rows_laid F e q fs (suc left)) = rw (sym more) here.rows.made in
    then_written M id (rows_laid F e q fs (suc left)) (λ xs. with_children (overwritten xs (at + i * w) us) (at + i * w + e) (kept_each b ts)) (x.there, before) next.made
    ∙ ap (with_segment M id) (element_put laid left us (kept_each b ts) (count_us, kept_each-count b ts ∙ next.counts) x.starts)
