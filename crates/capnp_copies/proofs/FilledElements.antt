-- The elements of a list of structs are copied to a message of any number of segments: none yet,
-- one more element, and an element that stops the copy.
use Rattle.std.proofs.Common.{◌≡◌, inl, inr, ℕ, suc, ◌+◌, ◌-◌, ◌*◌, ◌^◌, ◌<◌, ◌≤◌, List, length, take, drop, refl, sym, ap, ◌∙◌, subst, arith}
use Rattle.capnp_words.specs.declared.error.ErrorKind.{ErrorKind}
use Rattle.capnp_words.specs.Meter.{Meter}
use Rattle.capnp_format.specs.Segments.{Segments, Grows, segment, word_at, IsPlace}
use Rattle.capnp_format.specs.Tree.{Trees, Elements, no_elements, element, count, element_count}
use Rattle.capnp_format.specs.Canonical.{cut_to}
use Rattle.capnp_format.proofs.Slices.{length_words}
use Rattle.capnp_arena_traits.specs.View.{View}
use Rattle.capnp_arena_traits.specs.Written.{with_segment, with_words}
use Rattle.capnp_allocation.specs.Filled.{AreFilled, IsElementFilled, AreElementsFilled}
use Rattle.capnp_allocation.specs.Memory.{SpendsMemory}
use Rattle.capnp_allocation.proofs.FillingChains.{element_grows, elements_grow, elements_ahead}
use Rattle.capnp_allocation.proofs.Memory.{keeps_itself, keeps_both, keeps_written, keeps_then_spends, words_refused_after}
use Rattle.capnp_allocation.proofs.WordsPut.{words_put}
use Rattle.capnp_pointers.specs.Outcomes.{ReadsAll}
use Rattle.capnp_pointers.specs.Reading.{Reading, place_past, segment_read, words_from, pointers_of}
use Rattle.capnp_pointers.specs.Wanted.{Form, canonical}
use Rattle.capnp_pointers.proofs.WholeValue.ChildrenRead.{read_no_element, with_last_element}
use Rattle.capnp_pointers.proofs.WholeValue.WordsAdded.{row_within}
use Rattle.capnp_copies.specs.Changes.{CopyCall, copy_call, HasNulls, CopiesChildren, StopsAtChildren, CopiesRows, StopsAtElements, RefusesToCopy}
use Rattle.capnp_copies.specs.Forms.{kept_each, kept_elements}
use Rattle.capnp_copies.specs.declared.widths.ElementSizes.{ElementSizes}
use Rattle.capnp_copies.proofs.TightElements.{CopiesElement, element_tight, no_row_tight, no_width_tight, row_tight}
use Rattle.capnp_copies.proofs.SegmentsWritten.{length-with_words}
use Rattle.capnp_copies.proofs.Originals.{AreTooLarge, children_refused, refuses_children, elements_large}
use Rattle.capnp_copies.proofs.Copying.{there}
use Rattle.capnp_copies.proofs.NoRoom.{row_comes}
use Rattle.capnp_copies.proofs.ObjectsMade.{TakesForCopy}
use Rattle.capnp_copies.specs.Originals.{children_original, elements_original}
use Rattle.capnp_copies.proofs.TooLarge.{row_too_large}
use Rattle.capnp_copies.proofs.Shapes.{rows_laid}
use Rattle.capnp_copies.proofs.KeptChildren.{kept_each-count, kept_no_elements, cut_kept-count}
use Rattle.capnp_copies.proofs.KeptForms.{SourceKept, one_more, stops_sooner, blank_elements, nothing_filled}
use Rattle.capnp_pointers.proofs.WholeValue.Shorthands.{RefusedAll}
use Rattle.capnp_allocation.specs.Makes.{call_at}

-- One element.

-- A call that copies the kept sections of an element is refused.
pub record StopsAtElement (r : Reading) (sizes : ElementSizes) (c : CopyCall) (k : ErrorKind) : Type 0 where
  pub why : RefusesToCopy (children_original (place_past r sizes.source.data_words) sizes.kept.pointers) c k
  pub left : Trees
  pub few : count left ≤ sizes.kept.pointers
  pub made : IsElementFilled c.old.words c.new.words c.segment c.at (words_from r sizes.kept.data_words) left
  pub memory : SpendsMemory c.old c.new k

-- The kept data words of an element are written at a place.
pub record DataWritten (r : Reading) (sizes : ElementSizes) (old mid : View) (s p : ℕ) : Type 0 where
  pub inside : r.at + sizes.kept.data_words ≤ length (segment_read r)
  pub room : p + sizes.kept.data_words ≤ length (segment old.words s)
  pub writes : mid ≡ record old { words = with_words old.words s p (words_from r sizes.kept.data_words) }

data_long : {r : Reading} {sizes : ElementSizes} {old mid : View} {s p : ℕ} → DataWritten r sizes old mid s p → length (words_from r sizes.kept.data_words) ≡ sizes.kept.data_words
data_long {r} {sizes} put = length_words r.segments r.segment r.at sizes.kept.data_words put.inside

same_segments : {r : Reading} {sizes : ElementSizes} {old mid : View} {s p : ℕ} → DataWritten r sizes old mid s p → length old.words ≤ length mid.words
same_segments {r} {sizes} {old} {mid} {s} {p} put =
    let laid = words_put old.words mid.words s p (words_from r sizes.kept.data_words) (omega (arith, data_long put, put.room)) (ap (λ (v : View). v.words) put.writes) in
    omega (arith, laid.long.segments)

element_made : {r : Reading} {sizes : ElementSizes} {old mid : View} {s p : ℕ} (new : View) (ts : Trees) → DataWritten r sizes old mid s p → AreFilled mid.words new.words s (p + sizes.kept.data_words) ts → IsElementFilled old.words new.words s p (words_from r sizes.kept.data_words) ts
element_made {r} {sizes} {old} {mid} {s} {p} new ts put f =
    record { written = mid.words; writes = ap (λ (v : View). v.words) put.writes; filled = subst (λ i. AreFilled mid.words new.words s (p + i) ts) (sym (data_long put)) f }

pub element_copied : {r : Reading} {sizes : ElementSizes} {b : Form} {s p : ℕ} {old mid new : View} {m m' : Meter} → DataWritten r sizes old mid s p → CopiesChildren (place_past r sizes.source.data_words) sizes.kept.pointers (copy_call b (call_at s (p + sizes.kept.data_words) mid new) m m') →
    CopiesElement r sizes (copy_call b (call_at s p old new) m m')
element_copied {r} {sizes} {b} {s} {p} {old} {mid} {new} put children = record {
  children = children.children;
  counts = children.counts;
  are_read = children.are_read;
  made = element_made new (kept_each b children.children) put children.made;
  memory = keeps_both old mid new (same_segments put) (keeps_written old mid _ put.writes) children.memory;
  stands = element_tight {r = r} {sizes = sizes} b (record { long = data_long put; room = put.room; writes = put.writes }) children;
}

data_long_as : {r : Reading} {sizes : ElementSizes} {s p : ℕ} {old mid : View} → DataWritten r sizes old mid s p → length (segment mid.words s) ≡ length (segment old.words s)
data_long_as {r} {sizes} {s} {p} {old} put =
    ap (λ (v : View). length (segment v.words s)) put.writes ∙ length-with_words old.words s p (words_from r sizes.kept.data_words) (omega (arith, data_long put, put.room))

data_room_as : {r : Reading} {sizes : ElementSizes} {s p : ℕ} {old mid : View} → DataWritten r sizes old mid s p → mid.room s ≡ old.room s
data_room_as {s = s} put = ap (λ (v : View). v.room s) put.writes

element_too_large : (b : Form) (from : Reading) (n : ℕ) {r : Reading} {sizes : ElementSizes} {s p : ℕ} {old mid : View} → DataWritten r sizes old mid s p → AreTooLarge b from n (length (segment mid.words s)) (mid.room s) → AreTooLarge b from n (length (segment old.words s)) (old.room s)
element_too_large b from n {r} {sizes} {s} {p} {old} {mid} put large =
    subst (AreTooLarge b from n (length (segment old.words s))) (data_room_as put) (subst (λ k. AreTooLarge b from n k (mid.room s)) (data_long_as put) large)

pub element_stops : {r : Reading} {sizes : ElementSizes} {b : Form} {s p : ℕ} {old mid new : View} {m m' : Meter} {k : ErrorKind} → DataWritten r sizes old mid s p →
    StopsAtChildren (place_past r sizes.source.data_words) sizes.kept.pointers (copy_call b (call_at s (p + sizes.kept.data_words) mid new) m m') k → StopsAtElement r sizes (copy_call b (call_at s p old new) m m') k
element_stops {r} {sizes} {b} {s} {p} {old} {mid} {new} {m} {m'} {k} put stop = record {
  why = refuses_children (place_past r sizes.source.data_words) sizes.kept.pointers (copy_call b (call_at s p old new) m m') k (elim (children_refused (place_past r sizes.source.data_words) sizes.kept.pointers (copy_call b (call_at s (p + sizes.kept.data_words) mid new) m m') k stop.why) [
    | inl x ↦ inl (
      (x.0.0, x.0.1, (words_refused_after old mid new x.0.0 k (keeps_written old mid _ put.writes) x.0.2.0, omega (arith, x.0.2.1, data_long_as put, data_room_as put))),
      element_too_large b (place_past r sizes.source.data_words) sizes.kept.pointers put x.1,
    )
    | inr x ↦ inr x
  ]);
  left = stop.left;
  few = stop.few;
  made = element_made new stop.left put stop.made;
  memory = keeps_then_spends old mid new k (same_segments put) (keeps_written old mid _ put.writes) stop.memory;
}

-- Elements, one after the other.

elements_more : (S R Q : Segments) (s p d q : ℕ) (es : Elements) (ws : List ℕ) (ts : Trees) → AreElementsFilled S R s p d q es → length ws ≡ d → count ts ≡ q → IsElementFilled R Q s (p + element_count es * (d + q)) ws ts → AreElementsFilled S Q s p d q (with_last_element es ws ts)
elements_more S R Q s p d q no_elements ws ts e long len one =
    (Q, long, len, subst (λ T. IsElementFilled T Q s p ws ts) e (subst (λ i. IsElementFilled R Q s i ws ts) (let f : p + 0 * (d + q) ≡ p = omega arith in f) one), refl)
elements_more S R Q s p d q (element vs us es) ws ts (M, a, b, first, rest) long len one =
    (M, a, b, first, elements_more M R Q s (p + d + q) d q es ws ts rest long len (subst (λ i. IsElementFilled R Q s i ws ts) (let f : p + suc (element_count es) * (d + q) ≡ p + d + q + element_count es * (d + q) = grind arith in f) one))

pub no_row : (r : Reading) (sizes : ElementSizes) (n : ℕ) (b : Form) (s p : ℕ) (v : View) (m : Meter) → CopiesRows r sizes 0 n (copy_call b (call_at s p v v) m m)
no_row r sizes n b s p v m = record {
  elements = no_elements;
  counts = refl;
  are_read = read_no_element b r sizes.source m;
  made = none b;
  memory = keeps_itself v;
  stands = λ last fits.
      no_row_tight b sizes s p n v m last
      ∙ ap (λ es. with_segment v.words s (rows_laid (take p (segment v.words s)) sizes.kept.data_words sizes.kept.pointers (cut_to sizes.kept.data_words sizes.kept.pointers es) n)) (sym (kept_no_elements b));
}
  where
    none : (b : Form) → AreElementsFilled v.words v.words s p sizes.kept.data_words sizes.kept.pointers (cut_to sizes.kept.data_words sizes.kept.pointers (kept_elements b no_elements))
    none canonical = refl
    none _ = refl

-- If no section is kept, there is nothing to copy.
pub no_width : (r : Reading) (sizes : ElementSizes) (n : ℕ) (b : Form) (s p : ℕ) (v : View) (m : Meter) → SourceKept b r sizes n → sizes.kept.data_words + sizes.kept.pointers ≡ 0 → CopiesRows r sizes n 0 (copy_call b (call_at s p v v) m m)
no_width r sizes n b s p v m fits none =
    let no_data : 0 ≡ sizes.kept.data_words = omega arith in
    let no_pointers : 0 ≡ sizes.kept.pointers = omega arith in
    let x = blank_elements b r sizes n m n (omega arith) fits (sym no_pointers) in
    record {
      elements = x.all;
      counts = x.counts;
      are_read = x.are_read;
      made = subst (λ q. AreElementsFilled v.words v.words s p sizes.kept.data_words q (cut_to sizes.kept.data_words q (kept_elements b x.all))) no_pointers
          (subst (λ d. AreElementsFilled v.words v.words s p d 0 (cut_to d 0 (kept_elements b x.all))) no_data (nothing_filled v.words s p (kept_elements b x.all)));
      memory = keeps_itself v;
      stands = λ last fits. no_width_tight b sizes s p n v m x.all none last;
    }

-- The loop over n elements is at element i; their rows of zeros are inside a segment.
pub record AtRow (r : Reading) (sizes : ElementSizes) (n i : ℕ) (b : Form) (s p : ℕ) (old mid : View) (m m' : Meter) : Type 0 where
  pub fits : SourceKept b r sizes n
  pub room : p + n * (sizes.kept.data_words + sizes.kept.pointers) ≤ length (segment old.words s)
  pub zero : (j : ℕ) → j < n * (sizes.kept.data_words + sizes.kept.pointers) → word_at old.words s (p + j) ≡ 0
  pub wide : 0 < sizes.kept.data_words + sizes.kept.pointers
  pub more : i < n
  pub rows : CopiesRows r sizes i (n - i) (copy_call b (call_at s p old mid) m m')

module _ {r : Reading} {sizes : ElementSizes} {n i : ℕ} {b : Form} {s p : ℕ} {old mid : View} {m m' : Meter} (here : AtRow r sizes n i b s p old mid m m') where
  abbrev pub d : ℕ
  d = sizes.kept.data_words

  abbrev pub q : ℕ
  q = sizes.kept.pointers

  abbrev laid : Elements
  laid = cut_to d q (kept_elements b here.rows.elements)

  counted : element_count laid ≡ i
  counted = cut_kept-count b d q here.rows.elements ∙ here.rows.counts

  rows_before : element_count laid * (d + q) ≡ i * (d + q)
  rows_before = ap (λ j. j * (d + q)) counted

  rows_room : p + element_count laid * (d + q) ≤ length (segment old.words s)
  rows_room = omega (arith, rows_before, row_within i n (d + q) here.more, here.room)

  pub rows_grow : Grows old.words mid.words
  rows_grow = elements_grow old.words mid.words s p d q laid here.rows.made rows_room

  pub next_room : p + i * (d + q) + (d + q) ≤ length (segment mid.words s)
  next_room = omega (arith, row_within i n (d + q) here.more, here.room, rows_grow.words s)

  row_place : IsPlace old.words s p
  row_place = omega (arith, row_within i n (d + q) here.more, here.room, here.wide)

  pub next_null : (j : ℕ) → j < q → word_at mid.words s (p + i * (d + q) + d + j) ≡ 0
  next_null j l =
      let end = row_within i n (d + q) here.more in
      let same : p + i * (d + q) + d + j ≡ p + (i * (d + q) + d + j) = omega arith in
      elements_ahead old.words mid.words s p d q laid (p + i * (d + q) + d + j) here.rows.made (omega (arith, rows_before)) (omega (arith, end, here.room))
      ∙ ap (word_at old.words s) same ∙ here.zero (i * (d + q) + d + j) (omega (arith, end))

  pub next_inside : r.at + i * (sizes.source.data_words + sizes.source.pointers) + (sizes.source.data_words + sizes.source.pointers) ≤ length (segment_read r)
  next_inside = omega (arith, row_within i n (sizes.source.data_words + sizes.source.pointers) here.more, here.fits.inside)

  abbrev next_words : List ℕ
  next_words = words_from (place_past r (i * (sizes.source.data_words + sizes.source.pointers))) d

  next_long : length next_words ≡ d
  next_long = length_words r.segments r.segment (r.at + i * (sizes.source.data_words + sizes.source.pointers)) d (omega (arith, next_inside, here.fits.less_data))

  -- The data words of the next row are written.
  pub row_written : {put : View} → put ≡ record mid { words = with_words mid.words s (p + i * (d + q)) next_words } →
      DataWritten (place_past r (i * (sizes.source.data_words + sizes.source.pointers))) sizes mid put s (p + i * (d + q))
  row_written writes = record { inside = omega (arith, next_inside, here.fits.less_data); room = omega (arith, next_room); writes = writes }

  pub row_copied : {new : View} {m'' : Meter} → CopiesElement (place_past r (i * (sizes.source.data_words + sizes.source.pointers))) sizes (copy_call b (call_at s (p + i * (d + q)) mid new) m' m'') → CopiesRows r sizes (i + 1) (n - (i + 1)) (copy_call b (call_at s p old new) m m'')
  row_copied {new} {m''} next =
      let es : Elements = here.rows.elements in
      let one : ReadsAll b (pointers_of r sizes.source (element_count es)) m' m'' next.children = rw here.rows.counts next.are_read in
      let a = one_more b r sizes n m m' m'' es next.children here.fits here.rows.are_read (omega (arith, here.rows.counts, here.more)) next.counts one in
      let at : IsElementFilled mid.words new.words s (p + element_count laid * (d + q)) next_words (kept_each b next.children) = rw rows_before next.made in
      let made = elements_more old.words mid.words new.words s p d q laid next_words (kept_each b next.children) here.rows.made next_long (kept_each-count b next.children ∙ next.counts) at in
      let shape : cut_to d q (kept_elements b a.all) ≡ with_last_element laid next_words (kept_each b next.children) =
      a.shape ∙ ap (λ j. with_last_element laid (words_from (place_past r (j * (sizes.source.data_words + sizes.source.pointers))) d) (kept_each b next.children)) here.rows.counts in
      record {
        elements = a.all;
        counts = a.counts ∙ omega (arith, here.rows.counts);
        are_read = a.are_read;
        made = subst (AreElementsFilled old.words new.words s p d q) (sym shape) made;
        memory = keeps_both old mid new rows_grow.segments here.rows.memory next.memory;
        stands = row_tight {r = r} {sizes = sizes} b row_place rows_grow.segments (element_grows mid.words new.words s (p + i * (d + q)) next_words (kept_each b next.children) next.made (omega (arith, next_room, next_long))).segments here.fits here.wide here.more here.rows next a.all shape;
      }

  pub row_stops : {new : View} {m'' : Meter} {k : ErrorKind} → TakesForCopy (elements_original r sizes i) (copy_call b (call_at s p old mid) m m') → StopsAtElement (place_past r (i * (sizes.source.data_words + sizes.source.pointers))) sizes (copy_call b (call_at s (p + i * (d + q)) mid new) m' m'') k → StopsAtElements r sizes n (copy_call b (call_at s p old new) m m'') k
  row_stops {new} {m''} {k} taken stop =
      let es : Elements = here.rows.elements in
      let fewer : element_count es < n = omega (arith, here.rows.counts, here.more) in
      record {
        why = elim (children_refused (pointers_of r sizes.source i) q (copy_call b (call_at s (p + i * (d + q)) mid new) m' m'') k stop.why) [
          | inl x ↦ inl (
            row_comes new here.fits (there old.words s p row_place) here.more here.rows.memory taken x.0,
            λ last. elements_large b r sizes n (length (segment old.words s)) (old.room s) (row_too_large {new = new} {m'' = m''} b here.fits here.wide here.more here.rows x.1 last),
          )
          | inr x ↦ inr (record {
            first = es;
            fewer = fewer;
            mid = m';
            are_read = here.rows.are_read;
            stops = stops_sooner here.fits.less_pointers (let h : RefusedAll b (pointers_of r sizes.source (element_count es)) q m' m'' k = rw here.rows.counts x in h);
          })
        ];
        left = record {
          elements = laid;
          fewer = omega (arith, counted, here.more);
          words = next_words;
          wide = next_long;
          children = stop.left;
          few = stop.few;
          between = mid.words;
          before = here.rows.made;
          last = rw rows_before stop.made;
        };
        memory = keeps_then_spends old mid new k rows_grow.segments here.rows.memory stop.memory;
      }

  -- Where the parts of the next element are, in the words of a call that found rows of w words in
  -- the source, and of v words in the copy.

  pub source_start : {w f k : ℕ} → w ≡ sizes.source.data_words + sizes.source.pointers → f ≡ sizes.source.data_words → k ≡ 8 * length (segment_read r) → k < 8 * 2 ^ 32 → r.at + i * w + f < 2 ^ 32
  source_start is_w is_f bytes small = omega (arith, ap (λ j. i * j) is_w, is_f, next_inside, bytes, small)

  pub part_inside : {w f k : ℕ} → w ≡ sizes.source.data_words + sizes.source.pointers → f ≡ d → k ≡ 8 * length (segment_read r) → 8 * (r.at + i * w + f) ≤ k
  part_inside is_w is_f bytes = omega (arith, ap (λ j. i * j) is_w, is_f, next_inside, here.fits.less_data, bytes)

  pub children_inside : {w f h : ℕ} → w ≡ sizes.source.data_words + sizes.source.pointers → f ≡ sizes.source.data_words → h ≡ q → r.at + i * w + f + h ≤ length (segment_read r)
  children_inside is_w is_f is_h = omega (arith, ap (λ j. i * j) is_w, is_f, is_h, next_inside, here.fits.less_pointers)

  pub place_start : {v f l : ℕ} → v ≡ d + q → f ≡ d → length (segment mid.words s) ≤ l → l < 2 ^ 29 → p + i * v + f < 2 ^ 32
  place_start is_v is_f within small = omega (arith, ap (λ j. i * j) is_v, is_f, next_room, within, small)

  pub data_room : {v f k : ℕ} → v ≡ d + q → k ≡ f → f ≡ d → p + i * v + k ≤ length (segment mid.words s)
  data_room is_v is_k is_f = omega (arith, ap (λ j. i * j) is_v, is_k, is_f, next_room)

  pub next_nulls : {S : Segments} {v g h k f : ℕ} → v ≡ d + q → g ≡ d → h ≡ q → k ≡ f → f ≡ d → length (segment S s) ≡ length (segment mid.words s) → ((j : ℕ) → p + i * v + k ≤ j → word_at S s j ≡ word_at mid.words s j) → HasNulls S s (p + i * v + g) h
  next_nulls {S} {v} {g} {h} {k} is_v is_g is_h is_k is_f long behind_row =
      let row : i * v ≡ i * (d + q) = ap (λ j. i * j) is_v in
      record {
        room = omega (arith, row, is_g, is_h, next_room, long);
        null = λ j less. (let same : p + i * v + g + j ≡ p + i * (d + q) + d + j = omega (arith, row, is_g) in
            behind_row (p + i * v + g + j) (omega (arith, is_k, is_f, is_g)) ∙ ap (word_at mid.words s) same ∙ next_null j (omega (arith, less, is_h)));
      }

  pub row_put : {put : View} {w v f : ℕ} {bs ws : List ℕ} → w ≡ sizes.source.data_words + sizes.source.pointers → v ≡ d + q → f ≡ d → bs ≡ segment_read r → ws ≡ take f (drop (r.at + i * w) bs) → put ≡ record mid { words = with_words mid.words s (p + i * v) ws } →
      DataWritten (place_past r (i * (sizes.source.data_words + sizes.source.pointers))) sizes mid put s (p + i * (d + q))
  row_put {put} {w} {v} {f} {bs} {ws} is_w is_v is_f is_bs is_ws writes =
      let section : ws ≡ next_words = is_ws ∙ ap (λ j. take f (drop (r.at + i * j) bs)) is_w ∙ ap (λ j. take j (drop (r.at + i * (sizes.source.data_words + sizes.source.pointers)) bs)) is_f ∙ ap (λ us. take d (drop (r.at + i * (sizes.source.data_words + sizes.source.pointers)) us)) is_bs in
      row_written (writes ∙ ap (λ us. record mid { words = with_words mid.words s (p + i * v) us }) section ∙ ap (λ j. record mid { words = with_words mid.words s (p + i * j) next_words }) is_v)

  pub row_done : {put new : View} {m'' : Meter} {w v f g h l : ℕ} → w ≡ sizes.source.data_words + sizes.source.pointers → v ≡ d + q → f ≡ sizes.source.data_words → g ≡ d → h ≡ q → l ≡ r.levels →
      DataWritten (place_past r (i * (sizes.source.data_words + sizes.source.pointers))) sizes mid put s (p + i * (d + q)) → CopiesChildren (record (place_past (place_past r (i * w)) f) { levels = l }) h (copy_call b (call_at s (p + i * v + g) put new) m' m'') →
      CopiesRows r sizes (i + 1) (n - (i + 1)) (copy_call b (call_at s p old new) m m'')
  row_done is_w is_v is_f is_g is_h is_l put children = row_copied (element_copied put (rw (is_w, is_v, is_f, is_g, is_h, is_l) at children))

  pub row_refused : {put new : View} {m'' : Meter} {k : ErrorKind} {w v f g h l : ℕ} → w ≡ sizes.source.data_words + sizes.source.pointers → v ≡ d + q → f ≡ sizes.source.data_words → g ≡ d → h ≡ q → l ≡ r.levels → TakesForCopy (elements_original r sizes i) (copy_call b (call_at s p old mid) m m') →
      DataWritten (place_past r (i * (sizes.source.data_words + sizes.source.pointers))) sizes mid put s (p + i * (d + q)) → StopsAtChildren (record (place_past (place_past r (i * w)) f) { levels = l }) h (copy_call b (call_at s (p + i * v + g) put new) m' m'') k →
      StopsAtElements r sizes n (copy_call b (call_at s p old new) m m'') k
  row_refused is_w is_v is_f is_g is_h is_l taken put stop = row_stops taken (element_stops put (rw (is_w, is_v, is_f, is_g, is_h, is_l) at stop))
