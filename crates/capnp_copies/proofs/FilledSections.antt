-- The copy of a struct that was read, from the moment when it is made: its words, its children, and
-- where it stops.
use Rattle.std.proofs.Common.{◌≡◌, inl, inr, ℕ, ◌+◌, ◌-◌, ◌<◌, ◌≤◌, ◌^◌, List, length, take, refl, sym, ap, ◌∙◌, subst, le_trans, arith, length-take, take_all}
use Rattle.capnp_words.specs.declared.error.ErrorKind.{ErrorKind}
use Rattle.capnp_words.specs.Meter.{Meter}
use Rattle.capnp_words.specs.declared.wire_pointer.StructSize.{StructSize}
use Rattle.capnp_format.specs.Segments.{segment, word_at, IsPlace}
use Rattle.capnp_format.specs.Tree.{Null, Struct, Trees, count}
use Rattle.capnp_format.specs.Canonical.{used_words, take_trees, trim_each}
use Rattle.capnp_format.specs.Word.{struct_word}
use Rattle.capnp_format.proofs.Slices.{length_words}
use Rattle.capnp_arena_traits.specs.View.{View}
use Rattle.capnp_arena_traits.specs.Written.{with_word, with_words}
use Rattle.capnp_allocation.specs.Made.{zero_struct, words_of_zero, nulls}
use Rattle.capnp_allocation.specs.Memory.{KeepsMemory, ComesAfter, TakesWords}
use Rattle.capnp_allocation.proofs.NearMade.{HasStructRoom, with_struct}
use Rattle.capnp_allocation.specs.Stored.{IsReplaced}
use Rattle.capnp_arena_traits.specs.declared.arena.WordPlace.{WordPlace}
use Rattle.capnp_allocation.proofs.FillingMade.{IsBegun, struct_ready, struct_done, struct_whole}
use Rattle.capnp_allocation.proofs.Memory.{keeps_both, keeps_written, keeps_then_spends, words_refused_after}
use Rattle.capnp_allocation.proofs.WordsPut.{words_put}
use Rattle.capnp_pointers.specs.Outcomes.{ReadsAll}
use Rattle.capnp_pointers.specs.Reading.{Reading, place_past, segment_read, words_from}
use Rattle.capnp_pointers.specs.Spending.{pointers_in_all}
use Rattle.capnp_pointers.specs.Wanted.{Form, canonical}
use Rattle.capnp_copies.specs.Changes.{copy_call, ComesToObject, FindsNoRoom, MakesCopy, CopiesChildren, StopsAtChildren}
use Rattle.capnp_copies.proofs.Copying.{StopsHalfway}
use Rattle.capnp_copies.specs.Forms.{kept, kept_each}
use Rattle.capnp_copies.specs.Originals.{kept_count, children_original, sections_original}
use Rattle.capnp_copies.proofs.KeptForms.{kept_count-le}
use Rattle.capnp_copies.proofs.FilledChildren.{children_grow}
use Rattle.capnp_copies.proofs.KeptChildren.{kept_each-count}
use Rattle.capnp_copies.proofs.KeptForms.{stops_sooner, SectionsCut, sections_meant}
use Rattle.capnp_copies.proofs.Originals.{AreTooLarge, AreTooLargeSections, children_refused, sections_large, halfway}
use Rattle.capnp_copies.proofs.NoRoom.{sections_come}
use Rattle.capnp_copies.proofs.ObjectsMade.{Begins, struct_begins}
use Rattle.capnp_copies.proofs.SegmentsWritten.{length-with_words}
use Rattle.capnp_copies.proofs.TooLarge.{ObjectMade, sections_too_large}
use Rattle.capnp_copies.proofs.TightObjects.{StructMade, struct_tight}
use Rattle.capnp_copies.proofs.UsedChildren.{used_children, trim-struct, fill_nulls, null_behind}
use Rattle.capnp_allocation.specs.Makes.{call_at}

-- The kept children ts of a struct were read, and so were all its children, at a cost of n words
-- and k pointers. A struct of all of them is kept as its kept data words with ts.
pub record SectionsKept (b : Form) (ws : List ℕ) (r : Reading) (q : ℕ) (m m' : Meter) (ts : Trees) (n k : ℕ) : Type 0 where
  pub all : Trees
  pub counts : count all ≡ q
  pub are_read : ReadsAll b r m m' all
  pub form : kept b (Struct ws all) ≡ Struct (take (kept_count b ws) ws) (kept_each b ts)
  pub costs : are_read.cost ≡ n
  pub follows : pointers_in_all all ≡ k

pub sections_kept : (b : Form) (ws : List ℕ) (r : Reading) (q : ℕ) (m m' : Meter) (ts : Trees) → r.at + q ≤ length (segment_read r) → count ts ≡ kept_count b (words_from r q) → (read : ReadsAll b r m m' ts) →
    SectionsKept b ws r q m m' ts read.cost (pointers_in_all ts)
sections_kept canonical ws r q m m' ts inside len all =
    let few : count ts ≤ q = omega (arith, kept_count-le canonical (words_from r q), length_words r.segments r.segment r.at q inside, len) in
    let f = fill_nulls q all few (λ i a b. null_behind r q i (omega (arith, len, a)) b) in
    record {
      all = f.all;
      counts = f.counts;
      are_read = f.are_read;
      form =
          trim-struct ws f.all ∙ ap (λ i. Struct (take (used_words ws) ws) (trim_each (take_trees i f.all))) (used_children r f.all f.are_read.cost inside f.counts f.are_read.means ∙ sym len)
          ∙ ap (λ us. Struct (take (used_words ws) ws) (trim_each us)) f.first;
      costs = f.costs;
      follows = f.follows;
    }
sections_kept _ ws r q m m' ts inside len all =
    record { all = ts; counts = len ∙ length_words r.segments r.segment r.at q inside; are_read = all; form = ap (λ xs. Struct xs ts) (sym (take_all (length ws) ws (omega arith))); costs = refl; follows = refl }

-- A struct is made and starts at h, and its kept data words are written.
pub record SectionsBegun (b : Form) (ws : List ℕ) (r : Reading) (q : ℕ) (least : StructSize) (s p : ℕ) (old made mid : View) (h : WordPlace) : Type 0 where
  pub cut : SectionsCut b ws r q least
  pub begun : IsBegun old.words made.words s p (least.data_words + least.pointers) h (zero_struct least)
  pub memory : KeepsMemory old made
  pub writes : mid ≡ record made { words = with_words made.words h.segment h.at (take least.data_words ws) }
  pub place : IsPlace old.words s p
  pub within : length (segment mid.words h.segment) ≤ mid.room h.segment
  pub taken : TakesWords old made s (least.data_words + least.pointers)
  pub behind : ComesAfter old s (least.data_words + least.pointers) h
  pub near : HasStructRoom old s least → made.words ≡ with_struct old.words s p least
  pub empty : least.data_words + least.pointers ≡ 0 → made.words ≡ with_word old.words s p (struct_word (2 ^ 30 - 1) 0 0)

module _ {b : Form} {ws : List ℕ} {r : Reading} {q : ℕ} {least : StructSize} {s p : ℕ} {old made mid : View} {h : WordPlace} (o : SectionsBegun b ws r q least s p old made mid h) where
  abbrev section : List ℕ
  section = take least.data_words ws

  long : length section ≡ least.data_words
  long = omega (arith, length-take least.data_words ws, o.cut.of_data, kept_count-le b ws)

  fewer : least.pointers ≤ q
  fewer = omega (arith, o.cut.of_pointers, kept_count-le b (words_from r q), length_words r.segments r.segment r.at q o.cut.inside)

  is_begun : IsBegun old.words made.words s p (length section + least.pointers) h (Struct (words_of_zero (length section)) (nulls least.pointers))
  is_begun = subst (λ d. IsBegun old.words made.words s p (d + least.pointers) h (Struct (words_of_zero d) (nulls least.pointers))) (sym long) o.begun

  writes : mid.words ≡ with_words made.words h.segment h.at section
  writes = ap (λ (v : View). v.words) o.writes

  longer : length made.words ≤ length mid.words
  longer = omega (arith, (words_put made.words mid.words h.segment h.at section (omega (arith, o.begun.inside.1, long)) writes).long.segments)

  same_long : length (segment mid.words h.segment) ≡ length (segment made.words h.segment)
  same_long = ap (λ T. length (segment T h.segment)) writes ∙ length-with_words made.words h.segment h.at section (omega (arith, o.begun.inside.1, long))

  same_room : mid.room h.segment ≡ made.room h.segment
  same_room = ap (λ (v : View). v.room h.segment) o.writes

  keeps : KeepsMemory old mid
  keeps = keeps_both old made mid o.begun.made.segments o.memory (keeps_written made mid _ o.writes)

  segments : length old.words ≤ length mid.words
  segments = le_trans o.begun.made.segments longer

  is_made : StructMade section least s p old made mid h
  is_made = record {
    long = long;
    place = o.place;
    memory = o.memory;
    writes = o.writes;
    within = o.within;
    taken = o.taken;
    behind = o.behind;
    near = o.near;
    empty = o.empty;
  }

  pub sections_fit : h.at + least.data_words + least.pointers ≤ length (segment mid.words h.segment)
  sections_fit = omega (arith, (struct_ready old.words made.words mid.words s p least.pointers h section is_begun writes).0, long)

  pub sections_null : (i : ℕ) → i < least.pointers → word_at mid.words h.segment (h.at + least.data_words + i) ≡ 0
  sections_null i l = subst (λ d. word_at mid.words h.segment (h.at + d + i) ≡ 0) long ((struct_ready old.words made.words mid.words s p least.pointers h section is_begun writes).1 i l)

  pub sections_inside : r.at + least.pointers ≤ length (segment_read r)
  sections_inside = omega (arith, fewer, o.cut.inside)

  pub sections_copied : {new : View} {m m' : Meter} → CopiesChildren r least.pointers (copy_call b (call_at h.segment (h.at + least.data_words) mid new) m m') → MakesCopy (sections_original ws r q) (copy_call b (call_at s p old new) m m')
  sections_copied {new} {m} {m'} children =
      let f = sections_kept b ws r q m m' children.children o.cut.inside (children.counts ∙ o.cut.of_pointers) children.are_read in
      let whole = struct_whole old.words made.words mid.words new.words s p least.pointers h section (kept_each b children.children) is_begun writes (rw (sym long) at children.made) (kept_each-count b children.children ∙ children.counts) in
      let form : kept b (Struct ws f.all) ≡ Struct section (kept_each b children.children) = f.form ∙ ap (λ n. Struct (take n ws) (kept_each b children.children)) (sym o.cut.of_data) in
      record {
        value = Struct ws f.all;
        is_read = (f.all, refl, f.counts, f.are_read);
        made = subst (IsReplaced old.words new.words s p Null) (sym form) whole;
        memory = keeps_both old mid new segments keeps children.memory;
        stands = struct_tight is_made b (le_trans longer (children_grow children).segments) children (Struct ws f.all) form;
      }

  -- If its children are too large for the segment that it is in, the struct is too large for the
  -- segment of its pointer.
  exceeds : AreTooLarge b r least.pointers (length (segment mid.words h.segment)) (mid.room h.segment) → AreTooLargeSections b ws r q (length (segment old.words s)) (old.room s)
  exceeds large = λ ts n counts means.
      (let k = sections_meant b ts n o.cut counts means in
      let object : ObjectMade s p (least.data_words + least.pointers) old made h = record { place = o.place; memory = o.memory; taken = o.taken; behind = o.behind } in
      sections_too_large b least (take_trees least.pointers ts) object same_long same_room o.within k.counts (large (take_trees least.pointers ts) n k.counts k.means) k.words)

  less : least.data_words + least.pointers ≤ length ws + q
  less = omega (arith, fewer, o.cut.of_data, kept_count-le b ws)

  begins : Begins s h.segment (least.data_words + least.pointers) old made
  begins = struct_begins s p least old made h o.place o.taken o.memory o.behind o.begun.start o.empty

  -- A child without room after the struct's data words are written had no room before that.
  before : (new : View) {m m' : Meter} {k : ErrorKind} → ComesToObject (children_original r least.pointers) b m m' (FindsNoRoom (copy_call b (call_at h.segment (h.at + least.data_words) mid new) m m') k) →
      ComesToObject (children_original r least.pointers) b m m' (FindsNoRoom (copy_call b (call_at h.segment (h.at + least.data_words) made new) m m') k)
  before new {k = k} (w, stops, (refused, full)) = (w, stops, (words_refused_after made mid new w k (keeps_written made mid _ o.writes) refused, omega (arith, full, same_long, same_room)))

  pub sections_stop : {new : View} {m m' : Meter} {k : ErrorKind} → StopsAtChildren r least.pointers (copy_call b (call_at h.segment (h.at + least.data_words) mid new) m m') k → StopsHalfway (sections_original ws r q) (copy_call b (call_at s p old new) m m') k
  sections_stop {new} {m} {m'} {k} stop =
      halfway (
      elim (children_refused r least.pointers (copy_call b (call_at h.segment (h.at + least.data_words) mid new) m m') k stop.why) [
        | inl x ↦ inl (inr (sections_come ws new fewer less begins (before new x.0)), sections_large b ws r q (length (segment old.words s)) (old.room s) (exceeds x.1))
        | inr x ↦ inr (inl (stops_sooner fewer x))
      ]
      )
      ((_, struct_done old.words made.words mid.words new.words s p least.pointers h section stop.left is_begun writes (rw (sym long) at stop.made) stop.few), keeps_then_spends old mid new k segments keeps stop.memory)

-- The same in the words of a call, which has the other names f, g, k and l for what it found.

pub sections_done : {b : Form} {ws : List ℕ} {q : ℕ} {least : StructSize} {s p : ℕ} {old made mid new : View} {h : WordPlace} {m m' : Meter} {f g k l : ℕ} (r : Reading) (n : ℕ) → SectionsBegun b ws (place_past r n) q least s p old made mid h → f ≡ n → g ≡ least.data_words → k ≡ least.pointers → l ≡ r.levels →
    CopiesChildren (record (place_past r f) { levels = l }) k (copy_call b (call_at h.segment (h.at + g) mid new) m m') → MakesCopy (sections_original ws (place_past r n) q) (copy_call b (call_at s p old new) m m')
sections_done r n o is_f is_g is_k is_l children = sections_copied o (rw (is_f, is_g, is_k, is_l) at children)

pub sections_refused : {b : Form} {ws : List ℕ} {q : ℕ} {least : StructSize} {s p : ℕ} {old made mid new : View} {h : WordPlace} {m m' : Meter} {e : ErrorKind} {f g k l : ℕ} (r : Reading) (n : ℕ) → SectionsBegun b ws (place_past r n) q least s p old made mid h → f ≡ n → g ≡ least.data_words → k ≡ least.pointers → l ≡ r.levels →
    StopsAtChildren (record (place_past r f) { levels = l }) k (copy_call b (call_at h.segment (h.at + g) mid new) m m') e → StopsHalfway (sections_original ws (place_past r n) q) (copy_call b (call_at s p old new) m m') e
sections_refused r n o is_f is_g is_k is_l stop = sections_stop o (rw (is_f, is_g, is_k, is_l) at stop)
