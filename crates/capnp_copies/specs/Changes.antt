-- What a copy into a message of any number of segments leaves, and why it stops.
use Rattle.std.specs.Prelude.{◌≡◌, ◌≢◌, ◌⊎◌, ℕ, pred, ◌+◌, ◌*◌, ◌^◌, ◌<◌, ◌≤◌, ◌++◌, take, length, replicate, set}
use Rattle.capnp_words.specs.declared.error.ErrorKind.{ErrorKind}
use Rattle.capnp_words.specs.Meter.{Meter}
use Rattle.capnp_format.specs.Numbers.{words_for}
use Rattle.capnp_format.specs.Segments.{Segments, Target, segment, words_at, word_at, IsPlace}
use Rattle.capnp_format.specs.Word.{kind, offset_bits, data_words, pointer_count, element_size, list_count}
use Rattle.capnp_format.specs.Tree.{Tree, Null, Trees, Elements, count, element_count}
use Rattle.capnp_format.specs.Canonical.{body, pointer, offset_to, cut_to, rows, element_bodies}
use Rattle.capnp_format.specs.Canonical.{word_count, word_count_all, word_count_elements}
use Rattle.capnp_arena_traits.specs.View.{View}
use Rattle.capnp_arena_traits.specs.Written.{with_segment}
use Rattle.capnp_allocation.specs.Filled.{AreFilled, AreElementsFilled, ArePartlyFilled}
use Rattle.capnp_allocation.specs.Made.{structs_words}
use Rattle.capnp_allocation.specs.Memory.{KeepsMemory, SpendsMemory, RefusesWords}
use Rattle.capnp_allocation.specs.Near.{HasOwnRoom}
use Rattle.capnp_allocation.specs.Stored.{IsReplaced}
use Rattle.capnp_pointers.specs.Demands.{IsStructList, tag}
use Rattle.capnp_pointers.specs.Faults.{child_at}
use Rattle.capnp_pointers.specs.Outcomes.{Entered, ReadsAll, ReadsElements}
use Rattle.capnp_pointers.specs.Refusals.{Stopped, Refused, StopsAmongElements}
use Rattle.capnp_pointers.specs.Reading.{Reading, place_past, segment_read, tag_size, word_of}
use Rattle.capnp_pointers.specs.Wanted.{Form}
use Rattle.capnp_pointers.specs.declared.object.Purpose.TheVariants.{Value}
use Rattle.capnp_copies.specs.Forms.{form_in, kept, kept_each, kept_elements}
use Rattle.capnp_copies.specs.Copied.{with_children}
use Rattle.capnp_copies.specs.Originals.{Original, value_original, children_original}
use Rattle.capnp_copies.specs.Originals.{elements_original, kept_count}
use Rattle.capnp_copies.specs.Widths.{widths_kept}
use Rattle.capnp_copies.specs.declared.form.Destination.{Destination}
use Rattle.capnp_copies.specs.declared.widths.ElementSizes.{ElementSizes}
use Rattle.capnp_allocation.specs.Makes.{CallAt, call_at}

-- A call that copies to a place, or from a place of a segment on: the arena and the read limiter,
-- before and after it.
pub record CopyCall : Type 0 where
  pub form : Form
  pub segment : ℕ
  pub at : ℕ
  pub old : View
  pub new : View
  pub before : Meter
  pub after : Meter

-- A call at a place that copies in this form, with the read limiter before and after it.
abbrev pub copy_call : Form → CallAt → Meter → Meter → CopyCall
copy_call form c before after =
    record {
      form = form;
      segment = c.segment;
      at = c.at;
      old = c.old;
      new = c.new;
      before = before;
      after = after;
    }

-- A call that copies to a destination.
abbrev pub copy_call_to : Destination → View → View → Meter → Meter → CopyCall
copy_call_to to old new before after =
    copy_call (form_in to.form) (call_at to.place.segment to.place.at old new) before after

-- S has n null pointers from position p of segment id on.
pub record HasNulls (S : Segments) (id p n : ℕ) : Type 0 where
  pub room : p + n ≤ length (segment S id)
  pub null : (i : ℕ) → i < n → word_at S id (p + i) ≡ 0

-- S has a pointer at (s, p), and it is null.
pub record IsNullPlace (S : Segments) (s p : ℕ) : Type 0 where
  pub place : IsPlace S s p
  pub null : word_at S s p ≡ 0

-- There are n pointers to read from the place of r on, and as many null pointers for their copies
-- from (s, p) on.
pub record HasNullsFor (r : Reading) (n : ℕ) (S : Segments) (s p : ℕ) : Type 0 where
  pub nulls : HasNulls S s p n
  pub inside : r.at + n ≤ length (segment_read r)

-- The word is that of the pointer which r reads, and isn't zero.
pub record IsPointerRead (r : Reading) (word : ℕ) : Type 0 where
  pub there : word ≡ word_of r
  pub small : word < 2 ^ 64
  pub some : word ≢ 0

-- n words fit after those of segment id, or the message has only one segment once they are written:
-- so they stay in the segment.
abbrev pub StayInSegment : View → View → ℕ → ℕ → Type 0
StayInSegment old new id n = HasOwnRoom old id n ⊎ (length new.words ≡ 1)

-- If the words of t stay in segment id, they are after those that were there, and their pointer is
-- at position `at` of it.
abbrev pub IsCopiedInRoom : View → View → ℕ → ℕ → Tree → Type 0
IsCopiedInRoom old new id at t =
    StayInSegment old new id (word_count t) →
    new.words ≡ with_segment old.words id
    (set (segment old.words id ++ body t) at
    (pointer t (offset_to at (length (segment old.words id)))))

-- A copy makes n words of the object a, to which the pointer of r leads: of a struct the sections
-- that are kept; of a list its elements; of a list of structs its tag, and its elements cut to the
-- sections that are kept.
pub data IsMadeOf (form : Form) (r : Reading) (a : Target) (n : ℕ) : Type 0 where
  as_struct :
      kind a.word ≡ 0 →
      n ≡ kept_count form (words_at r.segments a.segment a.start (data_words a.word))
      + kept_count form
      (words_at r.segments a.segment (a.start + data_words a.word) (pointer_count a.word)) →
      IsMadeOf form r a n
  as_numbers : kind a.word ≡ 1 → element_size a.word ≤ 5 →
      n ≡ words_for (element_size a.word) (list_count a.word) → IsMadeOf form r a n
  as_pointers : kind a.word ≡ 1 → element_size a.word ≡ 6 → n ≡ list_count a.word → IsMadeOf form r a n
  as_structs :
      IsStructList a.word →
      n ≡ structs_words (offset_bits (tag r.segments a))
      (widths_kept form (child_at r a (pred r.levels) (a.start + 1)) (tag_size r.segments a)
      (offset_bits (tag r.segments a))) →
      IsMadeOf form r a n

-- Reading comes to an object, and the copy has to make n words for it. P holds for n, and for the
-- sum of n and all words spent before.
abbrev pub ComesToObject : {V : Type 0} → Original V → Form → Meter → Meter → (ℕ → ℕ → Type 0) → Type 0
ComesToObject o form m m' P =
    (n : ℕ) × (x : o.stops form
    (λ r i j. (a : Target) × Entered Value r i j a × IsMadeOf form r a n) m m') ×
    P n ((o.spent x).words + n)

-- The arena refuses n words with k, and the segment of the place has no room for `all` words.
abbrev pub FindsNoRoom : CopyCall → ErrorKind → ℕ → ℕ → Type 0
FindsNoRoom c k n all = RefusesWords c.old c.new n k ×
    (c.old.room c.segment < length (segment c.old.words c.segment) + all)

-- The arena has no room for an object, and refuses it with k. Either the words of the object were
-- read before, and nothing else is read; or reading leads to it, and with the words spent before it
-- needs more than the segment of the place has room for.
abbrev pub LacksRoom : {V : Type 0} → Original V → CopyCall → ErrorKind → Type 0
LacksRoom o c k =
    ((n : ℕ) × (c.after ≡ c.before) × o.makes c.form n × FindsNoRoom c k n n) ⊎
    ComesToObject o c.form c.before c.after (FindsNoRoom c k)

-- For every value that can be read, in any form and with any limiter: the words that are kept of it
-- don't fit after those of the segment.
abbrev pub IsTooLarge : {V : Type 0} → Original V → CopyCall → Type 0
IsTooLarge {V} o c =
    (any : Form) (m m' : Meter) (value : V) → o.reads any m m' value →
    c.old.room c.segment < length (segment c.old.words c.segment) + o.words c.form value

-- A copy is refused with k: the arena has no room for an object, and what is copied is too large;
-- or reading is refused; or what is copied is larger than an object can be.
abbrev pub RefusesToCopy : {V : Type 0} → Original V → CopyCall → ErrorKind → Type 0
RefusesToCopy o c k =
    (LacksRoom o c k × IsTooLarge o c)
    ⊎ o.stops c.form (λ r m m'. Stopped Value c.form r m m' k) c.before c.after ⊎ o.exceeds c.form k

-- The last n words of the segment are those from the place on, and are zero.
pub record EndsInZeros (c : CopyCall) (n : ℕ) : Type 0 where
  pub ends : c.at + n ≡ length (segment c.old.words c.segment)
  pub zero : (j : ℕ) → c.at ≤ j → word_at c.old.words c.segment j ≡ 0

-- What is copied is read, and the place, which was null, gets what is kept of its value. Only words
-- change, and the room of new segments.
pub record MakesCopy (o : Original Tree) (c : CopyCall) : Type 0 where
  pub value : Tree
  pub is_read : o.reads c.form c.before c.after value
  pub made : IsReplaced c.old.words c.new.words c.segment c.at Null (kept c.form value)
  pub memory : KeepsMemory c.old c.new
  pub stands : IsCopiedInRoom c.old c.new c.segment c.at (kept c.form value)

-- A copy is refused with k, and leaves t at the place that was null. What was allocated stays.
pub record StopsCopy (o : Original Tree) (c : CopyCall) (t : Tree) (k : ErrorKind) : Type 0 where
  pub why : RefusesToCopy o c k
  pub left : IsReplaced c.old.words c.new.words c.segment c.at Null t
  pub memory : SpendsMemory c.old c.new k

-- A call copies what i pointers from a place on mean; or it is refused with k, and leaves copies
-- `left` of at most i.
pub record CopiesChildren (r : Reading) (i : ℕ) (c : CopyCall) : Type 0 where
  pub children : Trees
  pub counts : count children ≡ i
  pub are_read : ReadsAll c.form r c.before c.after children
  pub made : AreFilled c.old.words c.new.words c.segment c.at (kept_each c.form children)
  pub memory : KeepsMemory c.old c.new
  pub stands : StayInSegment c.old c.new c.segment (word_count_all (kept_each c.form children)) →
      c.new.words ≡ with_segment c.old.words c.segment
      (with_children (segment c.old.words c.segment) c.at (kept_each c.form children))

pub record StopsAtChildren (r : Reading) (i : ℕ) (c : CopyCall) (k : ErrorKind) : Type 0 where
  pub why : RefusesToCopy (children_original r i) c k
  pub left : Trees
  pub few : count left ≤ i
  pub made : AreFilled c.old.words c.new.words c.segment c.at left
  pub memory : SpendsMemory c.old c.new k

-- Of i pointers from a place on the first ones are read and copied without trimming; the next one
-- is refused with k, and stays null.
pub record CopiesFirst (r : Reading) (i : ℕ) (c : CopyCall) (k : ErrorKind) : Type 0 where
  pub first : Trees
  pub fewer : count first < i
  pub between : Meter
  pub are_read : ReadsAll c.form r c.before between first
  pub filled : Segments
  pub made : AreFilled c.old.words filled c.segment c.at first
  pub cleared : IsReplaced filled c.new.words c.segment (c.at + count first) Null Null
  pub why :
      (ComesToObject (value_original (place_past r (count first))) c.form between c.after
      (λ n all. FindsNoRoom c k n (are_read.cost + all)) × IsTooLarge (children_original r i) c)
      ⊎ Refused c.form (place_past r (count first)) between c.after k
  pub memory : SpendsMemory c.old c.new k

-- A call copies i elements of a list of structs, cut to the sections that are kept, while the rows
-- of `left` other elements are still to come: those are between the copied rows and what their
-- pointers lead to. Or it is refused with k, and leaves some elements filled.
pub record CopiesRows (r : Reading) (sizes : ElementSizes) (i left : ℕ)
    (c : CopyCall) : Type 0 where
  pub elements : Elements
  pub counts : element_count elements ≡ i
  pub are_read : ReadsElements c.form r sizes.source c.before c.after elements
  pub made :
      AreElementsFilled c.old.words c.new.words c.segment c.at sizes.kept.data_words sizes.kept.pointers
      (cut_to sizes.kept.data_words sizes.kept.pointers (kept_elements c.form elements))
  pub memory : KeepsMemory c.old c.new
  pub stands :
      EndsInZeros c ((i + left) * (sizes.kept.data_words + sizes.kept.pointers))
      → StayInSegment c.old c.new c.segment
      (word_count_elements (cut_to sizes.kept.data_words sizes.kept.pointers
      (kept_elements c.form elements)))
      → c.new.words
      ≡ with_segment c.old.words c.segment
      (take c.at (segment c.old.words c.segment)
      ++ rows sizes.kept.data_words sizes.kept.pointers
      (left * (sizes.kept.data_words + sizes.kept.pointers))
      (cut_to sizes.kept.data_words sizes.kept.pointers (kept_elements c.form elements))
      ++ replicate (left * (sizes.kept.data_words + sizes.kept.pointers)) 0
      ++ element_bodies
      (cut_to sizes.kept.data_words sizes.kept.pointers (kept_elements c.form elements)))

pub record StopsAtElements (r : Reading) (sizes : ElementSizes) (i : ℕ) (c : CopyCall)
    (k : ErrorKind)
    : Type 0 where
  pub why :
      (ComesToObject (elements_original r sizes i) c.form c.before c.after (FindsNoRoom c k) ×
      (EndsInZeros c (i * (sizes.kept.data_words + sizes.kept.pointers)) →
      IsTooLarge (elements_original r sizes i) c))
      ⊎ StopsAmongElements c.form (λ s m m'. Stopped Value c.form s m m' k) r sizes.source i
      c.before c.after
  pub left : ArePartlyFilled c.old.words c.new.words c.segment c.at sizes.kept.data_words
      sizes.kept.pointers i
  pub memory : SpendsMemory c.old c.new k
