-- Which demands are broken by the places that are reached from one place, and what they charge.
use Rattle.std.specs.Prelude.{◌≡◌, ℕ, pred, ◌+◌, ◌*◌, ◌<◌, ◌≤◌, Some}
use Rattle.capnp_words.specs.declared.error.ErrorKind.{ErrorKind}
use Rattle.capnp_words.specs.Meter.{Meter, Affords}
use Rattle.capnp_format.specs.Word.{kind, offset_bits, data_words, pointer_count, element_size}
use Rattle.capnp_format.specs.Word.{list_count, is_double}
use Rattle.capnp_format.specs.Segments.{Segments, Target, pad}
use Rattle.capnp_format.specs.Means.{Leads, Claims}
use Rattle.capnp_pointers.specs.declared.object.Purpose.TheVariants.{Value}
use Rattle.capnp_pointers.specs.Demands.{claimed_words, tag, amplified_charge, IsStructList, Meets}
use Rattle.capnp_pointers.specs.Reading.{Reading, word_of}
use Rattle.capnp_pointers.specs.Wanted.{Form, BreaksAt}

-- The word at position q of the object's segment is one of the object's pointers.
pub data IsPointer (S : Segments) (a : Target) (q : ℕ) : Type 0 where
  of_struct : kind a.word ≡ 0 → a.start + data_words a.word ≤ q →
      q < a.start + data_words a.word + pointer_count a.word → IsPointer S a q
  of_list : kind a.word ≡ 1 → element_size a.word ≡ 6 → a.start ≤ q →
      q < a.start + list_count a.word → IsPointer S a q
  of_element :
      (j : ℕ) →
      IsStructList a.word →
      j < offset_bits (tag S a) →
      a.start + 1 + j * (data_words (tag S a) + pointer_count (tag S a)) + data_words (tag S a) ≤ q →
      q < a.start + 1 + j * (data_words (tag S a) + pointer_count (tag S a)) + data_words (tag S a)
      + pointer_count (tag S a) →
      IsPointer S a q

-- The pointer at the place r leads to the target a, as `Means` has it.
abbrev pub LeadsTo : Reading → Target → Type 0
LeadsTo r a = Leads r.segments r.segment r.at a

-- The place at position q of the segment of the object a, read as one of its children, with this
-- many levels.
abbrev pub child_at : Reading → Target → ℕ → ℕ → Reading
child_at r a levels q = record r { levels = levels; segment = a.segment; at = q }

-- P holds for some place that is reached: the place itself, or one reached from a child of an
-- object that meets its demands, with one level less.
pub data Somewhere (P : Reading → Type 0) : Reading → Type 0 where
  here : {r : Reading} → P r → Somewhere P r
  below : {r : Reading} (a : Target) (q : ℕ) → LeadsTo r a → Meets Value r.segments r.levels a →
      IsPointer r.segments a q → Somewhere P (child_at r a (pred r.levels) q) → Somewhere P r

-- The place r charges x words at once.
pub data Charges (r : Reading) (x : ℕ) : Type 0 where
  of_pads : (f : ℕ) → kind (word_of r) ≡ 2 →
      pad r.segments (word_of r) (is_double (word_of r)) ≡ Some f → x ≡ 1 + is_double (word_of r) →
      Charges r x
  of_object : (a : Target) → LeadsTo r a → 0 < r.levels → kind a.word < 2 →
      Claims r.segments a (claimed_words a.word) → x ≡ claimed_words a.word → Charges r x
  of_elements : (a : Target) → LeadsTo r a → Meets Value r.segments r.levels a →
      x ≡ amplified_charge Value r.segments a → Charges r x

-- The place r charges more than the limiter m has left.
abbrev pub Exceeds : Meter → Reading → Type 0
Exceeds m r = (x : ℕ) × Charges r x × (Affords r.charging m x → ⊥)

-- Some place that is reached from r breaks a demand that is refused with k.
abbrev pub HasFault : Form → Reading → ErrorKind → Type 0
HasFault form r k = Somewhere (BreaksAt form k) r
