-- A copy of a value that is read, into the message in the buffer.
use Rattle.std.specs.Prelude.{◌≡◌, ℕ, Some, Result, IsOk, IfOk, IfErr}
use Rattle.capnp_words.specs.Meter.{Meter, unused}
use Rattle.capnp_words.specs.declared.error.ErrorKind.{ErrorKind}
use Rattle.capnp_format.specs.Segments.{Grows}
use Rattle.capnp_format.specs.Tree.{Tree}
use Rattle.capnp_arena_traits.specs.View.{View}
use Rattle.capnp_allocation.specs.Makes.{call_at}
use Rattle.capnp_pointers.specs.Reading.{Reading}
use Rattle.capnp_pointers.specs.Wanted.{Form}
use Rattle.capnp_readers.specs.Values.{HasValue}
use Rattle.capnp_copies.specs.Changes.{CopyCall, copy_call}
use Rattle.capnp_copies.specs.Forms.{kept}
use Rattle.capnp_copies.specs.Growth.{TakesAtMost}
use Rattle.capnp_copies.specs.Originals.{value_original}
use Rattle.capnp_copies.specs.Rooms.{CanBeCopied}
use Rattle.capnp_builders.specs.Held.{MakesChild, call_in}
use Rattle.capnp_builders.specs.Kept.{LeavesCleared, PutsCopy}
use Rattle.capnp_layout_c.specs.Buffers.{Buffer, Done, Gives, placed_struct, pointer_of}
use Rattle.capnp_layout_c.specs.Lent.{left_over}
use Rattle.capnp_layout_c.specs.declared.building.places.StructAt.{StructAt}

-- A copy in this form to pointer i of the struct, with the read limiter before and after it.
abbrev pub copy_to : Form → StructAt → ℕ → Meter → Meter → View → View → CopyCall
copy_to form p i before after old new = copy_call form (call_at 0 (pointer_of p i) old new) before after

-- The call, with the result r, copies what this form keeps of the value that is read to pointer i of
-- the struct, and changes nothing else; or it is refused, and the pointer is null.
pub record CopiesAt (form : Form) (from : Reading) (before after : Meter) (p : StructAt) (i : ℕ)
    (r : Result Done ErrorKind) (old new : View) : Type 0 where
  pub copied : IfOk r (λ _. PutsCopy (value_original from) (copy_to form p i before after old new))
  pub fits : CanBeCopied (value_original from) form before old 0 → IsOk r
  pub refused : IfErr r (LeavesCleared (value_original from) (copy_to form p i before after old new))
  pub taken : TakesAtMost r (value_original from) (copy_to form p i before after old new)
  pub child : (t : Tree) → HasValue from t →
      MakesChild r (call_in (placed_struct p) old.words new.words) i (kept form t)
  pub grows : Grows old.words new.words

-- The same, and C sees the number of the result, and the words that are left of those that it had.
pub record CopiesValue (form : Form) (number : ℕ) (from : Reading) (had left : ℕ) (p : StructAt)
    (i : ℕ) (b : Buffer) : Type 0 where
  pub after : Meter
  pub left_is : left ≡ left_over had after.left
  pub gives : Gives Done number b (CopiesAt form from (unused (Some had)) after p i)
