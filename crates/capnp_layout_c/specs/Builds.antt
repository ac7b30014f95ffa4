-- What a call that builds does to the message in the buffer.
use Rattle.std.specs.Prelude.{◌≡◌, ◌<◌, ℕ, List, Result, IsOk, IfOk, slice_set}
use Rattle.capnp_words.specs.declared.error.ErrorKind.{ErrorKind}
use Rattle.capnp_words.specs.declared.wire_pointer.StructSize.{StructSize}
use Rattle.capnp_format.specs.Segments.{Grows, Segments}
use Rattle.capnp_format.specs.Path.{put_tree}
use Rattle.capnp_format.specs.Tree.{Tree, Trees, Flat}
use Rattle.capnp_words.specs.declared.wire_pointer.ElementSize.{ElementSize}
use Rattle.capnp_arena_traits.specs.View.{View}
use Rattle.capnp_allocation.specs.Makes.{MakesObject, call_at}
use Rattle.capnp_allocation.specs.Stored.{IsStored}
use Rattle.capnp_in_place.specs.Opening.{LeadsToOne, OpensStruct}
use Rattle.capnp_in_place.specs.Rooms.{OpeningFits}
use Rattle.capnp_in_place.specs.Widened.{IsAtLeast}
use Rattle.capnp_in_place.specs.declared.existing.ExistingStruct.{ExistingStruct}
use Rattle.capnp_builders.specs.Held.{CallIn, MakesChild, ReplacesChild, ReplacesField, SetsChild}
use Rattle.capnp_builders.specs.Held.{HasList, HasStruct, Holder, SetsField, call_in}
use Rattle.capnp_builders.specs.Places.{Field}
use Rattle.capnp_layout_c.specs.Buffers.{Buffer, placed_list, pointer_of, sized_at}
use Rattle.capnp_layout_c.specs.Buffers.{placed_struct, words_in}
use Rattle.capnp_layout_c.specs.declared.building.places.ListAt.{ListAt}
use Rattle.capnp_layout_c.specs.declared.building.places.StructAt.{StructAt}

-- The call at the place of a struct.
abbrev pub call_of : Buffer → StructAt → CallIn
call_of b p = call_in (placed_struct p) (words_in b.old b.from) (words_in b.new b.used)

-- The call, with the result r, makes pointer i of the struct lead to a new object of n words, whose
-- value is t, and changes nothing else. If it is refused, the pointer is null afterwards.
pub record BuildsAt {A : Type 0} (p : StructAt) (i : ℕ) (t : Tree) (n : ℕ) (r : Result A ErrorKind)
    (old new : View) : Type 0 where
  pub object : MakesObject r (call_at 0 (pointer_of p i) old new) t n
  pub child : MakesChild r (call_in (placed_struct p) old.words new.words) i t
  pub grows : Grows old.words new.words

-- The call makes the pointer at this word lead to a new object, and changes nothing else. If it is
-- refused, the pointer is null afterwards.
pub record MakesAt {A : Type 0} (at : ℕ) (t : Tree) (n : ℕ) (r : Result A ErrorKind)
    (old new : View) : Type 0 where
  pub object : MakesObject r (call_at 0 at old new) t n

-- The same, for the root pointer.
pub record BuildsRoot {A : Type 0} (t : Tree) (n : ℕ) (r : Result A ErrorKind) (old new : View)
    : Type 0 where
  pub object : MakesObject r (call_at 0 0 old new) t n
  pub grows : Grows old.words new.words

-- The call writes a field of the struct, and changes nothing else.
pub record WritesIn (c : CallIn) (f : Field) : Type 0 where
  pub sets : SetsField c f
  pub replaces : ReplacesField c f
  pub grows : Grows c.old c.new

-- The call makes u child i of the struct, and changes nothing else.
pub record PutsIn (c : CallIn) (i : ℕ) (u : Tree) : Type 0 where
  pub sets : SetsChild (λ after. after) c i u
  pub replaces : ReplacesChild (λ after. after) c i u
  pub grows : Grows c.old c.new

-- The place of an existing struct, in the form that C has.
abbrev pub existing_at : ExistingStruct → StructAt
existing_at e = sized_at e.start e.size.data_words e.size.pointers

-- The call opens the struct at word `at`, or a new one in place of null, with at least this size,
-- and C gets its place as `inner`. The call isn't refused if there is room.
pub record OpensAt (at : ℕ) (size : StructSize) (inner : StructAt)
    (r : Result ExistingStruct ErrorKind) (old new : View) : Type 0 where
  pub opens : (t : Tree) → IsStored old.words 0 at t →
      OpensStruct LeadsToOne size r (call_at 0 at old new) t
  pub inner_is : IfOk r (λ e. inner ≡ existing_at e)
  pub wide : IfOk r (IsAtLeast size)
  pub fits : OpeningFits old 0 at size → IsOk r
  pub grows : Grows old.words new.words

-- From S to R, element i of a list of numbers or bits is written.
pub record WritesElement (S R : Segments) (size : ElementSize) (l : ListAt) (i value : ℕ)
    : Type 0 where
  pub sets : (p n : ℕ) (ns : List ℕ) → HasList S 0 p (placed_list size l) (Flat n ns) →
      HasList R 0 p (placed_list size l) (Flat n (slice_set ns i value))
  pub sets_child : (x : Holder) (place : StructAt) (ws : List ℕ) (ts : Trees) (k n : ℕ)
      (ns : List ℕ) →
      k < place.pointers → HasList S 0 (pointer_of place k) (placed_list size l) (Flat n ns) →
      HasStruct S x (placed_struct place) ws (put_tree ts k (Flat n ns)) →
      HasStruct R x (placed_struct place) ws (put_tree ts k (Flat n (slice_set ns i value)))
  pub grows : Grows S R
