-- Lists of a message of one segment that are opened for writing.
use Rattle.std.specs.Prelude.{◌≡◌, ℕ, Option, Some, None, Result, IsOk, IfOk}
use Rattle.capnp_words.specs.Sizes.{size_number}
use Rattle.capnp_words.specs.declared.error.ErrorKind.{ErrorKind}
use Rattle.capnp_words.specs.declared.wire_pointer.StructSize.{StructSize}
use Rattle.capnp_format.specs.Segments.{Grows, Segments}
use Rattle.capnp_format.specs.Tree.{Tree}
use Rattle.capnp_arena_traits.specs.View.{View}
use Rattle.capnp_allocation.specs.Makes.{call_at}
use Rattle.capnp_allocation.specs.Stored.{IsStored}
use Rattle.capnp_in_place.specs.Existing.{FindsListAt, size_of}
use Rattle.capnp_in_place.specs.Opening.{OpensExistingList}
use Rattle.capnp_in_place.specs.Rooms.{WiderListFits}
use Rattle.capnp_in_place.specs.declared.existing.ExistingList.{ExistingList}
use Rattle.capnp_layout_c.specs.BuildingNumbers.{number_of_result}
use Rattle.capnp_layout_c.specs.declared.building.places.ElementsAt.{ElementsAt}
use Rattle.capnp_layout_c.specs.declared.building.places.ListAt.{ListAt}

-- The place of a list, by its parts.
abbrev pub listed_at : ℕ → ℕ → ListAt
listed_at at count = record { at = at; count = count }

-- A list that was opened, by its parts.
abbrev pub elements_at : ℕ → StructSize → ℕ → ℕ → ElementsAt
elements_at at size count number = record {
  at = at;
  data_words = size.data_words;
  pointers = size.pointers;
  count = count;
  size = number;
}

-- What C gets for null, and after a refusal.
abbrev pub no_list : ElementsAt
no_list = elements_at 0 (record { data_words = 0; pointers = 0 }) 0 0

-- The list that was found, in the form that C has.
abbrev pub elements_of_found : Option ExistingList → ElementsAt
elements_of_found None = no_list
elements_of_found (Some l) = elements_at l.start l.struct_size l.count (size_number l.size)

-- The call finds the list at word `at`, of elements that are at least as wide as the size with this
-- number, and C gets it as `to`; or it is refused. C sees the number of the result.
pub record FindsElements (number size at : ℕ) (S : Segments) (to : ElementsAt) : Type 0 where
  pub found : Result (Option ExistingList) ErrorKind
  pub is : number ≡ number_of_result found
  pub finds : FindsListAt S 0 at (size_of size) found
  pub to_is : IfOk found (λ l. to ≡ elements_of_found l)

-- The call opens the list at word `at` as one of structs of at least this size, and C gets it as
-- `to`. A null pointer stays null. The call isn't refused if there is room.
pub record OpensListAt (at : ℕ) (size : StructSize) (to : ElementsAt)
    (r : Result (Option ExistingList) ErrorKind) (old new : View) : Type 0 where
  pub opens : (t : Tree) → IsStored old.words 0 at t →
      OpensExistingList size r (call_at 0 at old new) t
  pub to_is : IfOk r (λ l. to ≡ elements_of_found l)
  pub fits : WiderListFits (IsStored old.words 0 at) old 0 at size → IsOk r
  pub grows : Grows old.words new.words
