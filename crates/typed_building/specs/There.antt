-- Structs and lists that are in a message being built.
use Rattle.std.specs.Prelude.{◌≡◌, ℕ, ◌+◌, ◌*◌, ◌/◌, ◌<◌, ◌≤◌}
use Rattle.capnp_format.specs.Segments.{Segments}
use Rattle.capnp_arena_traits.specs.View.{View}
use Rattle.capnp_allocation.specs.Makes.{CallAt, call_at}
use Rattle.capnp_words.specs.declared.wire_pointer.ElementSize.{ElementSize}
use Rattle.capnp_words.specs.declared.wire_pointer.ElementSize.TheVariants.{InlineComposite}
use Rattle.capnp_words.specs.declared.wire_pointer.StructSize.{StructSize}
use Rattle.capnp_readers.specs.Readers.{IsStructPlace, IsListPlace}
use Rattle.capnp_readers.specs.declared.readers.list_reader.ListPlace.{ListPlace}
use Rattle.capnp_readers.specs.declared.readers.struct_reader.StructPlace.{StructPlace}
use Rattle.capnp_builders.specs.Places.{IsAligned}

-- A struct at least as large as `size` is in S, at this place.
pub record HasStructPlace (S : Segments) (size : StructSize) (place : StructPlace) : Type 0 where
  pub inside : IsStructPlace S place
  pub aligned : IsAligned place
  pub wide : 64 * size.data_words ≤ place.bits
  pub many : size.pointers ≤ place.pointers

-- A list is in S, and its elements are structs at least as large as `size`.
pub record HasStructsPlace (S : Segments) (size : StructSize) (list : ListPlace) : Type 0 where
  pub inside : IsListPlace S list
  pub structs : 0 < list.count → list.size ≡ InlineComposite
  pub wide : 0 < list.count → size.data_words ≤ list.struct_size.data_words
  pub many : 0 < list.count → size.pointers ≤ list.struct_size.pointers

-- A list is in S, and its elements have this size.
pub record HasListPlace (S : Segments) (size : ElementSize) (list : ListPlace) : Type 0 where
  pub inside : IsListPlace S list
  pub is_size : list.size ≡ size

-- A call at pointer i of the struct at this place: the message before and after it.
abbrev pub call_on : StructPlace → ℕ → View → View → CallAt
call_on place i old new = call_at place.segment (place.pointers_at + i) old new

-- A call at element i of the list of pointers at this place: the message before and after it.
abbrev pub call_on_element : ListPlace → ℕ → View → View → CallAt
call_on_element list i old new = call_at list.segment (list.byte / 8 + i) old new
