-- Structs and lists of structs of a message being built, opened for writing ("Structs", "Lists").
use Rattle.std.specs.Prelude.{◌≡◌, ℕ, Option, Result, List, Ok, IsSomeAnd}
use Rattle.std.specs.Borrow.{Bor}
use Rattle.capnp_words.specs.declared.error.ErrorKind.{ErrorKind}
use Rattle.capnp_format.specs.Forest.{target}
use Rattle.capnp_format.specs.Segments.{Segments}
use Rattle.capnp_format.specs.Tree.{Tree, Null}
use Rattle.capnp_words.specs.declared.wire_pointer.ElementSize.TheVariants.{Void}
use Rattle.capnp_words.specs.declared.wire_pointer.StructSize.{StructSize}
use Rattle.capnp_in_place.specs.Existing.{list_in, struct_in}
use Rattle.capnp_allocation.specs.Stored.{IsStored}
use Rattle.capnp_arena_traits.specs.View.{View}
use Rattle.capnp_readers.specs.Readers.{IsListPlace, IsStructPlace}
use Rattle.capnp_readers.specs.declared.readers.list_reader.ListPlace.{ListPlace}
use Rattle.capnp_readers.specs.declared.readers.struct_reader.StructPlace.{StructPlace}
use Rattle.capnp_allocation.specs.Makes.{CallAt}
use Rattle.capnp_in_place.specs.Opening.{Opens, OpensStruct}
use Rattle.capnp_in_place.specs.Rooms.{WiderListFits, OpeningFits}
use Rattle.capnp_in_place.specs.Widened.{list_widened}
use Rattle.capnp_builders.specs.Defaults.{object_default, FitsWithDefault, WithDefault}
use Rattle.capnp_builders.specs.Found.{list_given, void_list}
use Rattle.capnp_builders.specs.Places.{struct_place}

-- The pointer at (s, p) leads to the struct u, or to the list u, which a call returns as `place`.
abbrev pub IsStructGiven : Segments → ℕ → ℕ → Tree → StructPlace → Type 0
IsStructGiven S s p u place =
    IsSomeAnd (struct_in (target S s p) u) (λ e. place ≡ struct_place e) × IsStructPlace S place

abbrev pub IsListGiven : Segments → ℕ → ℕ → Tree → ListPlace → Type 0
IsListGiven S s p u place =
    (list_given s (list_in (target S s p) Void u) ≡ Ok place) × IsListPlace S place

-- The call opens the list of structs that is there, after making one of any other list. Null is an
-- empty list, and nothing changes.
abbrev pub OpensList : StructSize → Result ListPlace ErrorKind → CallAt → Tree → Type 0
OpensList size result c Null = (result ≡ Ok (void_list c.segment)) × (c.new ≡ c.old)
OpensList size result c t =
    Opens size IsListGiven c t (list_widened size.data_words size.pointers t) result

-- If the pointer is null, the call first puts its default there, if it has one. It then opens the
-- struct or the list that is there.
abbrev pub FindsStruct : StructSize → Option (Bor (List ℕ)) → Result StructPlace ErrorKind →
    CallAt → Tree → Type 0
FindsStruct size default result c t =
    WithDefault (object_default default t) c t (OpensStruct IsStructGiven size result) result

abbrev pub FindsStructs : StructSize → Option (Bor (List ℕ)) → Result ListPlace ErrorKind → CallAt →
    Tree → Type 0
FindsStructs size default result c t =
    WithDefault (object_default default t) c t (OpensList size result) result

-- (s, p) stores some value. There is room for the default, if that is put, and then to open the
-- struct that is there, or a new one in place of null; or for what becomes of the list that is
-- there then.
abbrev pub StructFindFits : StructSize → Option (Bor (List ℕ)) → View → ℕ → ℕ → Type 0
StructFindFits size default v s p =
    (t : Tree) × IsStored v.words s p t ×
    FitsWithDefault (object_default default t) v s p (λ m. OpeningFits m s p size)

abbrev pub StructsFindFits : StructSize → Option (Bor (List ℕ)) → View → ℕ → ℕ → Type 0
StructsFindFits size default v s p =
    (t : Tree) × IsStored v.words s p t ×
    FitsWithDefault (object_default default t) v s p
    (λ m. WiderListFits (IsStored m.words s p) m s p size)
