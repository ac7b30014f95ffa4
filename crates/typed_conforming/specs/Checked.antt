-- Readers of structs and lists that conform to a schema: their getters can't be refused.
use Rattle.std.specs.Prelude.{◌≡◌, ◌⊎◌, ℕ, List, ⊤}
use Rattle.capnp_arena_traits.specs.declared.arena.reader_arena.ReaderArena.{Ghosts}
use Rattle.capnp_format.specs.Tree.{Tree, Pointers, Structs}
use Rattle.capnp_readers.specs.Values.{ShowsListOf, ShowsStructOf, struct_children, struct_data}
use Rattle.capnp_readers.specs.declared.readers.list_reader.ListReader.{ListReader}
use Rattle.capnp_readers.specs.declared.readers.struct_reader.StructReader.{StructReader}
use Rattle.typed_conforming.specs.Conforms.{ConformAll, ConformEach, ConformElements}

-- The elements of a list, which have this row of the table T, conform.
abbrev pub ElementsConform : List ℕ → ℕ → Tree → Type 0
ElementsConform T row (Pointers ts) = ConformEach T row ts
ElementsConform T row (Structs d q es) = ConformElements T row es
ElementsConform T row t = ⊤

module _ {A : Type 0} (g : Ghosts A) where
  -- The reader r shows a struct that conforms to this row of the table T.
  pub record ShowsConforming (T : List ℕ) (row : ℕ) (r : StructReader A g) : Type 0 where
    pub struct : Tree
    pub shows : ShowsStructOf g r struct
    pub conforms : ConformAll T row (struct_data struct) 0 (struct_children struct)

  -- The same; or r has no pointers, like a number of a list that is read as a struct.
  abbrev pub IsChecked : List ℕ → ℕ → StructReader A g → Type 0
  IsChecked T row r = ShowsConforming T row r ⊎ (r.pointer_count ≡ 0)

  -- The reader r shows a list whose elements conform to this row of the table T.
  pub record IsCheckedList (T : List ℕ) (row : ℕ) (r : ListReader A g) : Type 0 where
    pub list : Tree
    pub shows : ShowsListOf g r list
    pub conforms : ElementsConform T row list
