-- The copy of a list being read: the words of its elements were read before, and its first element
-- is read at its place.
use Rattle.capnp_arena_traits.specs.declared.arena.reader_arena.ReaderArena.{Ghosts}
use Rattle.capnp_format.specs.Tree.{Tree}
use Rattle.capnp_pointers.specs.Reading.{reading_at}
use Rattle.capnp_readers.specs.declared.readers.list_reader.ListReader.{ListReader}
use Rattle.capnp_copies.specs.Originals.{Original, list_original}

module _ {A : Type 0} (g : Ghosts A) where
  -- What is copied of the list.
  abbrev pub list_read : ListReader A g → Original Tree
  list_read value =
      list_original value.element_size value.struct_size value.count
      (reading_at g value.source value.start value.nesting_limit)
