-- What the size of a struct that is read counts.
use Rattle.std.specs.Prelude.{ℕ, ◌+◌, ◌/◌}
use Rattle.capnp_arena_traits.specs.declared.arena.reader_arena.ReaderArena.{Ghosts}
use Rattle.capnp_pointers.specs.Reading.{Reading, reading_at}
use Rattle.capnp_readers.specs.declared.readers.struct_reader.StructReader.{StructReader}

module _ {A : Type 0} (g : Ghosts A) where
  -- The number of a struct's own words: its data section, rounded up, and its pointers.
  abbrev pub own_words : StructReader A g → ℕ
  own_words r = (r.bits + 63) / 64 + r.pointer_count

  -- The reading of the first pointer of a struct.
  abbrev pub pointers_read : StructReader A g → Reading
  pointers_read r = reading_at g r.source r.pointers r.nesting_limit
