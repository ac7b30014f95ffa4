-- What a plain pointer reads.
use Rattle.std.specs.Prelude.{ℕ, ℤ}
use Rattle.capnp_arena_traits.specs.declared.arena.reader_arena.ReaderArena.{Ghosts}
use Rattle.capnp_pointers.specs.Reading.{Reading, reading_at}
use Rattle.capnp_pointers.specs.declared.pointers.Pointer.{Pointer}

module _ {A : Type 0} (g : Ghosts A) where
  -- The reading of a pointer at its place.
  abbrev pub reading : Pointer A g → Reading
  reading r = reading_at g r.source r.place r.nesting_limit

  -- The reading of the place at position `at` of a pointer's segment, within a nesting limit.
  abbrev pub reading_on : Pointer A g → ℕ → ℤ → Reading
  reading_on r at nesting = reading_at g r.source (record r.place { at = at }) nesting
