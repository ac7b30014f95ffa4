-- What a struct that is read shows to the test for canonical form ("Canonicalization").
use Rattle.std.specs.Prelude.{◌≡◌, ◌≢◌, ℕ, ◌+◌, ◌*◌, ◌-◌, ◌/◌, ◌%◌, ◌^◌, min}
use Rattle.capnp_arena_traits.specs.declared.arena.reader_arena.ReaderArena.{Ghosts}
use Rattle.capnp_pointers.specs.Reading.{source_start}
use Rattle.capnp_pointers.specs.declared.source.Source.TheVariants.{Nothing}
use Rattle.capnp_pointers.specs.Standing.{EndsUsed}
use Rattle.capnp_readers.specs.Sizes.{own_words}
use Rattle.capnp_readers.specs.declared.readers.struct_reader.StructReader.{StructReader}

module _ {A : Type 0} (g : Ghosts A) where
  -- The struct has whole words of data, and starts at the word h. The struct from nothing starts
  -- nowhere.
  abbrev pub StartsWhole : StructReader A g → ℕ → Type 0
  StartsWhole r h = (r.source ≢ Nothing) × (r.bits % 64 ≡ 0) × (r.byte ≡ 8 * h)

  -- The data section is empty or ends in a word that isn't zero; the same for the pointer section.
  abbrev pub IsDataUsed : StructReader A g → Type 0
  IsDataUsed r =
      EndsUsed (source_start g r.source).segments r.pointers.segment (r.byte / 8) (r.bits / 64)

  abbrev pub ArePointersUsed : StructReader A g → Type 0
  ArePointersUsed r =
      EndsUsed (source_start g r.source).segments r.pointers.segment r.pointers.at r.pointer_count

  -- The word after the struct's own words, if it starts at h; at most the greatest u32.
  abbrev pub head_behind : StructReader A g → ℕ → ℕ
  head_behind r h = min (h + own_words g r) (2 ^ 32 - 1)
