-- The copy of a struct that is read. Its data section may end inside a word, and may be apart from
-- its pointers.
use Rattle.std.specs.Prelude.{ℕ, zero, suc, ◌*◌, ◌/◌, ◌%◌, ◌^◌, List, [], ◌∷◌, ◌++◌, take, drop}
use Rattle.capnp_format.specs.Bytes.{words_of}
use Rattle.capnp_format.specs.Numbers.{from_digits}
use Rattle.capnp_format.specs.Tree.{Tree}
use Rattle.capnp_arena_traits.specs.declared.arena.reader_arena.ReaderArena.{Ghosts}
use Rattle.capnp_readers.specs.Sizes.{pointers_read}
use Rattle.capnp_readers.specs.declared.readers.struct_reader.StructReader.{StructReader}
use Rattle.capnp_copies.specs.Originals.{Original, sections_original}

-- The word of the first n bits of the bytes, the lowest first, with zeros after them; no word if n
-- is 0.
abbrev pub bits_left : ℕ → List ℕ → List ℕ
bits_left zero bytes = []
bits_left (suc n) bytes = from_digits 256 bytes % 2 ^ suc n ∷ []

-- The words of a data section of `bits` bits: its whole words, and a word of the bits after these.
abbrev pub section_words : ℕ → List ℕ → List ℕ
section_words bits bytes =
    take (bits / 64) (words_of bytes) ++ bits_left (bits % 64) (drop (8 * (bits / 64)) bytes)

module _ {A : Type 0} (g : Ghosts A) where
  -- The data words of a struct that is read.
  abbrev pub data_of : StructReader A g → List ℕ
  data_of value = section_words value.bits value.content.now

  -- What is copied of the struct.
  abbrev pub struct_read : StructReader A g → Original Tree
  struct_read value = sections_original (data_of value) (pointers_read g value) value.pointer_count
