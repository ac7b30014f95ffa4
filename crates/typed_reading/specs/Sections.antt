-- The object that was entered, without what its pointers lead to: the sections of a struct, and the
-- places of its pointers.
use Rattle.std.specs.Prelude.{◌≡◌, ℕ, ◌+◌, ◌-◌, ◌*◌, ◌^◌, length, if◌then◌else◌, nat_lt}
use Rattle.capnp_format.specs.Bytes.{words_of}
use Rattle.capnp_format.specs.Means.{StructAt}
use Rattle.capnp_format.specs.Segments.{Target, HasWords}
use Rattle.capnp_format.specs.Tree.{Tree, Null, Struct, count}
use Rattle.capnp_words.specs.declared.wire_pointer.ElementSize.TheVariants.{InlineComposite}
use Rattle.capnp_arena_traits.specs.declared.arena.reader_arena.ReaderArena.{Ghosts}
use Rattle.capnp_pointers.specs.Reading.{Reading, place_past, source_start, unset, word_of}
use Rattle.capnp_readers.specs.Sections.{pointers_offset}
use Rattle.capnp_readers.specs.Sizes.{pointers_read}
use Rattle.capnp_readers.specs.Values.{first_element, struct_children, struct_data}
use Rattle.capnp_readers.specs.declared.readers.list_reader.ListReader.{ListReader}
use Rattle.capnp_readers.specs.declared.readers.struct_reader.StructReader.{StructReader}

-- The pointer at the place leads to a struct with the data words of t, and with as many pointers;
-- it is null if t is. What the struct's pointers lead to may be anything.
abbrev pub LeadsToSectionsOf : Reading → Tree → Type 0
LeadsToSectionsOf r Null = word_of r ≡ 0
LeadsToSectionsOf r (Struct ws ts) =
    (a : Target) × StructAt r.segments r.segment r.at a (length ws) (count ts)
    × HasWords r.segments a.segment a.start ws
LeadsToSectionsOf r t = ⊥

module _ {A : Type 0} (g : Ghosts A) where
  -- The reader r shows the sections of the struct t: its data words, and the number of its
  -- pointers. What the pointers lead to may be anything.
  pub record ShowsSectionsOf (r : StructReader A g) (t : Tree) : Type 0 where
    pub bits_are : r.bits ≡ 64 * length (struct_data t)
    pub words_are : words_of r.content.now ≡ struct_data t
    pub pointers_are : r.pointer_count ≡ count (struct_children t)

  -- The place of pointer i of the struct that r reads; a place in no message if there is no such
  -- pointer.
  unfoldable pub pointer_field : StructReader A g → ℕ → Reading
  pointer_field r i =
      if nat_lt i r.pointer_count then place_past (pointers_read g r) i
      else record unset { levels = 2 ^ 31 - 1 }

  -- The place of the pointer of element i of the list that r reads: of the element itself, or of a
  -- struct's first pointer.
  abbrev pub element_pointer : ListReader A g → ℕ → Reading
  element_pointer r i =
      place_past (first_element g r) (pointers_offset r.element_size r.struct_size i)

  -- Element i of the list that r reads is a struct with the data words of t, and with as many
  -- pointers. What these pointers lead to may be anything.
  pub record ElementHasSections (r : ListReader A g) (i : ℕ) (t : Tree) : Type 0 where
    pub of_structs : r.element_size ≡ InlineComposite
    pub data_of : r.struct_size.data_words ≡ length (struct_data t)
    pub pointers_of : r.struct_size.pointers ≡ count (struct_children t)
    pub words_are : HasWords (source_start g r.source).segments r.start.segment
        (r.start.at + i * (r.struct_size.data_words + r.struct_size.pointers)) (struct_data t)
