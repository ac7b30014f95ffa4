-- What readers show of a message, and at which places they may be.
use Rattle.std.specs.Prelude.{◌≡◌, ℕ, pos, ◌+◌, ◌*◌, ◌/◌, ◌%◌, ◌^◌, slice_range, ◌-ℤ◌, ◌<◌, ◌≤◌, length}
use Rattle.capnp_format.specs.Bytes.{words_of}
use Rattle.capnp_words.specs.Meter.{Meter, Affords}
use Rattle.capnp_format.specs.Segments.{Segments, Target, segment, words_at}
use Rattle.capnp_format.specs.Numbers.{element_bits}
use Rattle.capnp_words.specs.Sizes.{size_number, sized}
use Rattle.capnp_format.specs.Word.{kind, offset_bits, data_words, pointer_count, element_size}
use Rattle.capnp_format.specs.Word.{list_count, upper_half}
use Rattle.capnp_words.specs.declared.wire_pointer.ElementSize.{ElementSize}
use Rattle.capnp_words.specs.declared.wire_pointer.ElementSize.TheVariants.{Pointer, InlineComposite}
use Rattle.capnp_arena_traits.specs.declared.arena.reader_arena.ReaderArena.{Ghosts}
use Rattle.capnp_pointers.specs.Demands.{tag}
use Rattle.capnp_pointers.specs.Reading.{Reading, source_start, reading_at, word_of, tag_size}
use Rattle.capnp_pointers.specs.Rows.{Rows, rows_sized}
use Rattle.capnp_words.specs.declared.wire_pointer.StructSize.{StructSize}
use Rattle.capnp_pointers.specs.Outcomes.{Entered}
use Rattle.capnp_readers.specs.Sections.{bytes_for, elements_words, step_bits}
use Rattle.capnp_pointers.specs.Spending.{after_charge}
use Rattle.capnp_pointers.specs.declared.object.Purpose.TheVariants.{Value}
use Rattle.capnp_readers.specs.declared.readers.PointerReader.{PointerReader}
use Rattle.capnp_readers.specs.declared.readers.struct_reader.StructPlace.{StructPlace}
use Rattle.capnp_readers.specs.declared.readers.struct_reader.StructReader.{StructReader}
use Rattle.capnp_readers.specs.declared.readers.list_reader.ListPlace.{ListPlace}
use Rattle.capnp_readers.specs.declared.readers.list_reader.ListReader.{ListReader}
use Rattle.capnp_readers.specs.declared.readers.target.Target.{Target as ReadTarget}
use Rattle.capnp_readers.specs.declared.readers.target.Target.TheVariants.{Null, Cap, Struct, List}
use Rattle.capnp_pointers.specs.Wanted.{FollowsTo}

-- Both sections of a struct are inside its segment.
abbrev pub IsStructPlace : Segments → StructPlace → Type 0
IsStructPlace S place =
    (place.segment < length S) × (place.byte + bytes_for place.bits
    ≤ 8 * length (segment S place.segment)) × (place.pointers_at + place.pointers
    ≤ length (segment S place.segment))

-- The elements of a list are inside its segment, and start at a word.
abbrev pub IsListPlace : Segments → ListPlace → Type 0
IsListPlace S place =
    (place.segment < length S) × (place.byte % 8 ≡ 0)
    × (place.byte + 8 * elements_words place.size place.count
    (place.struct_size.data_words + place.struct_size.pointers)
    ≤ 8 * length (segment S place.segment))

module _ {A : Type 0} (g : Ghosts A) where
  -- The reader r shows the struct of these sections that starts at (s, p).
  pub record ShowsStruct (S : Segments) (r : StructReader A g) (s p : ℕ) (size : StructSize)
      : Type 0 where
    pub words_are : words_of r.content.now ≡ words_at S s p size.data_words
    pub byte_is : r.byte ≡ 8 * p
    pub bits_are : r.bits ≡ 64 * size.data_words
    pub segment_is : r.pointers.segment ≡ s
    pub pointers_start : r.pointers.at ≡ p + size.data_words
    pub pointers_are : r.pointer_count ≡ size.pointers

  -- The reader r shows the list of these elements that starts at (s, p). If they aren't structs,
  -- their sections have no words.
  pub record ShowsList (S : Segments) (r : ListReader A g) (s p : ℕ) (elements : Rows) : Type 0 where
    pub words_are : words_of r.content.now ≡ words_at S s p (elements_words r.element_size elements.count
        (elements.size.data_words + elements.size.pointers))
    pub segment_is : r.start.segment ≡ s
    pub elements_start : r.start.at ≡ p
    pub counts : r.count ≡ elements.count
    pub data_of : r.struct_size.data_words ≡ elements.size.data_words
    pub pointers_of : r.struct_size.pointers ≡ elements.size.pointers

  -- The struct reader r shows element i of a list whose elements have this size: a struct's two
  -- sections, one pointer, or the bits of a number.
  abbrev pub ShowsElement : ElementSize → ListReader A g → ℕ → StructReader A g → Type 0
  ShowsElement InlineComposite list i r =
      let d = list.struct_size.data_words in
      let q = list.struct_size.pointers in
      ShowsStruct (source_start g list.source).segments r list.start.segment
      (list.start.at + i * (d + q)) (sized d q)
  ShowsElement Pointer list i r =
      ShowsStruct (source_start g list.source).segments r list.start.segment (list.start.at + i)
      (sized 0 1)
  ShowsElement size list i r =
      (r.bits ≡ element_bits (size_number size)) × (r.byte ≡ 8 * list.start.at + i * (r.bits / 8))
      × (r.content.now ≡ slice_range list.content.now (i * (r.bits / 8))
      (i * (r.bits / 8) + r.bits / 8)) × (r.pointer_count ≡ 0)

  -- The reader r shows the list at the target a, by its size: one of structs starts after its tag.
  abbrev pub IsTargetList : ElementSize → Segments → ListReader A g → Target → Type 0
  IsTargetList InlineComposite S r a =
      (element_size a.word ≡ 7) × ShowsList S r a.segment (a.start + 1)
      (rows_sized (tag_size S a) (offset_bits (tag S a)))
  IsTargetList size S r a = (element_size a.word ≡ size_number size) ×
      ShowsList S r a.segment a.start (rows_sized (sized 0 0) (list_count a.word))

  -- The bit of a list's words at which element i starts.
  abbrev pub element_start : ListReader A g → ℕ → ℕ
  element_start list i = i * step_bits list.element_size list.struct_size

  -- What a pointer reader reads.
  abbrev pub read_by : PointerReader A g → Reading
  read_by r = reading_at g r.source r.place r.nesting_limit

  -- The pointer of the reader `from` leads to the struct that r shows. The words of that struct
  -- have been checked, and charging them took the meter from m to m'. r reads the same source, with
  -- one level less.
  abbrev pub IsStructThere : PointerReader A g → Meter → Meter → StructReader A g → Type 0
  IsStructThere from m m' r =
      (a : Target) × Entered Value (read_by from) m m' a × (kind a.word ≡ 0)
      × ShowsStruct (read_by from).segments r a.segment a.start
      (record { data_words = data_words a.word; pointers = pointer_count a.word })
      × (r.source ≡ from.source) × (r.nesting_limit ≡ from.nesting_limit -ℤ pos 1)

  -- The pointer of the reader `from` leads to the list that r shows, whose words are checked, and
  -- charged from m to m'. r reads the same source, with one level less.
  abbrev pub IsListThere : PointerReader A g → Meter → Meter → ListReader A g → Type 0
  IsListThere from m m' r =
      (a : Target) × Entered Value (read_by from) m m' a × (kind a.word ≡ 1) ×
      IsTargetList r.element_size (read_by from).segments r a
      × (r.source ≡ from.source) × (r.nesting_limit ≡ from.nesting_limit -ℤ pos 1)

  -- What the pointer of the reader `from` leads to, whose words are checked, and charged from m to
  -- m'.
  abbrev pub IsTarget : PointerReader A g → Meter → Meter → ReadTarget A g → Type 0
  IsTarget from m m' Null = (word_of (read_by from) ≡ 0) × (m' ≡ m)
  IsTarget from m m' (Cap i) =
      (a : Target) × FollowsTo (read_by from) a × (a.word % 2 ^ 32 ≡ 3) × (i ≡ upper_half a.word)
      × Affords (read_by from).charging m a.pads
      × (m' ≡ after_charge (read_by from).charging m a.pads 1)
  IsTarget from m m' (Struct r) = IsStructThere from m m' r
  IsTarget from m m' (List r) = IsListThere from m m' r
