-- Parts of a segment that a reader holds as slices.
use Rattle.std.specs.Prelude.{◌≡◌, ℕ, List, take, drop, length, ◌+◌, ◌*◌, ◌/◌, ◌%◌, ◌^◌}
use Rattle.std.specs.Prelude.{slice_index, slice_range, min, ◌<◌, ◌≤◌, ⊤}
use Rattle.capnp_format.specs.Segments.{Segments, segment}
use Rattle.capnp_format.specs.Numbers.{from_digits, words_for, element_bits}
use Rattle.capnp_words.specs.Sizes.{size_number}
use Rattle.capnp_words.specs.declared.wire_pointer.ElementSize.{ElementSize}
use Rattle.capnp_words.specs.declared.wire_pointer.ElementSize.TheVariants.{Bit, Pointer, InlineComposite}
use Rattle.capnp_words.specs.declared.wire_pointer.StructSize.{StructSize}
use Rattle.capnp_pointers.specs.declared.object.Place.{Place}

-- The number of bytes that hold `bits` bits.
abbrev pub bytes_for : ℕ → ℕ
bytes_for bits = (bits + 7) / 8

-- The bytes are those of the place's segment from byte position `byte` on, enough for `bits` bits.
abbrev pub IsPart : Place → ℕ → ℕ → List ℕ → Type 0
IsPart here byte bits bytes =
    (bytes ≡ take (bytes_for bits) (drop byte here.bytes.now)) × (length bytes ≡ bytes_for bits)

-- A field of `width` bits, at `offset` in such fields, is inside a section of `bits` bits.
abbrev pub IsInside : ℕ → ℕ → ℕ → Type 0
IsInside bits width offset = (offset + 1) * width ≤ bits

-- Bit i of the bytes, 0 or 1, the lowest of each byte first.
abbrev pub bit_at : List ℕ → ℕ → ℕ
bit_at bytes i = slice_index bytes (i / 8) / 2 ^ (i % 8) % 2

-- The n words from the place on are inside its segment.
abbrev pub HasWordsFrom : Segments → Place → ℕ → Type 0
HasWordsFrom S here n = here.at + n ≤ length (segment S here.segment)

-- The number of words of n elements of a list; structs are `width` words each ("Lists").
abbrev pub elements_words : ElementSize → ℕ → ℕ → ℕ
elements_words InlineComposite n width = n * width
elements_words Pointer n width = n
elements_words size n width = words_for (size_number size) n

-- An element holds a pointer: it is one, or a struct with pointers.
abbrev pub HoldsPointer : ElementSize → StructSize → Type 0
HoldsPointer Pointer sections = ⊤
HoldsPointer InlineComposite sections = 0 < sections.pointers
HoldsPointer size sections = ⊥

-- The number of words from the elements' start to the pointers of element i: in a struct they come
-- after its data.
abbrev pub pointers_offset : ElementSize → StructSize → ℕ → ℕ
pointers_offset InlineComposite sections i =
    i * (sections.data_words + sections.pointers) + sections.data_words
pointers_offset size sections i = i

-- The number of bits from the start of an element to the start of the next.
abbrev pub step_bits : ElementSize → StructSize → ℕ
step_bits InlineComposite sections = 64 * (sections.data_words + sections.pointers)
step_bits Pointer sections = 64
step_bits size sections = element_bits (size_number size)

-- The number of bits of data in an element: for a struct those of its data section, for a pointer
-- none.
abbrev pub data_bits : ElementSize → StructSize → ℕ
data_bits InlineComposite sections = 64 * sections.data_words
data_bits size sections = element_bits (size_number size)

-- The lowest 64 data bits of element i as a number, or all if it has fewer.
abbrev pub low_data : ElementSize → StructSize → List ℕ → ℕ → ℕ
low_data Bit sections bytes i = bit_at bytes i
low_data size sections bytes i =
    let start = i * step_bits size sections / 8 in
    from_digits 256 (slice_range bytes start (start + min 64 (data_bits size sections) / 8))
