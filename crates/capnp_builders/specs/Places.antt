-- Where structs and lists of a message being built are ("Structs", "Lists").
use Rattle.std.specs.Prelude.{◌≡◌, ℕ, ◌+◌, ◌*◌, ◌/◌, ◌%◌, ◌<◌, min}
use Rattle.capnp_arena_traits.specs.View.{View}
use Rattle.capnp_allocation.specs.Fields.{with_field}
use Rattle.capnp_format.specs.Fields.{field_in}
use Rattle.capnp_format.specs.Numbers.{element_bits}
use Rattle.capnp_format.specs.Forest.{target}
use Rattle.capnp_format.specs.Segments.{Target, segment}
use Rattle.capnp_allocation.specs.Makes.{CallAt}
use Rattle.capnp_allocation.specs.Memory.{start_of}
use Rattle.capnp_in_place.specs.declared.existing.ExistingList.{ExistingList}
use Rattle.capnp_in_place.specs.declared.existing.ExistingStruct.{ExistingStruct}
use Rattle.capnp_in_place.specs.Opening.{existing_struct}
use Rattle.capnp_words.specs.Sizes.{size_number}
use Rattle.capnp_words.specs.declared.wire_pointer.ElementSize.{ElementSize}
use Rattle.capnp_words.specs.declared.wire_pointer.ElementSize.TheVariants.{Pointer, InlineComposite}
use Rattle.capnp_words.specs.declared.wire_pointer.StructSize.{StructSize}
use Rattle.capnp_readers.specs.Readers.{IsStructPlace, IsListPlace}
use Rattle.capnp_readers.specs.declared.readers.struct_reader.StructPlace.{StructPlace}
use Rattle.capnp_readers.specs.declared.readers.list_reader.ListPlace.{ListPlace}

-- The place of a struct, as a builder has it.
abbrev pub struct_place : ExistingStruct → StructPlace
struct_place e = record {
  segment = e.segment;
  byte = 8 * e.start;
  bits = 64 * e.size.data_words;
  pointers_at = e.start + e.size.data_words;
  pointers = e.size.pointers;
}

-- The place of a list, as a builder has it.
abbrev pub list_place : ExistingList → ListPlace
list_place l =
    record {
      segment = l.segment;
      byte = 8 * l.start;
      size = l.size;
      struct_size = l.struct_size;
      count = l.count;
    }

-- The pointer of a call leads to a struct of this size, whose sections are inside the message.
pub record IsStructOf (c : CallAt) (size : StructSize) (place : StructPlace) : Type 0 where
  pub is : place ≡ struct_place (existing_struct (start_of (target c.new.words c.segment c.at)) size)
  pub inside : IsStructPlace c.new.words place

-- The pointer of a call leads to the list that `list` makes of its target, and the elements are
-- inside the message.
pub record IsListOf (c : CallAt) (list : Target → ExistingList) (place : ListPlace) : Type 0 where
  pub is : place ≡ list_place (list (target c.new.words c.segment c.at))
  pub inside : IsListPlace c.new.words place

-- Where element i of a list of this element size is, as a struct: its two sections, one pointer, or
-- the bits of a number.
abbrev pub element_place : ElementSize → ListPlace → ℕ → StructPlace
element_place InlineComposite list i =
    let step = list.struct_size.data_words + list.struct_size.pointers in
    struct_place (record {
      segment = list.segment;
      start = list.byte / 8 + i * step;
      size = list.struct_size;
    })
element_place Pointer list i =
    struct_place (record {
      segment = list.segment;
      start = list.byte / 8 + i;
      size = record { data_words = 0; pointers = 1 };
    })
element_place size list i =
    let bits = element_bits (size_number size) in
    record {
      segment = list.segment;
      byte = list.byte + i * (bits / 8);
      bits = bits;
      pointers_at = list.byte / 8;
      pointers = 0;
    }

-- A data section starts at a multiple of the size of the widest numbers that it holds, which take
-- 1, 2, 4 or 8 bytes.
abbrev pub IsAligned : StructPlace → Type 0
IsAligned place =
    let widest = min 8 (place.bits / 8) in 0 < widest → (8 % widest ≡ 0) × (place.byte % widest ≡ 0)

-- Bits that are written: their distance in bits from the start, how many they are, and their value.
pub record Field : Type 0 where
  pub start : ℕ
  pub bits : ℕ
  pub value : ℕ

-- A field of these bits, by their start, their number and their value.
abbrev pub field : ℕ → ℕ → ℕ → Field
field start bits value = record { start = start; bits = bits; value = value }

-- The number i of a data section, in numbers of `bytes` bytes.
abbrev pub number_field : ℕ → ℕ → ℕ → Field
number_field bytes i value = field (8 * (i * bytes)) (8 * bytes) value

-- From old to new the field f is written after byte `byte` of a segment, and nothing else changes.
abbrev pub WritesField : View → View → ℕ → ℕ → Field → Type 0
WritesField old new segment byte f =
    new ≡ record old { words = with_field old.words segment (8 * byte + f.start) f.bits f.value }

-- The field f after byte `byte` of segment s has its value.
abbrev pub HasField : View → ℕ → ℕ → Field → Type 0
HasField view s byte f = f.value ≡ field_in (segment view.words s) (8 * byte + f.start) f.bits
