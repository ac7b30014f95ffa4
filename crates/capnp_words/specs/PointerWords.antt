-- What a pointer word says, field by field.
use Rattle.std.specs.Prelude.{ℕ, ℤ, ◌≡◌}
use Rattle.capnp_format.specs.Word.{kind, offset_bits, offset_field, signed, upper_half, struct_word}
use Rattle.capnp_format.specs.Word.{data_words, pointer_count, list_word, element_size, list_count}
use Rattle.capnp_format.specs.Word.{far_word, is_double, far_position}
use Rattle.capnp_words.specs.declared.wire_pointer.StructSize.{StructSize}

-- The word x describes a struct of these sections, with `bits` as its offset.
pub record DescribesStruct (x bits : ℕ) (size : StructSize) : Type 0 where
  pub word : x ≡ struct_word bits size.data_words size.pointers
  pub kind_of : kind x ≡ 0
  pub bits_of : offset_bits x ≡ bits
  pub data_of : data_words x ≡ size.data_words
  pub pointers_of : pointer_count x ≡ size.pointers

-- The word x describes a list at this offset, of `count` elements of the size with number `size`.
pub record DescribesList (x : ℕ) (offset : ℤ) (size count : ℕ) : Type 0 where
  pub word : x ≡ list_word (offset_field offset) size count
  pub kind_of : kind x ≡ 1
  pub offset_of : signed (offset_bits x) ≡ offset
  pub size_of : element_size x ≡ size
  pub count_of : list_count x ≡ count

-- The word x leads to a landing pad at this position of this segment. The pad has one word, or two
-- if `double` is 1.
pub record LeadsToPad (x double position segment : ℕ) : Type 0 where
  pub word : x ≡ far_word double position segment
  pub kind_of : kind x ≡ 2
  pub pads : is_double x ≡ double
  pub position_of : far_position x ≡ position
  pub segment_of : upper_half x ≡ segment
