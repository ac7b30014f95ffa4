-- What typed code reads of a value. What a struct doesn't have reads as zero bits, or as null.
use Rattle.std.specs.Prelude.{ℕ, List, ◌-◌, ◌^◌, ◌≤◌, false, length, true}
use Rattle.capnp_format.specs.Tree.{Tree, Null}
use Rattle.capnp_format.specs.Fields.{field_in}
use Rattle.capnp_format.specs.Path.{Child, next}
use Rattle.capnp_pointers.specs.Reading.{Reading}
use Rattle.capnp_pointers.specs.Source.{default_segment, default_segments}
use Rattle.capnp_readers.specs.Values.{HasValue, list_numbers, struct_data, struct_element, text_bytes}

-- The w bits of a struct's data from bit b on, which are in one word.
abbrev pub bits_in : ℕ → ℕ → Tree → ℕ
bits_in b w t = field_in (struct_data t) b w

-- What pointer i of a struct means.
abbrev pub child : ℕ → Tree → Tree
child i t = next t (Child i)

-- What element i of a list of pointers means.
abbrev pub pointer_element : ℕ → Tree → Tree
pointer_element i t = child 0 (struct_element t i)

-- The bytes of a text, without the zero byte at its end; those of the default if there is no text.
abbrev pub text_or : List ℕ → Tree → List ℕ
text_or default Null = default
text_or default t = text_bytes t

-- The bytes of data; those of the default if there is no data.
abbrev pub data_or : List ℕ → Tree → List ℕ
data_or default Null = default
data_or default t = list_numbers t

-- The place of a default's pointer: the first word of the bytes, which are one segment.
abbrev pub default_place : List ℕ → Reading
default_place bytes =
    record {
      segments = default_segments bytes;
      charging = false;
      of_default = true;
      levels = 2 ^ 31 - 1;
      segment = default_segment;
      at = 0;
    }

-- The bytes, which are one segment with a pointer in its first word, mean d: the default value of a
-- field that is a struct or a list.
pub record IsDefault (bytes : List ℕ) (d : Tree) : Type 0 where
  pub word : 8 ≤ length bytes
  pub means : HasValue (default_place bytes) d
