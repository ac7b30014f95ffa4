-- The elements of a list of structs.
use Rattle.std.specs.Prelude.{ℕ}
use Rattle.capnp_words.specs.declared.wire_pointer.StructSize.{StructSize}

-- The sections of each element, and the number of elements.
pub record Rows : Type 0 where
  pub size : StructSize
  pub count : ℕ

abbrev pub rows_sized : StructSize → ℕ → Rows
rows_sized size n = record { size = size; count = n }
