-- The number of each variant of field_which::Which.
use Rattle.std.specs.Prelude.{ℕ}
use Rattle.schema_reading.specs.declared.field_which.Which.{Which}
use Rattle.schema_reading.specs.declared.field_which.Which.TheVariants.{Slot, Group}

abbrev pub field_which_number : Which → ℕ
field_which_number Slot = 0
field_which_number Group = 1
