-- The number of each variant of field_ordinal_which::Which.
use Rattle.std.specs.Prelude.{ℕ}
use Rattle.schema_reading.specs.declared.field_ordinal_which.Which.{Which}
use Rattle.schema_reading.specs.declared.field_ordinal_which.Which.TheVariants.{Implicit, Explicit}

abbrev pub field_ordinal_which_number : Which → ℕ
field_ordinal_which_number Implicit = 0
field_ordinal_which_number Explicit = 1
