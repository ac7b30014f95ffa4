-- The number of each variant of brand_scope_which::Which.
use Rattle.std.specs.Prelude.{ℕ}
use Rattle.schema_reading.specs.declared.brand_scope_which.Which.{Which}
use Rattle.schema_reading.specs.declared.brand_scope_which.Which.TheVariants.{Bind, Inherit}

abbrev pub brand_scope_which_number : Which → ℕ
brand_scope_which_number Bind = 0
brand_scope_which_number Inherit = 1
