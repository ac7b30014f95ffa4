-- The number of each variant of brand_binding_which::Which.
use Rattle.std.specs.Prelude.{ℕ}
use Rattle.schema_reading.specs.declared.brand_binding_which.Which.{Which}
use Rattle.schema_reading.specs.declared.brand_binding_which.Which.TheVariants.{Unbound, Type_}

abbrev pub brand_binding_which_number : Which → ℕ
brand_binding_which_number Unbound = 0
brand_binding_which_number Type_ = 1
