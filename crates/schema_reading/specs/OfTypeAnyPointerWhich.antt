-- The number of each variant of type_any_pointer_which::Which.
use Rattle.std.specs.Prelude.{ℕ}
use Rattle.schema_reading.specs.declared.type_any_pointer_which.Which.{Which}
use Rattle.schema_reading.specs.declared.type_any_pointer_which.Which.TheVariants.{Unconstrained, Parameter, ImplicitMethodParameter}

abbrev pub type_any_pointer_which_number : Which → ℕ
type_any_pointer_which_number Unconstrained = 0
type_any_pointer_which_number Parameter = 1
type_any_pointer_which_number ImplicitMethodParameter = 2
