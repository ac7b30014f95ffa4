-- The number of each variant of type_any_pointer_unconstrained_which::Which.
use Rattle.std.specs.Prelude.{ℕ}
use Rattle.schema_reading.specs.declared.type_any_pointer_unconstrained_which.Which.{Which}
use Rattle.schema_reading.specs.declared.type_any_pointer_unconstrained_which.Which.TheVariants.{AnyKind, Struct, List, Capability}

abbrev pub type_any_pointer_unconstrained_which_number : Which → ℕ
type_any_pointer_unconstrained_which_number AnyKind = 0
type_any_pointer_unconstrained_which_number Struct = 1
type_any_pointer_unconstrained_which_number List = 2
type_any_pointer_unconstrained_which_number Capability = 3
