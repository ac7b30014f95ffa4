-- The number of each variant of node_which::Which.
use Rattle.std.specs.Prelude.{ℕ}
use Rattle.schema_reading.specs.declared.node_which.Which.{Which}
use Rattle.schema_reading.specs.declared.node_which.Which.TheVariants.{File, Struct, Enum, Interface, Const, Annotation}

abbrev pub node_which_number : Which → ℕ
node_which_number File = 0
node_which_number Struct = 1
node_which_number Enum = 2
node_which_number Interface = 3
node_which_number Const = 4
node_which_number Annotation = 5
