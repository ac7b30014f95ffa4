-- The number of each variant of type_which::Which.
use Rattle.std.specs.Prelude.{ℕ}
use Rattle.schema_reading.specs.declared.type_which.Which.{Which}
use Rattle.schema_reading.specs.declared.type_which.Which.TheVariants.{Void, Bool, Int8, Int16, Int32, Int64, Uint8, Uint16, Uint32, Uint64, Float32, Float64, Text, Data, List, Enum, Struct, Interface, AnyPointer}

abbrev pub type_which_number : Which → ℕ
type_which_number Void = 0
type_which_number Bool = 1
type_which_number Int8 = 2
type_which_number Int16 = 3
type_which_number Int32 = 4
type_which_number Int64 = 5
type_which_number Uint8 = 6
type_which_number Uint16 = 7
type_which_number Uint32 = 8
type_which_number Uint64 = 9
type_which_number Float32 = 10
type_which_number Float64 = 11
type_which_number Text = 12
type_which_number Data = 13
type_which_number List = 14
type_which_number Enum = 15
type_which_number Struct = 16
type_which_number Interface = 17
type_which_number AnyPointer = 18
