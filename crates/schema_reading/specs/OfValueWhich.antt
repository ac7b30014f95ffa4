-- The number of each variant of value_which::Which.
use Rattle.std.specs.Prelude.{ℕ}
use Rattle.schema_reading.specs.declared.value_which.Which.{Which}
use Rattle.schema_reading.specs.declared.value_which.Which.TheVariants.{Void, Bool, Int8, Int16, Int32, Int64, Uint8, Uint16, Uint32, Uint64, Float32, Float64, Text, Data, List, Enum, Struct, Interface, AnyPointer}

abbrev pub value_which_number : Which → ℕ
value_which_number Void = 0
value_which_number Bool = 1
value_which_number Int8 = 2
value_which_number Int16 = 3
value_which_number Int32 = 4
value_which_number Int64 = 5
value_which_number Uint8 = 6
value_which_number Uint16 = 7
value_which_number Uint32 = 8
value_which_number Uint64 = 9
value_which_number Float32 = 10
value_which_number Float64 = 11
value_which_number Text = 12
value_which_number Data = 13
value_which_number List = 14
value_which_number Enum = 15
value_which_number Struct = 16
value_which_number Interface = 17
value_which_number AnyPointer = 18
