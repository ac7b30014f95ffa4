-- The number of each variant of element_size::ElementSize.
use Rattle.std.specs.Prelude.{ℕ}
use Rattle.schema_reading.specs.declared.element_size.ElementSize.{ElementSize}
use Rattle.schema_reading.specs.declared.element_size.ElementSize.TheVariants.{Empty, Bit, Byte, TwoBytes, FourBytes, EightBytes, Pointer, InlineComposite}

abbrev pub element_size_number : ElementSize → ℕ
element_size_number Empty = 0
element_size_number Bit = 1
element_size_number Byte = 2
element_size_number TwoBytes = 3
element_size_number FourBytes = 4
element_size_number EightBytes = 5
element_size_number Pointer = 6
element_size_number InlineComposite = 7
