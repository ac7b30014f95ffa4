-- The sizes of elements and of structs, and the numbers of kinds of pointers.
use Rattle.std.specs.Prelude.{ℕ}
use Rattle.capnp_words.specs.declared.wire_pointer.ElementSize.{ElementSize}
use Rattle.capnp_words.specs.declared.wire_pointer.ElementSize.TheVariants.{Void, Bit, Byte}
use Rattle.capnp_words.specs.declared.wire_pointer.ElementSize.TheVariants.{TwoBytes, FourBytes}
use Rattle.capnp_words.specs.declared.wire_pointer.ElementSize.TheVariants.{EightBytes, Pointer}
use Rattle.capnp_words.specs.declared.wire_pointer.ElementSize.TheVariants.{InlineComposite}
use Rattle.capnp_words.specs.declared.wire_pointer.StructSize.{StructSize}
use Rattle.capnp_words.specs.declared.wire_pointer.WirePointerKind.{WirePointerKind}
use Rattle.capnp_words.specs.declared.wire_pointer.WirePointerKind.TheVariants.{Struct, List, Far, Other}

-- The number by which an element size is encoded ("Lists").
abbrev pub size_number : ElementSize → ℕ
size_number Void = 0
size_number Bit = 1
size_number Byte = 2
size_number TwoBytes = 3
size_number FourBytes = 4
size_number EightBytes = 5
size_number Pointer = 6
size_number InlineComposite = 7

-- The number of pointers in an element.
abbrev pub pointers_per_element : ElementSize → ℕ
pointers_per_element Void = 0
pointers_per_element Bit = 0
pointers_per_element Byte = 0
pointers_per_element TwoBytes = 0
pointers_per_element FourBytes = 0
pointers_per_element EightBytes = 0
pointers_per_element Pointer = 1
pointers_per_element InlineComposite = 0

-- The size of d data words and q pointers.
abbrev pub sized : ℕ → ℕ → StructSize
sized d q = record { data_words = d; pointers = q }

abbrev pub kind_number : WirePointerKind → ℕ
kind_number Struct = 0
kind_number List = 1
kind_number Far = 2
kind_number Other = 3
