-- The fields of a pointer word, and the words of pointers. A word is 64 bits, here a number below
-- 2^64; its bits are those of the eight bytes in little-endian order. The forms are those of the
-- encoding specification's sections "Structs", "Lists", "Inter-Segment Pointers" and "Capabilities
-- (Interfaces)": A is bits 0 and 1, the kind; B, C and D are the fields after it. Each field is a
-- division and a remainder: `x / 2 ^ 32 % 2 ^ 16` is bits 32 to 47.
use Rattle.std.specs.Prelude.{ℕ, ℤ, pos, negsuc, suc, if◌then◌else◌, nat_lt, ◌+◌, ◌-◌, ◌*◌, ◌/◌}
use Rattle.std.specs.Prelude.{◌%◌, ◌^◌, ◌<◌}

-- Bits 0 and 1: 0 is a struct, 1 a list, 2 a far pointer, 3 a capability or an unknown pointer
-- ("Structs", "Lists", "Inter-Segment Pointers", "Capabilities (Interfaces)").
abbrev pub kind : ℕ → ℕ
kind x = x % 4

-- Bits 2 to 31, as an unsigned number. In a struct or list pointer they are the signed offset B in
-- two's complement; in a list's tag, the element count ("Structs", "Lists").
abbrev pub offset_bits : ℕ → ℕ
offset_bits x = x / 4 % 2 ^ 30

-- The signed number that 30 bits encode in two's complement ("Structs", "Lists").
abbrev pub signed : ℕ → ℤ
signed bits = if nat_lt bits (2 ^ 29) then pos bits else negsuc (2 ^ 30 - suc bits)

-- The 30 bits that encode a signed number.
abbrev pub offset_field : ℤ → ℕ
offset_field (pos n) = n
offset_field (negsuc n) = 2 ^ 30 - suc n

-- 30 bits have room for this offset: it is from -2^29 to 2^29 - 1.
abbrev pub IsOffset : ℤ → Type 0
IsOffset (pos n) = n < 2 ^ 29
IsOffset (negsuc n) = n < 2 ^ 29

-- Bits 0 to 31: exactly 3 in a capability ("Capabilities (Interfaces)").
abbrev pub lower_half : ℕ → ℕ
lower_half x = x % 2 ^ 32

-- Bits 32 to 63: in a far pointer the segment number ("Inter-Segment Pointers"), in a capability
-- its index ("Capabilities (Interfaces)").
abbrev pub upper_half : ℕ → ℕ
upper_half x = x / 2 ^ 32

-- In a struct pointer or a tag: the words of the data section ("Structs").
abbrev pub data_words : ℕ → ℕ
data_words x = x / 2 ^ 32 % 2 ^ 16

-- In a struct pointer or a tag: the words of the pointer section ("Structs").
abbrev pub pointer_count : ℕ → ℕ
pointer_count x = x / 2 ^ 48

-- In a list pointer: the number of the element size ("Lists"). 0 is void, 1 one bit, 2 one byte, 3
-- two bytes, 4 four bytes, 5 eight bytes, 6 pointer, 7 structs after a tag ("composite").
abbrev pub element_size : ℕ → ℕ
element_size x = x / 2 ^ 32 % 8

-- In a list pointer: the number of elements; for structs, the number of words that they take
-- without the tag ("Lists").
abbrev pub list_count : ℕ → ℕ
list_count x = x / 2 ^ 35

-- In a far pointer: 1 if its landing pad is two words, otherwise 0 ("Inter-Segment Pointers").
abbrev pub is_double : ℕ → ℕ
is_double x = x / 4 % 2

-- In a far pointer: the word position of its landing pad ("Inter-Segment Pointers").
abbrev pub far_position : ℕ → ℕ
far_position x = x / 8 % 2 ^ 29

-- A struct pointer, by the 30 bits of its offset, its data words d and its pointers q ("Structs").
-- With a count in place of the offset it is the tag of a list of structs ("Lists").
abbrev pub struct_word : ℕ → ℕ → ℕ → ℕ
struct_word offset d q = 4 * offset + 2 ^ 32 * d + 2 ^ 48 * q

-- A list pointer, by the 30 bits of its offset, the element size's number and the count ("Lists").
abbrev pub list_word : ℕ → ℕ → ℕ → ℕ
list_word offset size count = 1 + 4 * offset + 2 ^ 32 * size + 2 ^ 35 * count

-- A far pointer, by the double flag, the landing pad's position and the segment ("Inter-Segment
-- Pointers").
abbrev pub far_word : ℕ → ℕ → ℕ → ℕ
far_word double position segment = 2 + 4 * double + 8 * position + 2 ^ 32 * segment

-- A capability pointer, by its index ("Capabilities (Interfaces)").
abbrev pub capability_word : ℕ → ℕ
capability_word index = 3 + 2 ^ 32 * index
