-- Which objects a pointer of some kind may not lead to, and with which error they are refused: that
-- of the getter for the kind.
use Rattle.std.specs.Prelude.{◌≡◌, ℕ, ◌-◌, ◌^◌, ◌<◌, bit_and, Bool, ◌&&◌, nat_eq, nat_lt, if◌then◌else◌, List, get_or, take}
use Rattle.std.specs.Prelude.{Option, Some, None}
use Rattle.std.specs.Option.{option_or}
use Rattle.std.specs.Str.{is_utf8}
use Rattle.capnp_words.specs.declared.error.ErrorKind.{ErrorKind}
use Rattle.capnp_words.specs.declared.error.ErrorKind.TheVariants.{ExistingListValueIsIncompatibleWithExpectedType}
use Rattle.capnp_words.specs.declared.error.ErrorKind.TheVariants.{MessageContainsListPointerOfNonBytesWhereDataWasExpected}
use Rattle.capnp_words.specs.declared.error.ErrorKind.TheVariants.{MessageContainsListPointerOfNonBytesWhereTextWasExpected}
use Rattle.capnp_words.specs.declared.error.ErrorKind.TheVariants.{MessageContainsNonCapabilityPointerWhereCapabilityPointerWasExpected}
use Rattle.capnp_words.specs.declared.error.ErrorKind.TheVariants.{MessageContainsNonListPointerWhereDataWasExpected}
use Rattle.capnp_words.specs.declared.error.ErrorKind.TheVariants.{MessageContainsNonListPointerWhereListPointerWasExpected}
use Rattle.capnp_words.specs.declared.error.ErrorKind.TheVariants.{MessageContainsNonListPointerWhereTextWasExpected}
use Rattle.capnp_words.specs.declared.error.ErrorKind.TheVariants.{MessageContainsNonStructPointerWhereStructPointerWasExpected}
use Rattle.capnp_words.specs.declared.error.ErrorKind.TheVariants.{MessageContainsTextThatIsNotNULTerminated}
use Rattle.capnp_words.specs.declared.wire_pointer.ElementSize.{ElementSize}
use Rattle.capnp_words.specs.Sizes.{sized}
use Rattle.capnp_format.specs.Numbers.{unpacked, words_for}
use Rattle.capnp_format.specs.Segments.{Segments, words_at}
use Rattle.capnp_pointers.specs.Enter.{Shape, nothing, capability, struct, flat, pointers, structs}
use Rattle.capnp_pointers.specs.Expected.{narrow_elements, narrow_structs}
use Rattle.typed_conforming.specs.declared.schema.Kind.{Kind}
use Rattle.typed_conforming.specs.declared.schema.Kind.TheVariants.{Any, Capability, Text, Utf8, Data, Struct}
use Rattle.typed_conforming.specs.declared.schema.Kind.TheVariants.{AnyList, List as ListKind}

-- The n bytes at position p of segment s.
abbrev pub list_bytes : Segments → ℕ → ℕ → ℕ → List ℕ
list_bytes S s p n = unpacked 2 n (words_at S s p (words_for 2 n))

-- Whether the n bytes at position p of segment s end in a zero byte.
abbrev pub bytes_end_in_zero : Segments → ℕ → ℕ → ℕ → Bool
bytes_end_in_zero S s p n = nat_lt 0 n && nat_eq (get_or (list_bytes S s p n) (n - 1) 0) 0

-- Whether the n bytes at position p of segment s, without the last one, are UTF-8.
abbrev pub bytes_are_utf8 : Segments → ℕ → ℕ → ℕ → Bool
bytes_are_utf8 S s p n = is_utf8 (take (n - 1) (list_bytes S s p n))

-- A word whose eight bytes are ASCII: none has its highest bit.
abbrev pub IsAsciiWord : ℕ → Type 0
IsAsciiWord w = (w < 2 ^ 64) × (bit_and w 0x8080_8080_8080_8080 ≡ 0)

-- The refusal of a text that isn't UTF-8.
abbrev pub not_utf8 : ErrorKind
not_utf8 = ExistingListValueIsIncompatibleWithExpectedType

-- Why an object isn't a text, if it isn't.
abbrev pub text_misfit : Segments → Shape → Option ErrorKind
text_misfit S nothing = None
text_misfit S (capability i) = Some MessageContainsNonListPointerWhereTextWasExpected
text_misfit S (struct s p d q) = Some MessageContainsNonListPointerWhereTextWasExpected
text_misfit S (flat s p size n) =
    if nat_eq size 2 then (if bytes_end_in_zero S s p n then None
    else Some MessageContainsTextThatIsNotNULTerminated)
    else Some MessageContainsListPointerOfNonBytesWhereTextWasExpected
text_misfit S o = Some MessageContainsListPointerOfNonBytesWhereTextWasExpected

-- Why a text isn't UTF-8, if it isn't.
abbrev pub utf8_misfit : Segments → Shape → Option ErrorKind
utf8_misfit S (flat s p size n) =
    if nat_eq size 2 then (if bytes_are_utf8 S s p n then None else Some not_utf8) else None
utf8_misfit S o = None

-- Why an object isn't data, if it isn't.
abbrev pub data_misfit : Shape → Option ErrorKind
data_misfit nothing = None
data_misfit (capability i) = Some MessageContainsNonListPointerWhereDataWasExpected
data_misfit (struct s p d q) = Some MessageContainsNonListPointerWhereDataWasExpected
data_misfit (flat s p size n) =
    if nat_eq size 2 then None else Some MessageContainsListPointerOfNonBytesWhereDataWasExpected
data_misfit o = Some MessageContainsListPointerOfNonBytesWhereDataWasExpected

-- Why an object isn't a list with elements of at least this size, if it isn't.
abbrev pub list_misfit : ElementSize → Shape → Option ErrorKind
list_misfit size nothing = None
list_misfit size (flat s p found n) = narrow_elements size found
list_misfit size (pointers s p n) = narrow_elements size 6
list_misfit size (structs s p d q n) = narrow_structs size (sized d q)
list_misfit size o = Some MessageContainsNonListPointerWhereListPointerWasExpected

-- Why an object isn't what a pointer of this kind may lead to, if it isn't.
abbrev pub kind_misfit : Kind → Segments → Shape → Option ErrorKind
kind_misfit Any S o = None
kind_misfit Capability S nothing = None
kind_misfit Capability S (capability i) = None
kind_misfit Capability S o =
    Some MessageContainsNonCapabilityPointerWhereCapabilityPointerWasExpected
kind_misfit Text S o = text_misfit S o
kind_misfit Utf8 S o = option_or (text_misfit S o) (utf8_misfit S o)
kind_misfit Data S o = data_misfit o
kind_misfit (Struct row) S nothing = None
kind_misfit (Struct row) S (struct s p d q) = None
kind_misfit (Struct row) S o = Some MessageContainsNonStructPointerWhereStructPointerWasExpected
kind_misfit AnyList S (capability i) =
    Some MessageContainsNonListPointerWhereListPointerWasExpected
kind_misfit AnyList S (struct s p d q) =
    Some MessageContainsNonListPointerWhereListPointerWasExpected
kind_misfit AnyList S o = None
kind_misfit (ListKind size row) S o = list_misfit size o
