-- What a call that looks for a list, data, a text or a capability finds at a pointer, from the
-- value that the pointer means ("Lists", "Capabilities (Interfaces)").
use Rattle.std.specs.Prelude.{ℕ, ◌+◌, ◌-◌, ◌<◌, ◌≤◌, Bool, true, false, if◌then◌else◌, ◌&&◌, nat_eq}
use Rattle.std.specs.Prelude.{nat_le, List, [], ◌∷◌, length, get_or, take, drop, Option, Some, None}
use Rattle.std.specs.Prelude.{◌≡◌, ◌^◌, Result, Ok, Err, IfErr, IfOk, IfSome}
use Rattle.capnp_format.specs.Numbers.{element_bits, words_for, unpacked}
use Rattle.capnp_format.specs.Segments.{Segments, segment, Target}
use Rattle.capnp_format.specs.Tree.{Tree, Null, Capability, Struct, Flat, Pointers, Structs, count}
use Rattle.capnp_format.specs.Tree.{element_count}
use Rattle.capnp_format.specs.Word.{lower_half, upper_half}
use Rattle.capnp_words.specs.Sizes.{size_number, pointers_per_element}
use Rattle.capnp_words.specs.declared.wire_pointer.ElementSize.{ElementSize}
use Rattle.capnp_words.specs.declared.wire_pointer.ElementSize.TheVariants.{Void, Bit, Byte}
use Rattle.capnp_words.specs.declared.wire_pointer.ElementSize.TheVariants.{TwoBytes, FourBytes}
use Rattle.capnp_words.specs.declared.wire_pointer.ElementSize.TheVariants.{EightBytes, Pointer}
use Rattle.capnp_words.specs.declared.wire_pointer.ElementSize.TheVariants.{InlineComposite}
use Rattle.capnp_words.specs.declared.error.ErrorKind.{ErrorKind}
use Rattle.capnp_words.specs.declared.error.ErrorKind.TheVariants.{
  ExistingListPointerIsNotByteSized,
  ExistingListValueIsIncompatibleWithExpectedType,
  ExistingPointerIsNotAList,
  FoundStructListWhereBitListWasExpected,
  MessageContainsNonCapabilityPointerWhereCapabilityPointerWasExpected,
  MessageContainsNullCapabilityPointer,
  MessageContainsOutOfBoundsPointer,
  TextBlobMissingNULTerminator,
}
use Rattle.capnp_format.specs.Forest.{target}
use Rattle.capnp_allocation.specs.Landings.{target_of}
use Rattle.capnp_allocation.specs.Stored.{IsStored}
use Rattle.capnp_allocation.specs.declared.landing.PointerTarget.{PointerTarget}
use Rattle.capnp_in_place.specs.declared.existing.ExistingList.{ExistingList}
use Rattle.capnp_in_place.specs.declared.existing.ExistingBytes.{ExistingBytes}
use Rattle.capnp_in_place.specs.declared.existing.ExistingStruct.{ExistingStruct}

-- The index of the capability in a pointer word.
abbrev pub capability_of : ℕ → Result ℕ ErrorKind
capability_of x =
    if nat_eq x 0 then Err MessageContainsNullCapabilityPointer
    else if nat_eq (lower_half x) 3 then Ok (upper_half x)
    else Err MessageContainsNonCapabilityPointerWhereCapabilityPointerWasExpected

-- The index of the capability that the pointer to the target a means, if no landing pads lead to
-- it.
abbrev pub capability_in : Target → Tree → Result ℕ ErrorKind
capability_in a Null = Err MessageContainsNullCapabilityPointer
capability_in a (Capability i) =
    if nat_eq a.pads 0 then Ok i else Err
    MessageContainsNonCapabilityPointerWhereCapabilityPointerWasExpected
capability_in a t = Err MessageContainsNonCapabilityPointerWhereCapabilityPointerWasExpected

-- Whether an error says that a list, data or a text isn't found.
abbrev pub is_unfound : ErrorKind → Bool
is_unfound ExistingListPointerIsNotByteSized = true
is_unfound ExistingListValueIsIncompatibleWithExpectedType = true
is_unfound ExistingPointerIsNotAList = true
is_unfound FoundStructListWhereBitListWasExpected = true
is_unfound MessageContainsOutOfBoundsPointer = true
is_unfound TextBlobMissingNULTerminator = true
is_unfound k = false

-- The target of a landing, if the call found one.
abbrev pub listed : Result (Option PointerTarget) ErrorKind → Result (Option Target) ErrorKind
listed (Ok (Some l)) = Ok (Some (target_of l))
listed (Ok None) = Ok None
listed (Err e) = Err e

-- Where a pointer that means a value leads, if it leads to a list.
abbrev pub landing_in : Target → Tree → Result (Option Target) ErrorKind
landing_in a Null = Ok None
landing_in a (Capability i) = Err ExistingPointerIsNotAList
landing_in a (Struct ws ts) = Err ExistingPointerIsNotAList
landing_in a (Flat size ns) = Ok (Some a)
landing_in a (Pointers ts) = Ok (Some a)
landing_in a (Structs d q es) = Ok (Some a)

-- The element size with number n.
abbrev pub size_of : ℕ → ElementSize
size_of n =
    get_or (Void ∷ Bit ∷ Byte ∷ TwoBytes ∷ FourBytes ∷ EightBytes ∷ Pointer ∷ []) n InlineComposite

-- Why elements of the size `found`, which aren't structs, don't fit `expected`, if they don't: they
-- have fewer bits of data, or fewer pointers.
abbrev pub plain_misfit : ElementSize → ElementSize → Option ErrorKind
plain_misfit expected found =
    if nat_le (element_bits (size_number expected)) (element_bits (size_number found))
    && nat_le (pointers_per_element expected) (pointers_per_element found) then
    None else Some ExistingListValueIsIncompatibleWithExpectedType

-- Why structs of d data words and q pointers don't fit the expected element size, if they don't.
abbrev pub structs_misfit : ElementSize → ℕ → ℕ → Option ErrorKind
structs_misfit Void d q = None
structs_misfit Bit d q = Some FoundStructListWhereBitListWasExpected
structs_misfit Byte d q =
    if nat_eq d 0 then Some ExistingListValueIsIncompatibleWithExpectedType else None
structs_misfit TwoBytes d q =
    if nat_eq d 0 then Some ExistingListValueIsIncompatibleWithExpectedType else None
structs_misfit FourBytes d q =
    if nat_eq d 0 then Some ExistingListValueIsIncompatibleWithExpectedType else None
structs_misfit EightBytes d q =
    if nat_eq d 0 then Some ExistingListValueIsIncompatibleWithExpectedType else None
structs_misfit Pointer d q =
    if nat_eq q 0 then Some ExistingListValueIsIncompatibleWithExpectedType else None
structs_misfit InlineComposite d q = None

-- A list of n elements that aren't structs, at the target a.
abbrev pub plain_list : Target → ElementSize → ℕ → ExistingList
plain_list a size n =
    record {
      segment = a.segment;
      start = a.start;
      size = size;
      struct_size = record { data_words = 0; pointers = 0 };
      count = n;
    }

-- A list of n structs at the target a, whose elements come after the tag ("Lists").
abbrev pub struct_list : Target → ℕ → ℕ → ℕ → ExistingList
struct_list a d q n =
    record {
      segment = a.segment;
      start = a.start + 1;
      size = InlineComposite;
      struct_size = record { data_words = d; pointers = q };
      count = n;
    }

-- The list that is found, or the refusal if there is one.
abbrev pub unless : Option ErrorKind → ExistingList → Result (Option ExistingList) ErrorKind
unless None l = Ok (Some l)
unless (Some e) l = Err e

-- The list that the pointer to the target a means, if its elements fit the expected size ("Lists").
abbrev pub list_in : Target → ElementSize → Tree → Result (Option ExistingList) ErrorKind
list_in a expected Null = Ok None
list_in a expected (Capability i) = Err ExistingPointerIsNotAList
list_in a expected (Struct ws ts) = Err ExistingPointerIsNotAList
list_in a expected (Flat size ns) =
    unless (plain_misfit expected (size_of size)) (plain_list a (size_of size) (length ns))
list_in a expected (Pointers ts) =
    unless (plain_misfit expected Pointer) (plain_list a Pointer (count ts))
list_in a expected (Structs d q es) =
    unless (structs_misfit expected d q) (struct_list a d q (element_count es))

-- The struct that the pointer to the target a means.
abbrev pub struct_in : Target → Tree → Option ExistingStruct
struct_in a (Struct ws ts) =
    Some (record {
      segment = a.segment;
      start = a.start;
      size = record { data_words = length ws; pointers = count ts };
    })
struct_in a t = None

-- The result of a search at (s, p): if that stores a value, what `find` returns for it. It is
-- refused only with an error of `is_unfound`.
pub record FindsAt {B : Type 0} (S : Segments) (s p : ℕ) (find : Target → Tree → Result B ErrorKind)
    (result : Result B ErrorKind) : Type 0 where
  pub found : (t : Tree) → IsStored S s p t → result ≡ find (target S s p) t
  pub named : IfErr result (λ k. is_unfound k ≡ true)

-- The list that is found at (s, p), of elements that fit the expected size. It has fewer elements
-- than its count has bits for.
pub record FindsListAt (S : Segments) (s p : ℕ) (expected : ElementSize)
    (result : Result (Option ExistingList) ErrorKind) : Type 0 where
  pub found : (t : Tree) → IsStored S s p t → result ≡ list_in (target S s p) expected t
  pub named : IfErr result (λ k. is_unfound k ≡ true)
  pub few : IfOk result (λ found. IfSome found (λ list. list.count < 2 ^ 30))

-- The sections of the struct e are inside their segment.
abbrev pub IsStructInside : Segments → ExistingStruct → Type 0
IsStructInside S e = e.start + e.size.data_words + e.size.pointers ≤ length (segment S e.segment)

-- The struct that is found at (s, p), with its own size. Its sections are inside their segment.
pub record FindsStructAt (S : Segments) (s p : ℕ) (result : Option ExistingStruct) : Type 0 where
  pub found : (t : Tree) → IsStored S s p t → result ≡ struct_in (target S s p) t
  pub inside : IfSome result (IsStructInside S)

-- The n bytes at the target a.
abbrev pub bytes_at : Target → ℕ → ExistingBytes
bytes_at a n = record { segment = a.segment; start = a.start; length = n }

-- The data that the pointer to the target a means ("Lists").
abbrev pub data_in : Target → Tree → Result (Option ExistingBytes) ErrorKind
data_in a Null = Ok None
data_in a (Capability i) = Err ExistingPointerIsNotAList
data_in a (Struct ws ts) = Err ExistingPointerIsNotAList
data_in a (Flat size ns) = if nat_eq size 2 then Ok (Some (bytes_at a (length ns)))
    else Err ExistingListPointerIsNotByteSized
data_in a (Pointers ts) = Err ExistingListPointerIsNotByteSized
data_in a (Structs d q es) = Err ExistingListPointerIsNotByteSized

-- The words that hold the bytes b are inside their segment.
abbrev pub AreInside : Segments → ExistingBytes → Type 0
AreInside S b = b.start + words_for 2 b.length ≤ length (segment S b.segment)

-- The words that hold the bytes b are inside their segment, which is there.
abbrev pub AreBytesInside : Segments → ExistingBytes → Type 0
AreBytesInside S b = (b.segment < length S) × AreInside S b

-- n bytes from word p on.
abbrev pub bytes_in : List ℕ → ℕ → ℕ → List ℕ
bytes_in ws p n = unpacked 2 n (take (words_for 2 n) (drop p ws))

-- Whether there is a last byte, and it is 0.
abbrev pub ends_in_zero : List ℕ → Bool
ends_in_zero [] = false
ends_in_zero (n ∷ ns) = nat_eq (get_or (n ∷ ns) (length ns) 0) 0

-- The text that the pointer to the target a means, without its last byte, which must be 0
-- ("Lists").
abbrev pub text_in : Target → Tree → Result (Option ExistingBytes) ErrorKind
text_in a Null = Ok None
text_in a (Capability i) = Err ExistingPointerIsNotAList
text_in a (Struct ws ts) = Err ExistingPointerIsNotAList
text_in a (Flat size ns) =
    if nat_eq size 2 then
    if ends_in_zero ns then Ok (Some (bytes_at a (length ns - 1))) else Err TextBlobMissingNULTerminator
    else Err ExistingListPointerIsNotByteSized
text_in a (Pointers ts) = Err ExistingListPointerIsNotByteSized
text_in a (Structs d q es) = Err ExistingListPointerIsNotByteSized
