-- What a reading call expects of the object at a place: which demands that makes in addition to
-- those of every object, in which order they are checked, with which errors they are refused, and
-- what was granted before ("Structs", "Lists"; docs/FORMAT.md, "Charges and refusals").
use Rattle.std.specs.Prelude.{◌≡◌, ◌≢◌, ℕ, ◌-◌, ◌<◌, if◌then◌else◌, not}
use Rattle.std.specs.Prelude.{◌&&◌, ◌||◌, nat_eq, nat_lt, Option, Some, None, Ok, ⊤}
use Rattle.capnp_words.specs.declared.error.ErrorKind.{ErrorKind}
use Rattle.capnp_words.specs.declared.error.ErrorKind.TheVariants.{ExpectedAPointerListButGotAListOfDataOnlyStructs}
use Rattle.capnp_words.specs.declared.error.ErrorKind.TheVariants.{ExpectedAPrimitiveListButGotAListOfPointerOnlyStructs}
use Rattle.capnp_words.specs.declared.error.ErrorKind.TheVariants.{FoundBitListWhereStructListWasExpected}
use Rattle.capnp_words.specs.declared.error.ErrorKind.TheVariants.{FoundStructListWhereBitListWasExpected}
use Rattle.capnp_words.specs.declared.error.ErrorKind.TheVariants.{MessageContainsListPointerOfNonBytesWhereDataWasExpected}
use Rattle.capnp_words.specs.declared.error.ErrorKind.TheVariants.{MessageContainsListPointerOfNonBytesWhereTextWasExpected}
use Rattle.capnp_words.specs.declared.error.ErrorKind.TheVariants.{MessageContainsListWithIncompatibleElementType}
use Rattle.capnp_words.specs.declared.error.ErrorKind.TheVariants.{MessageContainsNonListPointerWhereDataWasExpected}
use Rattle.capnp_words.specs.declared.error.ErrorKind.TheVariants.{MessageContainsNonListPointerWhereListPointerWasExpected}
use Rattle.capnp_words.specs.declared.error.ErrorKind.TheVariants.{MessageContainsNonListPointerWhereTextWasExpected}
use Rattle.capnp_words.specs.declared.error.ErrorKind.TheVariants.{MessageContainsNonStructPointerWhereStructPointerWasExpected}
use Rattle.capnp_words.specs.declared.error.ErrorKind.TheVariants.{MessageContainsTextThatIsNotNULTerminated}
use Rattle.capnp_words.specs.declared.error.ErrorKind.TheVariants.{MessageIsTooDeeplyNestedOrContainsCycles}
use Rattle.capnp_words.specs.declared.error.ErrorKind.TheVariants.{NestingLimitExceeded}
use Rattle.capnp_words.specs.Meter.{Meter}
use Rattle.capnp_words.specs.declared.wire_pointer.ElementSize.{ElementSize}
use Rattle.capnp_words.specs.declared.wire_pointer.ElementSize.TheVariants.{Void, Bit, Byte}
use Rattle.capnp_words.specs.declared.wire_pointer.ElementSize.TheVariants.{Pointer}
use Rattle.capnp_words.specs.declared.wire_pointer.ElementSize.TheVariants.{InlineComposite}
use Rattle.capnp_words.specs.declared.wire_pointer.StructSize.{StructSize}
use Rattle.capnp_words.specs.Sizes.{size_number}
use Rattle.capnp_format.specs.Word.{kind, element_size, list_count}
use Rattle.capnp_format.specs.Numbers.{element_bits}
use Rattle.capnp_format.specs.Segments.{Segments, segment, Target}
use Rattle.capnp_pointers.specs.declared.object.Expected.{Expected}
use Rattle.capnp_pointers.specs.declared.object.Expected.TheVariants.{Struct, List, Text, Data}
use Rattle.capnp_pointers.specs.declared.object.Object.{Object}
use Rattle.capnp_pointers.specs.declared.object.Object.TheVariants.{Null as ObjectNull}
use Rattle.capnp_pointers.specs.declared.object.Object.TheVariants.{Struct as ObjectStruct}
use Rattle.capnp_pointers.specs.declared.object.Object.TheVariants.{Flat as ObjectFlat}
use Rattle.capnp_pointers.specs.declared.object.Object.TheVariants.{Pointers as ObjectPointers}
use Rattle.capnp_pointers.specs.declared.object.Object.TheVariants.{Structs as ObjectStructs}
use Rattle.capnp_pointers.specs.declared.object.Purpose.TheVariants.{Value}
use Rattle.capnp_pointers.specs.Outcomes.{Entered}
use Rattle.capnp_pointers.specs.Reading.{Reading, list_byte, word_of, tag_size}
use Rattle.capnp_pointers.specs.Refusals.{Unfollowed, Stopped}
use Rattle.capnp_pointers.specs.Spending.{Paid}
use Rattle.capnp_pointers.specs.Wanted.{plain, follow_at, FollowsTo}

-- What a call expects in addition to what every object must meet, and the error with which each is
-- refused. `too_deep`: there is a level, which is checked before the pointer is followed.
-- `null_default`: the pointer of a default isn't null. `another_kind`: the kind of the object, by
-- the word that describes it, is checked before its own words are read. `misfit`: what these words
-- are.
pub record Expectation : Type 0 where
  pub too_deep : ℕ → Option ErrorKind
  pub null_default : Option ErrorKind
  pub another_kind : ℕ → Option ErrorKind
  pub misfit : Segments → Target → Option ErrorKind

-- Why elements with the size number `found` don't fit the expected size, if they don't; 6 is
-- pointers and 7 structs. Bits fit no other size, and an element must have at least the expected
-- bits and pointers.
abbrev pub narrow_elements : ElementSize → ℕ → Option ErrorKind
narrow_elements expected found =
    if nat_eq found 1 && not (nat_eq (size_number expected) 1) then
    Some FoundBitListWhereStructListWasExpected
    else if nat_lt (element_bits found) (element_bits (size_number expected))
    || nat_eq (size_number expected) 6 && not (nat_eq found 6) then
    Some MessageContainsListWithIncompatibleElementType else None

-- Why structs of these sections don't fit elements of the expected size, if they don't: bits are
-- never structs, a number is their first data, and a pointer their first pointer.
abbrev pub narrow_structs : ElementSize → StructSize → Option ErrorKind
narrow_structs Void sections = None
narrow_structs InlineComposite sections = None
narrow_structs Bit sections = Some FoundStructListWhereBitListWasExpected
narrow_structs Pointer sections =
    if nat_eq sections.pointers 0 then Some ExpectedAPointerListButGotAListOfDataOnlyStructs
    else None
narrow_structs size sections =
    if nat_eq sections.data_words 0 then Some ExpectedAPrimitiveListButGotAListOfPointerOnlyStructs
    else None

-- A struct.
abbrev pub struct_expected : Expectation
struct_expected = record {
  too_deep = λ n. if nat_eq n 0 then Some MessageIsTooDeeplyNestedOrContainsCycles else None;
  null_default = None;
  another_kind = λ w. if nat_eq (kind w) 0 then None
      else Some MessageContainsNonStructPointerWhereStructPointerWasExpected;
  misfit = λ S a. None;
}

-- A list, whose elements are wide enough.
abbrev pub list_expected : ElementSize → Expectation
list_expected size = record {
  too_deep = λ n. if nat_eq n 0 then Some NestingLimitExceeded else None;
  null_default = None;
  another_kind = λ w. if nat_eq (kind w) 1 then None
      else Some MessageContainsNonListPointerWhereListPointerWasExpected;
  misfit = λ S a. if nat_eq (element_size a.word) 7 then narrow_structs size (tag_size S a)
      else narrow_elements size (element_size a.word);
}

-- A list of bytes that takes no level, and whose last byte is 0.
abbrev pub text_expected : Expectation
text_expected = record {
  too_deep = λ n. None;
  null_default = Some MessageContainsNonListPointerWhereTextWasExpected;
  another_kind = λ w. if nat_eq (kind w) 1 then
      (if nat_eq (element_size w) 2 then None
      else Some MessageContainsListPointerOfNonBytesWhereTextWasExpected) else Some
      MessageContainsNonListPointerWhereTextWasExpected;
  misfit = λ S a.
      let n = list_count a.word in
      let last = list_byte (segment S a.segment) a.start n (n - 1) in
      if nat_eq n 0 || not (nat_eq last 0) then
      Some MessageContainsTextThatIsNotNULTerminated else None;
}

-- A list of bytes that takes no level.
abbrev pub data_expected : Expectation
data_expected = record {
  too_deep = λ n. None;
  null_default = Some MessageContainsNonListPointerWhereDataWasExpected;
  another_kind = λ w. if nat_eq (kind w) 1 then
      (if nat_eq (element_size w) 2 then None
      else Some MessageContainsListPointerOfNonBytesWhereDataWasExpected) else Some
      MessageContainsNonListPointerWhereDataWasExpected;
  misfit = λ S a. None;
}

-- What a call expects.
abbrev pub expectation : Expected → Expectation
expectation Struct = struct_expected
expectation (List size) = list_expected size
expectation Text = text_expected
expectation Data = data_expected

-- The call has an answer: the pointer is null; or it leads to an object of the expected kind, which
-- can be entered and is as expected. The entering has one level, because the level is checked
-- separately. m covers what the object charges.
pub data HasExpected (expected : Expectation) (r : Reading) (m : Meter) : Type 0 where
  null_pointer : word_of r ≡ 0 → HasExpected expected r m
  fitting :
      {m' : Meter} (a : Target) →
      expected.too_deep r.levels ≡ None →
      expected.another_kind a.word ≡ None →
      Entered Value (record r { levels = 1 }) m m' a →
      expected.misfit r.segments a ≡ None →
      HasExpected expected r m

-- The call is refused with k, and takes the limiter from m to m'.
-- - `no_level`: no level is left, and nothing is counted or charged.
-- - `unfollowed`: the pointer isn't followed.
-- - `of_another_kind`: the object is of another kind, and its landing pads are granted.
-- - `stopped`: if the pointer can be followed, the object is of the expected kind; its reading
--   stops. It has one level, because the level is checked separately.
-- - `misfits`: the object is read, and isn't what was expected.
pub data RefusesExpected (expected : Expectation) (r : Reading) (m m' : Meter)
    (k : ErrorKind) : Type 0 where
  no_level : word_of r ≢ 0 → expected.too_deep r.levels ≡ Some k → m' ≡ m
      → RefusesExpected expected r m m' k
  unfollowed : expected.too_deep r.levels ≡ None → Unfollowed r m m' k
      → RefusesExpected expected r m m' k
  of_another_kind : (a : Target) → expected.too_deep r.levels ≡ None → FollowsTo r a →
      expected.another_kind a.word ≡ Some k → Paid r.charging m m' a.pads 1 →
      RefusesExpected expected r m m' k
  stopped :
      expected.too_deep r.levels ≡ None →
      ((a : Target) → follow_at r ≡ Ok a → expected.another_kind a.word ≡ None) →
      Stopped Value plain (record r { levels = 1 }) m m' k →
      RefusesExpected expected r m m' k
  misfits : (a : Target) → expected.too_deep r.levels ≡ None → expected.another_kind a.word ≡ None →
      Entered Value (record r { levels = 1 }) m m' a → expected.misfit r.segments a ≡ Some k →
      RefusesExpected expected r m m' k

-- An object is as expected, with n levels left; or the pointer is null.
abbrev pub IsExpected : Expected → ℕ → Object → Type 0
IsExpected expected n ObjectNull = ⊤
IsExpected Struct n (ObjectStruct start size) = 0 < n
IsExpected (List size) n (ObjectFlat start found count) =
    (0 < n) × (narrow_elements size (size_number found) ≡ None)
IsExpected (List size) n (ObjectPointers start count) = (0 < n) × (narrow_elements size 6 ≡ None)
IsExpected (List size) n (ObjectStructs start sections count) =
    (0 < n) × (narrow_structs size sections ≡ None)
IsExpected Text n (ObjectFlat start size count) = (size ≡ Byte) × (0 < count)
IsExpected Data n (ObjectFlat start size count) = size ≡ Byte
IsExpected expected n object = ⊥
