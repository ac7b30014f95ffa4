-- Reading one object as a function: its checks and charges, in the order of the first table of
-- docs/FORMAT.md ("Charges and refusals").
use Rattle.std.specs.Prelude.{ℕ, ◌+◌, ◌%◌, ◌^◌, Bool, true, not, ◌&&◌, ◌||◌, if◌then◌else◌, nat_eq}
use Rattle.std.specs.Prelude.{nat_lt, nat_le, length, Result, Ok, Err}
use Rattle.capnp_words.specs.declared.error.ErrorKind.{ErrorKind}
use Rattle.capnp_words.specs.declared.error.ErrorKind.TheVariants.{CantHandleNonStructInlineComposite}
use Rattle.capnp_words.specs.declared.error.ErrorKind.TheVariants.{InlineCompositeListsElementsOverrunItsWordCount}
use Rattle.capnp_words.specs.declared.error.ErrorKind.TheVariants.{InlineCompositeListsOfNonStructTypeAreNotSupported}
use Rattle.capnp_words.specs.declared.error.ErrorKind.TheVariants.{MalformedDoubleFarPointer}
use Rattle.capnp_words.specs.declared.error.ErrorKind.TheVariants.{MessageContainsOutOfBoundsPointer}
use Rattle.capnp_words.specs.declared.error.ErrorKind.TheVariants.{MessageIsTooDeeplyNested}
use Rattle.capnp_words.specs.declared.error.ErrorKind.TheVariants.{MessageIsTooDeeplyNestedOrContainsCycles}
use Rattle.capnp_words.specs.declared.error.ErrorKind.TheVariants.{UnknownPointerType}
use Rattle.capnp_words.specs.Sizes.{size_number}
use Rattle.capnp_format.specs.Word.{kind, offset_bits, data_words, pointer_count, element_size}
use Rattle.capnp_format.specs.Word.{list_count, upper_half}
use Rattle.capnp_format.specs.Segments.{Segments, segment, Target}
use Rattle.capnp_pointers.specs.declared.object.Object.{Object}
use Rattle.capnp_pointers.specs.declared.object.Object.TheVariants.{Null as ObjectNull}
use Rattle.capnp_pointers.specs.declared.object.Object.TheVariants.{Capability as ObjectCapability}
use Rattle.capnp_pointers.specs.declared.object.Object.TheVariants.{Struct as ObjectStruct}
use Rattle.capnp_pointers.specs.declared.object.Object.TheVariants.{Flat as ObjectFlat}
use Rattle.capnp_pointers.specs.declared.object.Object.TheVariants.{Pointers as ObjectPointers}
use Rattle.capnp_pointers.specs.declared.object.Object.TheVariants.{Structs as ObjectStructs}
use Rattle.capnp_pointers.specs.declared.object.Purpose.{Purpose}
use Rattle.capnp_pointers.specs.declared.object.Purpose.TheVariants.{Value, Size}
use Rattle.capnp_pointers.specs.Demands.{claimed_words, tag, element_words, amplified_charge}
use Rattle.capnp_pointers.specs.Metered.{Metered, answer, refuse, ◌>>>◌, outcome, demand}
use Rattle.capnp_pointers.specs.Metered.{charge_words, count_pointer}
use Rattle.capnp_pointers.specs.Objects.{near_at}
use Rattle.capnp_pointers.specs.Reading.{Reading, word_of}
use Rattle.capnp_pointers.specs.Refusals.{landing_words}
use Rattle.capnp_pointers.specs.Wanted.{follow_at}

-- An object by the words that describe it: nothing, for a null pointer; a capability; a struct; a
-- list of bits or numbers, with the number of its element size; a list of pointers; a list of
-- structs, which starts after its tag.
pub data Shape : Type 0 where
  nothing : Shape
  capability : (index : ℕ) → Shape
  struct : (segment start data_words pointers : ℕ) → Shape
  flat : (segment start size count : ℕ) → Shape
  pointers : (segment start count : ℕ) → Shape
  structs : (segment start data_words pointers count : ℕ) → Shape

-- Whether the word describes a list of structs.
abbrev pub is_struct_list : ℕ → Bool
is_struct_list w = nat_eq (kind w) 1 && nat_eq (element_size w) 7

-- The struct or list at the target a.
abbrev pub shape : Segments → Target → Shape
shape S a =
    let g = tag S a in
    if nat_eq (kind a.word) 0 then
    struct a.segment a.start (data_words a.word) (pointer_count a.word)
    else if nat_eq (element_size a.word) 7 then
    structs a.segment (a.start + 1) (data_words g) (pointer_count g) (offset_bits g)
    else if nat_eq (element_size a.word) 6 then pointers a.segment a.start (list_count a.word)
    else flat a.segment a.start (element_size a.word) (list_count a.word)

-- Whether a level is left. For the value, this is checked when a struct or a list is entered; for
-- the size, it is also checked before the pointer is followed.
abbrev pub has_level : Purpose → ℕ → Bool
has_level Value n = true
has_level Size n = nat_lt 0 n

-- Whether the words that an object claims are inside its segment. When only the size is wanted, a
-- list of void may be anywhere.
abbrev pub is_in_segment : Purpose → Segments → Target → Bool
is_in_segment Value S a = nat_le (a.start + claimed_words a.word) (length (segment S a.segment))
is_in_segment Size S a =
    (nat_eq (kind a.word) 1 && nat_eq (element_size a.word) 0)
    || nat_le (a.start + claimed_words a.word) (length (segment S a.segment))

-- The error for a list of structs that doesn't begin with a tag.
abbrev pub no_tag_name : Purpose → ErrorKind
no_tag_name Value = InlineCompositeListsOfNonStructTypeAreNotSupported
no_tag_name Size = CantHandleNonStructInlineComposite

-- Follows the pointer at a place: counts it, and charges its landing pads, if they are inside their
-- segment.
abbrev pub follow : Reading → Metered Target
follow r =
    count_pointer r.charging >>> λ _.
    charge_words r.charging (landing_words r.segments (word_of r)) >>> λ _.
    outcome (follow_at r)

-- Enters the struct or the list at the target a: a line for each check and each charge.
abbrev pub enter_object : Purpose → Reading → Target → Metered Shape
enter_object purpose r a =
    let g = tag r.segments a in
    let untagged = not (is_struct_list a.word) in
    demand (nat_lt 0 r.levels) MessageIsTooDeeplyNestedOrContainsCycles >>> λ _.
    demand (is_in_segment purpose r.segments a) MessageContainsOutOfBoundsPointer >>> λ _.
    charge_words r.charging (claimed_words a.word) >>> λ _.
    demand (untagged || nat_eq (kind g) 0) (no_tag_name purpose) >>> λ _.
    demand (untagged || nat_le (element_words g) (list_count a.word))
    InlineCompositeListsElementsOverrunItsWordCount >>> λ _.
    charge_words r.charging (amplified_charge purpose r.segments a) >>> λ _.
    answer (shape r.segments a)

-- Enters what a pointer leads to. A capability takes no level, and has no words.
abbrev pub enter : Purpose → Reading → Target → Metered Shape
enter purpose r a =
    if nat_eq (kind a.word) 2 then refuse MalformedDoubleFarPointer
    else if nat_eq (kind a.word) 3 then
    (demand (nat_eq (a.word % 2 ^ 32) 3) UnknownPointerType >>> λ _.
    answer (capability (upper_half a.word)))
    else enter_object purpose r a

-- Reads the object at a place, but none of its children.
abbrev pub read : Purpose → Reading → Metered Shape
read purpose r =
    if nat_eq (word_of r) 0 then answer nothing else (
    demand (has_level purpose r.levels) MessageIsTooDeeplyNested >>> λ _.
    follow r >>> λ a. enter purpose r a)

-- The shape of an object of the program.
abbrev pub object_shape : Object → Shape
object_shape ObjectNull = nothing
object_shape (ObjectCapability i) = capability i
object_shape (ObjectStruct start size) =
    struct start.segment start.at size.data_words size.pointers
object_shape (ObjectFlat start size count) = flat start.segment start.at (size_number size) count
object_shape (ObjectPointers start count) = pointers start.segment start.at count
object_shape (ObjectStructs start size count) =
    structs start.segment start.at size.data_words size.pointers count

-- The shape of the object that a call returned, or its refusal.
abbrev pub result_shape : Result Object ErrorKind → Result Shape ErrorKind
result_shape (Ok x) = Ok (object_shape x)
result_shape (Err k) = Err k

-- The same if the call returned only where the object of a near pointer starts.
abbrev pub near_shape : Reading → Result ℕ ErrorKind → Result Shape ErrorKind
near_shape r (Ok at) = Ok (shape r.segments (near_at r at))
near_shape r (Err k) = Err k
