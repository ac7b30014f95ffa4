-- How many words a canonical copy makes of a value, as a function: reading with a sum. The sum has
-- to fit in a number of words at each object.
use Rattle.std.specs.Prelude.{◌≡◌, ◌⊎◌, ℕ, zero, suc, ◌+◌, ◌*◌, ◌^◌, ◌<◌, ◌≤◌, take, drop, length, min, nat_le, Option, Result, Ok, Err, ⊤}
use Rattle.capnp_words.specs.declared.error.ErrorKind.{ErrorKind}
use Rattle.capnp_words.specs.declared.error.ErrorKind.TheVariants.{CannotCreateACanonicalMessageWithACapability}
use Rattle.capnp_words.specs.declared.error.ErrorKind.TheVariants.{MessageTooLarge}
use Rattle.capnp_words.specs.Sizes.{size_number}
use Rattle.capnp_format.specs.Bytes.{words_of}
use Rattle.capnp_words.specs.Meter.{unused}
use Rattle.capnp_format.specs.Canonical.{encoding, trim, used_words}
use Rattle.capnp_format.specs.Tree.{Tree}
use Rattle.capnp_arena_traits.specs.Allocations.{max_segment_words}
use Rattle.capnp_format.specs.Numbers.{words_for}
use Rattle.capnp_pointers.specs.declared.object.Place.{Place}
use Rattle.capnp_pointers.specs.declared.object.Object.{Object}
use Rattle.capnp_pointers.specs.declared.object.Object.TheVariants.{Null as ObjectNull}
use Rattle.capnp_pointers.specs.declared.object.Object.TheVariants.{Capability as ObjectCapability}
use Rattle.capnp_pointers.specs.declared.object.Object.TheVariants.{Struct as ObjectStruct}
use Rattle.capnp_pointers.specs.declared.object.Object.TheVariants.{Flat as ObjectFlat}
use Rattle.capnp_pointers.specs.declared.object.Object.TheVariants.{Pointers as ObjectPointers}
use Rattle.capnp_pointers.specs.declared.object.Object.TheVariants.{Structs as ObjectStructs}
use Rattle.capnp_pointers.specs.declared.object.Purpose.TheVariants.{Value}
use Rattle.capnp_pointers.specs.Enter.{Shape, capability, struct, read}
use Rattle.capnp_pointers.specs.Measure.{fold_children, fold_elements, fold_pointers}
use Rattle.capnp_pointers.specs.Metered.{Metered, answer, ◌>>>◌, demand}
use Rattle.capnp_pointers.specs.Objects.{IsFew}
use Rattle.capnp_pointers.specs.Reading.{Reading, place_past}
use Rattle.capnp_pointers.specs.Values.{permit}
use Rattle.capnp_pointers.specs.Wanted.{canonical}
use Rattle.capnp_copies.specs.Widths.{most_used}
use Rattle.capnp_messages.specs.Canonicalize.{end_value}
use Rattle.capnp_messages.specs.Fitting.{made_words}
use Rattle.capnp_messages.specs.Parts.{PathEnd, to_element, to_pointer}

-- The sum of z and n words, which has to fit in `room` words.
abbrev pub sum_within : ℕ → ℕ → ℕ → Metered ℕ
sum_within room z n =
    demand (nat_le (z + n) room) (MessageTooLarge room) >>> λ _. answer (z + n)

-- A capability has no copy.
abbrev pub has_copy : Shape → Result (Unit {0}) ErrorKind
has_copy (capability i) = Err CannotCreateACanonicalMessageWithACapability
has_copy o = Ok tt

-- Adds the words that the copy makes of the value at the place r to z, within n levels.
unfoldable pub made_within : ℕ → ℕ → Reading → ℕ → Metered ℕ
made_within room zero r z =
    read Value (record r { levels = zero }) >>> permit canonical >>> λ o.
    sum_within room z (made_words r.segments o)
made_within room (suc n) r z =
    read Value (record r { levels = suc n }) >>> permit canonical >>> λ o.
    sum_within room z (made_words r.segments o) >>>
    fold_children (made_within room n) (record r { levels = n }) o

-- The same with the levels of r; then for i consecutive pointers from r on, and for the pointers of
-- n consecutive elements of d data words and q pointers.
abbrev pub made_place : ℕ → Reading → ℕ → Metered ℕ
made_place room r = made_within room r.levels r

abbrev pub made_pointers : ℕ → ℕ → Reading → ℕ → Metered ℕ
made_pointers room i r = fold_pointers (made_within room r.levels) i r

abbrev pub made_elements : ℕ → ℕ → ℕ → ℕ → Reading → ℕ → Metered ℕ
made_elements room d q n r = fold_elements (made_within room r.levels) d q n r

-- The same for the value at the end of a path. The words of an element come first.
abbrev pub made_end : ℕ → PathEnd → ℕ → Metered ℕ
made_end room (to_pointer r) z = made_place room r z
made_end room (to_element r d q) z =
    sum_within room z (made_words r.segments (struct r.segment r.at d q)) >>>
    made_pointers room q (place_past r d)

-- The words of an object that a program has read, without its children, are inside its bytes.
abbrev pub IsInBytes : Place → ℕ → Type 0
IsInBytes here n =
    (length here.bytes.now ≡ 8 * length (words_of here.bytes.now))
    × (here.at + n ≤ length (words_of here.bytes.now))

abbrev pub IsObjectInBytes : Object → Type 0
IsObjectInBytes (ObjectStruct start size) = IsInBytes start (size.data_words + size.pointers)
IsObjectInBytes (ObjectStructs start size n) =
    IsInBytes start (n * (size.data_words + size.pointers)) × IsFew (ObjectStructs start size n)
IsObjectInBytes (ObjectFlat start size n) = n < 2 ^ 29
IsObjectInBytes x = ⊤

-- The number of words that the copy makes of such an object.
abbrev pub words_of_copy : Object → ℕ
words_of_copy (ObjectStruct start size) =
    used_words (take size.data_words (drop start.at (words_of start.bytes.now)))
    + used_words (take size.pointers (drop (start.at + size.data_words) (words_of start.bytes.now)))
words_of_copy (ObjectFlat start size n) = words_for (size_number size) n
words_of_copy (ObjectPointers start n) = n
words_of_copy (ObjectStructs start size n) =
    let stride = size.data_words + size.pointers in
    1 + n * (most_used (words_of start.bytes.now) start.at size.data_words stride n
    + most_used (words_of start.bytes.now) (start.at + size.data_words) size.pointers stride n)
words_of_copy x = 0

-- The room that is requested for the value at the end of a path, once it is known to need more than
-- a first try had: as many words as its canonical words have, and none more than a segment can have.
abbrev pub IsMeasured : PathEnd → Option ℕ → ℕ → Type 0
IsMeasured e left room =
    ((room ≡ max_segment_words)
    × ((t : Tree) → (end_value canonical e (unused left)).0 ≡ Ok t
    → max_segment_words < length (encoding (trim t))))
    ⊎ ((t : Tree) × ((end_value canonical e (unused left)).0 ≡ Ok t)
    × (room ≡ min (length (encoding (trim t))) max_segment_words))
