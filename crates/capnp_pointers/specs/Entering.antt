-- The steps of reading one object: a function for each private function of `src/source.rt` and
-- below. `Enter.antt` has the reading as a whole.
use Rattle.std.specs.Prelude.{◌≡◌, ℕ, ◌+◌, ◌-◌, ◌*◌, ◌<◌, ◌≤◌, Bool, if◌then◌else◌, not}
use Rattle.std.specs.Prelude.{◌||◌, nat_eq, nat_lt, nat_le, Option, Some, None, Result, Ok, Err, IfOk}
use Rattle.std.specs.Prelude.{length, ⊤}
use Rattle.capnp_words.specs.declared.error.ErrorKind.{ErrorKind}
use Rattle.capnp_words.specs.declared.error.ErrorKind.TheVariants.{InlineCompositeListsElementsOverrunItsWordCount}
use Rattle.capnp_words.specs.declared.error.ErrorKind.TheVariants.{MessageContainsOutOfBoundsPointer}
use Rattle.capnp_words.specs.declared.error.ErrorKind.TheVariants.{MessageContainsTextThatIsNotNULTerminated}
use Rattle.capnp_words.specs.declared.error.ErrorKind.TheVariants.{MessageIsTooDeeplyNestedOrContainsCycles}
use Rattle.capnp_words.specs.declared.wire_pointer.ElementSize.TheVariants.{Byte}
use Rattle.capnp_words.specs.Meter.{Meter}
use Rattle.capnp_words.specs.Sizes.{size_number}
use Rattle.capnp_format.specs.Bytes.{words_of}
use Rattle.capnp_format.specs.Numbers.{words_for}
use Rattle.capnp_format.specs.Segments.{Segments, segment, Target}
use Rattle.capnp_format.specs.Word.{kind, upper_half, far_position, is_double, offset_bits}
use Rattle.capnp_format.specs.Word.{data_words, pointer_count, list_count}
use Rattle.capnp_arena_traits.specs.declared.arena.reader_arena.ReaderArena.{Ghosts}
use Rattle.capnp_pointers.specs.declared.object.Expected.{Expected}
use Rattle.capnp_pointers.specs.declared.object.Expected.TheVariants.{List, Text}
use Rattle.capnp_pointers.specs.declared.object.Object.{Object}
use Rattle.capnp_pointers.specs.declared.object.Object.TheVariants.{Struct as ObjectStruct}
use Rattle.capnp_pointers.specs.declared.object.Object.TheVariants.{Flat as ObjectFlat}
use Rattle.capnp_pointers.specs.declared.object.Object.TheVariants.{Pointers as ObjectPointers}
use Rattle.capnp_pointers.specs.declared.object.Object.TheVariants.{Structs as ObjectStructs}
use Rattle.capnp_pointers.specs.declared.object.Place.{Place}
use Rattle.capnp_pointers.specs.declared.object.Purpose.{Purpose}
use Rattle.capnp_pointers.specs.declared.object.Purpose.TheVariants.{Value, Size}
use Rattle.capnp_pointers.specs.declared.source.Found.{Found}
use Rattle.capnp_pointers.specs.declared.source.landing.Entrance.{Entrance}
use Rattle.capnp_pointers.specs.Demands.{claimed_words, tag, element_words, count_charge}
use Rattle.capnp_pointers.specs.Enter.{Shape, shape, no_tag_name, result_shape}
use Rattle.capnp_pointers.specs.Expected.{narrow_elements, narrow_structs}
use Rattle.capnp_pointers.specs.Follow.{follow_far}
use Rattle.capnp_pointers.specs.Metered.{Metered, outcome, answer, ◌>>>◌, demand, charge_words}
use Rattle.capnp_pointers.specs.Objects.{IsHeld, IsFew}
use Rattle.capnp_pointers.specs.Reading.{Reading, list_byte, source_start}
use Rattle.capnp_pointers.specs.Refusals.{landing_words}

-- What following a pointer found, as a target; or the refusal.
abbrev pub found_target : Found → Target
found_target l = record { word = l.word.0; segment = l.start.segment; start = l.start.at; pads = l.pads }

abbrev pub found_result : Result Found ErrorKind → Result Target ErrorKind
found_result (Ok l) = Ok (found_target l)
found_result (Err k) = Err k

-- Follows the far pointer x: charges its landing pads, if they are inside their segment.
abbrev pub follow_pads : Segments → Bool → ℕ → Metered Target
follow_pads S charging x =
    charge_words charging (landing_words S x) >>> λ _. outcome (follow_far S x (is_double x))

-- The place of the landing pad of the far pointer x.
pub record IsPad (S : Segments) (x : ℕ) (here : Place) : Type 0 where
  pub held : IsHeld S here
  pub exists : upper_half x < length S
  pub segment_of : here.segment ≡ upper_half x
  pub position_of : here.at ≡ far_position x
  pub inside : here.at + is_double x < length (segment S here.segment)

-- The source that an object is read from, with the levels that are left.
abbrev pub entered_from : {A : Type 0} (g : Ghosts A) → Entrance A g → Reading
entered_from g l = record (source_start g l.source) { levels = l.depth }

-- Checks and charges the words that an object claims, which takes a level.
abbrev pub claim_words : Reading → Target → Metered (Unit {0})
claim_words r a =
    demand (nat_lt 0 r.levels) MessageIsTooDeeplyNestedOrContainsCycles >>> λ _.
    demand (nat_le (a.start + claimed_words a.word) (length (segment r.segments a.segment)))
    MessageContainsOutOfBoundsPointer >>> λ _.
    charge_words r.charging (claimed_words a.word)

-- Enters an object that charges only what it claims.
abbrev pub enter_plain : Reading → Target → Metered Shape
enter_plain r a = claim_words r a >>> λ _. answer (shape r.segments a)

-- Enters a list of void.
abbrev pub enter_void : Purpose → Reading → Target → Metered Shape
enter_void Size r a = answer (shape r.segments a)
enter_void Value r a =
    claim_words r a >>> λ _. charge_words r.charging (list_count a.word) >>> λ _.
    answer (shape r.segments a)

-- Enters a list of structs.
abbrev pub enter_structs : Purpose → Reading → Target → Metered Shape
enter_structs purpose r a =
    let g = tag r.segments a in
    claim_words r a >>> λ _.
    demand (nat_eq (kind g) 0) (no_tag_name purpose) >>> λ _.
    demand (nat_le (element_words g) (list_count a.word))
    InlineCompositeListsElementsOverrunItsWordCount >>> λ _.
    charge_words r.charging
    (count_charge purpose (data_words g + pointer_count g) (offset_bits g)) >>> λ _.
    answer (shape r.segments a)

-- The bytes of an object are those of its segment.
abbrev pub IsObjectHeld : Segments → Object → Type 0
IsObjectHeld S (ObjectStruct start size) = IsHeld S start
IsObjectHeld S (ObjectFlat start size count) = IsHeld S start
IsObjectHeld S (ObjectPointers start count) = IsHeld S start
IsObjectHeld S (ObjectStructs start size count) = IsHeld S start
IsObjectHeld S object = ⊤

-- The words of the elements of a list without pointers are inside its segment, unless they are void.
abbrev pub IsAtHand : Object → Type 0
IsAtHand (ObjectFlat start size count) =
    (size_number size ≤ 5) × (0 < size_number size → 8 * (start.at + words_for (size_number size)
    count) ≤ length start.bytes.now)
IsAtHand object = ⊤

-- A call in the message S reads what f returns, and takes the limiter from m to m'.
pub record ReadsAs (f : Metered Shape) (S : Segments) (m m' : Meter)
    (result : Result Object ErrorKind) : Type 0 where
  pub computed : f m ≡ (result_shape result, m')
  pub held : IfOk result (IsObjectHeld S)
  pub few : IfOk result IsFew
  pub at_hand : IfOk result IsAtHand

-- The last of the n bytes from the place on.
abbrev pub last_byte : Place → ℕ → ℕ
last_byte here n = list_byte (words_of here.bytes.now) here.at n (n - 1)

-- Why an object that was read isn't what was expected, if it isn't.
abbrev pub object_misfit : Expected → Object → Option ErrorKind
object_misfit (List size) (ObjectFlat start found count) = narrow_elements size (size_number found)
object_misfit (List size) (ObjectPointers start count) = narrow_elements size 6
object_misfit (List size) (ObjectStructs start sections count) = narrow_structs size sections
object_misfit Text (ObjectFlat start Byte count) =
    if nat_eq count 0 || not (nat_eq (last_byte start count) 0) then
    Some MessageContainsTextThatIsNotNULTerminated else None
object_misfit expected object = None
