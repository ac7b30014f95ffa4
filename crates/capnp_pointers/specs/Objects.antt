-- What reading one object returns.
use Rattle.std.specs.Prelude.{◌≡◌, ◌≢◌, ℕ, ◌+◌, ◌*◌, ◌%◌, ◌^◌, ◌<◌, ◌≤◌, length, ⊤}
use Rattle.capnp_format.specs.Word.{kind, offset_bits, data_words, pointer_count, element_size}
use Rattle.capnp_format.specs.Word.{list_count, upper_half}
use Rattle.capnp_format.specs.Segments.{Segments, segment, Target}
use Rattle.capnp_words.specs.Meter.{Meter, Affords}
use Rattle.capnp_format.specs.Bytes.{words_of}
use Rattle.capnp_words.specs.Sizes.{size_number}
use Rattle.capnp_pointers.specs.declared.object.Place.{Place}
use Rattle.capnp_pointers.specs.declared.object.PointerWord.{PointerWord}
use Rattle.capnp_pointers.specs.declared.object.Object.{Object}
use Rattle.capnp_pointers.specs.declared.object.Object.TheVariants.{Null as ObjectNull}
use Rattle.capnp_pointers.specs.declared.object.Object.TheVariants.{Capability as ObjectCapability}
use Rattle.capnp_pointers.specs.declared.object.Object.TheVariants.{Struct as ObjectStruct}
use Rattle.capnp_pointers.specs.declared.object.Object.TheVariants.{Flat as ObjectFlat}
use Rattle.capnp_pointers.specs.declared.object.Object.TheVariants.{Pointers as ObjectPointers}
use Rattle.capnp_pointers.specs.declared.object.Object.TheVariants.{Structs as ObjectStructs}
use Rattle.capnp_pointers.specs.declared.object.Purpose.{Purpose}
use Rattle.capnp_pointers.specs.Spending.{after_charge}
use Rattle.capnp_pointers.specs.Demands.{tag}
use Rattle.capnp_pointers.specs.Reading.{Reading, word_of}
use Rattle.capnp_pointers.specs.Outcomes.{Entered}
use Rattle.capnp_pointers.specs.Wanted.{FollowsFor}

-- The bytes of a place are those of its segment.
abbrev pub IsHeld : Segments → Place → Type 0
IsHeld S here =
    (words_of here.bytes.now ≡ segment S here.segment) ×
    (length here.bytes.now ≡ 8 * length (segment S here.segment)) ×
    (length here.bytes.now < 8 * 2 ^ 32)

-- The pointer word of a place that is read isn't null, and the place has its segment's bytes.
pub record IsWordRead (r : Reading) (pointer : PointerWord) : Type 0 where
  pub held : IsHeld r.segments pointer.place
  pub there : pointer.word.0 ≡ word_of r
  pub some : pointer.word.0 ≢ 0
  pub small : pointer.word.0 < 2 ^ 64

-- An object of the target a starts n words after the start of a.
abbrev pub StartsAt : Segments → Target → ℕ → Place → Type 0
StartsAt S a n here = IsHeld S here × (here.segment ≡ a.segment) × (here.at ≡ a.start + n)

-- What the pointer at a place leads to, whose words are checked, and charged from m to m'.
abbrev pub IsObject : Purpose → Reading → Meter → Meter → Object → Type 0
IsObject purpose r m m' ObjectNull = (word_of r ≡ 0) × (m' ≡ m)
IsObject purpose r m m' (ObjectCapability i) =
    (a : Target) × FollowsFor purpose r a × (a.word % 2 ^ 32 ≡ 3) × (i ≡ upper_half a.word) ×
    Affords r.charging m a.pads × (m' ≡ after_charge r.charging m a.pads 1)
IsObject purpose r m m' (ObjectStruct start size) =
    (a : Target) × Entered purpose r m m' a × (kind a.word ≡ 0) × StartsAt r.segments a 0 start ×
    (size.data_words ≡ data_words a.word) × (size.pointers ≡ pointer_count a.word)
IsObject purpose r m m' (ObjectFlat start size count) =
    (a : Target) × Entered purpose r m m' a × (kind a.word ≡ 1) × (element_size a.word ≤ 5) ×
    StartsAt r.segments a 0 start
    × (size_number size ≡ element_size a.word) × (count ≡ list_count a.word)
IsObject purpose r m m' (ObjectPointers start count) =
    (a : Target) × Entered purpose r m m' a × (kind a.word ≡ 1) × (element_size a.word ≡ 6) ×
    StartsAt r.segments a 0 start × (count ≡ list_count a.word)
IsObject purpose r m m' (ObjectStructs start size count) =
    (a : Target) × Entered purpose r m m' a × (kind a.word ≡ 1) × (element_size a.word ≡ 7) ×
    StartsAt r.segments a 1 start
    × (count ≡ offset_bits (tag r.segments a)) × (size.data_words ≡ data_words (tag r.segments a)) ×
    (size.pointers ≡ pointer_count (tag r.segments a))

-- What a near pointer at the place of r leads to: an object at position `at` of the place's own
-- segment.
abbrev pub near_at : Reading → ℕ → Target
near_at r at = record { word = word_of r; segment = r.segment; start = at; pads = 0 }

-- What the near pointer at the place of r leads to is entered, from m to m', at position `at`.
abbrev pub EntersNear : Purpose → Reading → Meter → Meter → ℕ → Type 0
EntersNear purpose r m m' at = Entered purpose r m m' (near_at r at)

-- The number of a list's elements fits its bits of a pointer word, and so do the words of structs.
abbrev pub IsFew : Object → Type 0
IsFew (ObjectFlat start size count) = count < 2 ^ 29
IsFew (ObjectPointers start count) = count < 2 ^ 29
IsFew (ObjectStructs start size count) =
    (count < 2 ^ 30) × (count * (size.data_words + size.pointers) < 2 ^ 29)
IsFew x = ⊤

-- The object was read at the place r.
pub record IsObjectRead (purpose : Purpose) (r : Reading) (object : Object) : Type 0 where
  pub before : Meter
  pub after : Meter
  pub object_of : IsObject purpose r before after object
  pub few : IsFew object
