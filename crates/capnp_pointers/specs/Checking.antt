-- What the test for canonical form finds, and how far it has come ("Canonicalization"). It visits
-- the pointers in order with a head, the word at which the next object must start, and enters a
-- level for each struct and list.
use Rattle.std.specs.Prelude.{◌≡◌, ℕ, ◌+◌, ◌^◌, ◌<◌, ◌≤◌}
use Rattle.std.specs.Prelude.{List, [], ◌∷◌, Option, Some, None, if◌then◌else◌, nat_eq, length, ⊤}
use Rattle.capnp_words.specs.declared.error.ErrorKind.{ErrorKind}
use Rattle.capnp_words.specs.declared.error.ErrorKind.TheVariants.{MessageIsTooDeeplyNestedOrContainsCycles}
use Rattle.capnp_words.specs.declared.error.ErrorKind.TheVariants.{NestingLimitExceeded}
use Rattle.capnp_words.specs.Meter.{Meter, Affords}
use Rattle.capnp_words.specs.declared.wire_pointer.ElementSize.{ElementSize}
use Rattle.capnp_words.specs.Sizes.{size_number}
use Rattle.capnp_format.specs.Numbers.{words_for}
use Rattle.capnp_format.specs.Word.{kind}
use Rattle.capnp_format.specs.Segments.{HasSmallWords, word_at, IsPlace}
use Rattle.capnp_format.specs.Tree.{Tree, Trees, count, depth, depth_all}
use Rattle.capnp_format.specs.Canonical.{HasCanonicalAt, ForOffset, word_count, word_count_all}
use Rattle.capnp_format.specs.Canonical.{charge, charge_all}
use Rattle.capnp_pointers.specs.declared.object.Object.{Object}
use Rattle.capnp_pointers.specs.declared.object.Object.TheVariants.{Null as ObjectNull}
use Rattle.capnp_pointers.specs.declared.object.Object.TheVariants.{Capability as ObjectCapability}
use Rattle.capnp_pointers.specs.declared.object.Object.TheVariants.{Struct as ObjectStruct}
use Rattle.capnp_pointers.specs.declared.object.Object.TheVariants.{Flat as ObjectFlat}
use Rattle.capnp_pointers.specs.declared.object.Object.TheVariants.{Pointers as ObjectPointers}
use Rattle.capnp_pointers.specs.declared.object.Object.TheVariants.{Structs as ObjectStructs}
use Rattle.capnp_pointers.specs.Reading.{Reading, word_of, segment_read}
use Rattle.capnp_pointers.specs.Spending.{Paid, pointers_in, pointers_in_all}
use Rattle.capnp_pointers.specs.Standing.{HasBodiesAt, ForOffsets, IsPadded}

-- How far a test has come: the word at which the next object must start, and its limiter.
pub record Progress : Type 0 where
  pub head : ℕ
  pub meter : Meter

abbrev pub progress : ℕ → Meter → Progress
progress h m = record { head = h; meter = m }

-- The canonical words of t are at the place of r and the head of `from`. The levels are enough, the
-- cost of t is paid, and the head moves past them.
pub record Finds (r : Reading) (from to : Progress) (t : Tree) : Type 0 where
  pub stands : HasCanonicalAt r.segments r.segment r.at from.head t
  pub inside : ForOffset t (from.head ≤ length (segment_read r))
  pub levels : depth t ≤ r.levels
  pub paid : Paid r.charging from.meter to.meter (charge t) (pointers_in t)
  pub head_is : to.head ≡ from.head + word_count t

-- The canonical words of ts are at consecutive pointers, from the place of r on, and at the head:
-- as for one pointer.
pub record FindsAll (r : Reading) (from to : Progress) (ts : Trees) : Type 0 where
  pub stand : HasBodiesAt r.segments r.segment r.at from.head ts
  pub levels : depth_all ts ≤ r.levels
  pub paid : Paid r.charging from.meter to.meter (charge_all ts) (pointers_in_all ts)
  pub head_is : to.head ≡ from.head + word_count_all ts

-- Canonical words of some value are at the place and the head; the same for i pointers.
abbrev pub IsFound : Reading → Progress → Progress → Type 0
IsFound r from to = (t : Tree) × Finds r from to t

abbrev pub AreFound : Reading → ℕ → Progress → Progress → Type 0
AreFound r i from to = (ts : Trees) × (count ts ≡ i) × FindsAll r from to ts

-- Each word of the segment of r has 64 bits.
abbrev pub HasSmallSegment : Reading → Type 0
HasSmallSegment r = HasSmallWords r.segments r.segment

-- Canonical words are at the place and the head, with any limits; the same for i pointers.
abbrev pub IsCanonicalAt : Reading → ℕ → Type 0
IsCanonicalAt r h = (t : Tree) × HasCanonicalAt r.segments r.segment r.at h t

abbrev pub AreCanonicalAt : Reading → ℕ → ℕ → Type 0
AreCanonicalAt r i h = (ts : Trees) × (count ts ≡ i) × HasBodiesAt r.segments r.segment r.at h ts

-- Where the object of a pointer at position p starts in canonical form: a struct without words at
-- the pointer itself, and any other at the head h, a list of structs with its tag. No capability is
-- canonical.
abbrev pub StartsRight : Object → ℕ → ℕ → Type 0
StartsRight ObjectNull p h = ⊤
StartsRight (ObjectCapability i) p h = ⊥
StartsRight (ObjectStruct start size) p h =
    start.at ≡ (if nat_eq (size.data_words + size.pointers) 0 then p else h)
StartsRight (ObjectFlat start size n) p h = start.at ≡ h
StartsRight (ObjectPointers start n) p h = start.at ≡ h
StartsRight (ObjectStructs start size n) p h = start.at ≡ h + 1

-- A place that is tested: its word is there and is a near pointer, in a segment of words of 64
-- bits.
pub record IsTested (r : Reading) : Type 0 where
  pub small : (p : ℕ) → word_at r.segments r.segment p < 2 ^ 64
  pub there : IsPlace r.segments r.segment r.at
  pub near : kind (word_of r) < 2

-- The word w of a place that is tested.
pub record IsTestedWord (w : ℕ) (r : Reading) : Type 0 where
  pub ready : IsTested r
  pub there : w ≡ word_of r

-- The same for a list of n numbers of this size, from position p of these words: the bits after its
-- numbers are zero.
abbrev pub TellsFlat : List ℕ → ℕ → ElementSize → ℕ → Option ℕ → Type 0
TellsFlat words p size n (Some e) =
    IsPadded (words ∷ []) 0 p (size_number size) n × (e ≡ p + words_for (size_number size) n)
TellsFlat words p size n None = IsPadded (words ∷ []) 0 p (size_number size) n → ⊥

-- Canonical words are at the place, and at a head in its segment; the levels are enough, and the
-- limiter covers their cost. The same for i pointers.
abbrev pub CanBeFound : Reading → Progress → Type 0
CanBeFound r from =
    (t : Tree) × HasCanonicalAt r.segments r.segment r.at from.head t ×
    ForOffset t (from.head ≤ length (segment_read r)) × (depth t ≤ r.levels) ×
    Affords r.charging from.meter (charge t)

abbrev pub CanAllBeFound : Reading → ℕ → Progress → Type 0
CanAllBeFound r i from =
    (ts : Trees) × (count ts ≡ i) × HasBodiesAt r.segments r.segment r.at from.head ts ×
    ForOffsets ts (from.head ≤ length (segment_read r)) × (depth_all ts ≤ r.levels) ×
    Affords r.charging from.meter (charge_all ts)

-- The error of a refusal by the test: for a list without a level left it is another one than for a
-- struct.
abbrev pub level_refusal_name : ℕ → ErrorKind → ErrorKind
level_refusal_name w MessageIsTooDeeplyNestedOrContainsCycles =
    if nat_eq (kind w) 1 then NestingLimitExceeded else MessageIsTooDeeplyNestedOrContainsCycles
level_refusal_name w k = k
