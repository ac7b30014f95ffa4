-- New words for an object that replaces another, and its pointer set to it.
use Rattle.std.specs.Prelude.{◌≡◌, ◌≢◌, ◌⊎◌, ℕ, ◌+◌, ◌<◌, ◌≤◌, [], ◌∷◌, length}
use Rattle.std.specs.Prelude.{Result, IsOk, IfOk, IfErr, OnOk, OnErr}
use Rattle.capnp_words.specs.declared.error.ErrorKind.{ErrorKind}
use Rattle.capnp_format.specs.Segments.{Segments, segment, word_at, Target}
use Rattle.capnp_format.specs.Means.{Leads}
use Rattle.capnp_format.specs.Forest.{times, pads_of}
use Rattle.capnp_format.specs.Path.{word_interval}
use Rattle.capnp_allocation.specs.Zeroed.{row}
use Rattle.capnp_allocation.specs.Made.{IsShape, IsGrown}
use Rattle.capnp_arena_traits.specs.View.{View, KeepsLimits}
use Rattle.capnp_allocation.specs.Memory.{KeepsMemory, SpendsMemory, RefusesWords}
use Rattle.capnp_allocation.specs.Memory.{ComesAfter, TakesWords}
use Rattle.capnp_allocation.specs.declared.making.Shape.{Shape}
use Rattle.capnp_arena_traits.specs.declared.arena.WordPlace.{WordPlace}
use Rattle.capnp_in_place.specs.Rooms.{GrowsByAtMost, HasPadRoom, HasRoomAndPads}
use Rattle.capnp_in_place.specs.declared.widening.Allocation.{Allocation}

-- From S to T, space for n words has been added, all zero: in segment id, or behind a landing pad.
abbrev pub IsAllocation : Segments → Segments → ℕ → ℕ → Allocation → Type 0
IsAllocation S T id n h =
    IsGrown S T h.segment h.at (h.pads + n) × (((h.pads ≡ 0) × (h.segment ≡ id)) ⊎ (h.pads ≡ 1))

-- Where the object of a room starts, after its pads.
abbrev pub object_start : Allocation → WordPlace
object_start h = record { segment = h.segment; at = h.at + h.pads }

-- A call allocates n words for an object after all words that were there, and a pad if they aren't
-- in segment id; or it is refused, and no word is written. It succeeds if there is room for them.
-- If there was also room for pads of m objects in segment k, that is left.
pub record TakesAllocation (result : Result Allocation ErrorKind) (old new : View)
    (id n : ℕ) : Type 0 where
  pub words : OnOk result (TakesWords old new id n)
  pub behind : IfOk result (λ room. ComesAfter old id n (object_start room))
  pub granted : OnOk result (KeepsMemory old new)
  pub memory : IfErr result (SpendsMemory old new)
  pub full : IfErr result (RefusesWords old new n)
  pub refused : OnErr result (new.words ≡ old.words)
  pub few : GrowsByAtMost old.words new.words (n + 1)
  pub fits : (k m : ℕ) → HasRoomAndPads old id n k m → IsOk result ×
      IfOk result
      (λ room. k < length old.words → room.segment ≢ k → m ≤ n → HasPadRoom new k m)

-- From S to R n words are copied over others, and only these are written.
pub record AreWordsCopied (S R : Segments) (from to : WordPlace) (n : ℕ) : Type 0 where
  pub segments : length R ≡ length S
  pub words : (x : ℕ) → length (segment R x) ≡ length (segment S x)
  pub here : (i : ℕ) → i < n → word_at R to.segment (to.at + i) ≡ word_at S from.segment (from.at + i)
  pub kept : (x y : ℕ) → times (row to.segment to.at n ∷ []) x y ≡ 0 → word_at R x y ≡ word_at S x y

-- From old to new n words are copied over others, and nothing else changes.
pub record CopiesWords (old new : View) (from to : WordPlace) (n : ℕ) : Type 0 where
  pub copied : AreWordsCopied old.words new.words from to n
  pub limits : KeepsLimits old new

-- From S to R the pointer at a place is overwritten, and leads to the object of this shape that is
-- in the room h, after the room's pads.
pub record Settles (S R : Segments) (place : WordPlace) (h : Allocation)
    (shape : Shape) : Type 0 where
  pub object : Target
  pub segments : length R ≡ length S
  pub words : (x : ℕ) → length (segment R x) ≡ length (segment S x)
  pub leads_there : Leads R place.segment place.at object
  pub pads_there : (x y : ℕ) → times (pads_of (word_at R place.segment place.at)) x y
      ≡ times (row h.segment h.at h.pads ∷ []) x y
  pub kept : (x y : ℕ) → times (word_interval place.segment place.at ∷ []) x y ≡ 0 →
      times (row h.segment h.at h.pads ∷ []) x y ≡ 0 → word_at R x y ≡ word_at S x y
  pub is_shape : IsShape shape object.word
  pub in_segment : object.segment ≡ h.segment
  pub starts : object.start ≡ h.at + h.pads
