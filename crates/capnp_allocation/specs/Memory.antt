-- The words that an object takes, in the segment of its pointer or, behind a landing pad, in
-- another one ("Inter-Segment Pointers").
use Rattle.std.specs.Prelude.{ℕ, ◌≡◌, ◌≢◌, ◌⊎◌, ◌+◌, ◌<◌, ◌≤◌, max, length}
use Rattle.capnp_format.specs.Segments.{Segments, segment, Target}
use Rattle.capnp_words.specs.declared.error.ErrorKind.{ErrorKind}
use Rattle.capnp_words.specs.declared.error.ErrorKind.TheVariants.{AllocationFailed}
use Rattle.capnp_arena_traits.specs.Allocations.{one_more}
use Rattle.capnp_arena_traits.specs.View.{View}
use Rattle.capnp_arena_traits.specs.Taking.{IsFirstFit, IsFull, IsAllocationRefusal, SameRoomBelow}
use Rattle.capnp_arena_traits.specs.declared.arena.WordPlace.{WordPlace}

-- Segment id has room for n more words, or some segment has room for them and a pad.
abbrev pub HasRoom : View → ℕ → ℕ → Type 0
HasRoom v id n = (length (segment v.words id) + n ≤ v.room id) ⊎ ((k : ℕ) × IsFirstFit v (n + 1) k)

-- From S to R segment k, which may be a new one after the others, has n more words; the others are
-- as long as before.
pub record Lengthens (S R : Segments) (k n : ℕ) : Type 0 where
  pub segments : length R ≡ max (length S) (k + 1)
  pub gained : length (segment R k) ≡ length (segment S k) + n
  pub others : (v : ℕ) → v ≢ k → length (segment R v) ≡ length (segment S v)

-- Segment k is the first with room for n more words; or, if none has it, a new one after the
-- others.
abbrev pub IsNextRoom : View → ℕ → ℕ → Type 0
IsNextRoom v n k = IsFirstFit v n k ⊎ (IsFull v n × (k ≡ length v.words))

-- From old to new n words are allocated in segment id if it has room for them; otherwise n words,
-- and one for a landing pad, in the next segment that has room.
pub record TakesWords (old new : View) (id n : ℕ) : Type 0 where
  pub near : length (segment old.words id) + n ≤ old.room id → Lengthens old.words new.words id n
  pub far : old.room id < length (segment old.words id) + n → (k : ℕ) × IsNextRoom old (n + 1) k ×
      Lengthens old.words new.words k (n + 1)

-- n words from h on come after all that were there: in segment id if it had room for them;
-- otherwise behind a landing pad in the next segment that had room.
pub record ComesAfter (old : View) (id n : ℕ) (h : WordPlace) : Type 0 where
  pub near : 0 < n → length (segment old.words id) + n ≤ old.room id → (h.segment ≡ id) ×
      (h.at ≡ length (segment old.words id))
  pub far : old.room id < length (segment old.words id) + n → IsNextRoom old (n + 1) h.segment ×
      (h.at ≡ length (segment old.words h.segment) + 1)

-- Where a pointer leads, as a start.
abbrev pub start_of : Target → WordPlace
start_of a = record { segment = a.segment; at = a.start }

-- Only words change from old to new, and the room of new segments.
abbrev pub KeepsMemory : View → View → Type 0
KeepsMemory old new = (new ≡ record old { words = new.words; room = new.room }) ×
    SameRoomBelow (length old.words) old.room new.room

-- A request for n words and a pad is refused with k, and only words and the count of refused
-- requests change.
abbrev pub IsRefusedFor : View → View → ℕ → ErrorKind → Type 0
IsRefusedFor old new n k = IsAllocationRefusal old new (length old.words) (n + 1) k ×
    (new ≡ record old { words = new.words; refusals = new.refusals })

-- How often memory was refused after a refusal with k, if it was n times before.
abbrev pub refusals_for : ErrorKind → ℕ → ℕ
refusals_for AllocationFailed n = one_more n
refusals_for k n = n

-- A call is refused with k. Only words change, the room of new segments, and the count of refused
-- requests: that is one more if k is `AllocationFailed`, and otherwise the same.
abbrev pub SpendsMemory : View → View → ErrorKind → Type 0
SpendsMemory old new k =
    (new ≡ record old { words = new.words; room = new.room; refusals = new.refusals }) ×
    SameRoomBelow (length old.words) old.room new.room
    × (new.refusals ≡ refusals_for k old.refusals)

-- A request for n words and a pad is refused with k, and no segment that is there now has room for
-- them.
abbrev pub RefusesWords : View → View → ℕ → ErrorKind → Type 0
RefusesWords old new n k = IsAllocationRefusal old new (length new.words) (n + 1) k ×
    ((j : ℕ) → IsFirstFit new (n + 1) j → ⊥)
