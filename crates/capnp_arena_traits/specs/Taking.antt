-- Where words are allocated in a message being built.
use Rattle.std.specs.Prelude.{ℕ, ◌≡◌, ◌⊎◌, ◌+◌, ◌<◌, ◌≤◌, ◌-◌, ◌^◌, [], ◌∷◌, ◌++◌, IsTrue, length, replicate}
use Rattle.capnp_format.specs.Segments.{Segments, segment}
use Rattle.capnp_words.specs.declared.error.ErrorKind.{ErrorKind}
use Rattle.capnp_words.specs.declared.error.ErrorKind.TheVariants.{AllocationFailed, MessageTooLarge}
use Rattle.capnp_arena_traits.specs.Allocations.{max_segments, max_segment_words, one_more}
use Rattle.capnp_arena_traits.specs.View.{View}
use Rattle.capnp_arena_traits.specs.Written.{extended, with_more}

-- No segment has room for `amount` more words.
abbrev pub IsFull : View → ℕ → Type 0
IsFull v amount = (k : ℕ) → k < length v.words → v.room k < length (segment v.words k) + amount

-- Segment k is the first with room for `amount` more words.
abbrev pub IsFirstFit : View → ℕ → ℕ → Type 0
IsFirstFit v amount k =
    (k < length v.words) × (length (segment v.words k) + amount ≤ v.room k) ×
    ((j : ℕ) → j < k → v.room j < length (segment v.words j) + amount)

-- S, and after its segments another one of `amount` zero words.
abbrev pub with_another : Segments → ℕ → Segments
with_another S amount = S ++ replicate amount 0 ∷ []

-- From old to new `amount` zero words are allocated at the end of segment k, from position p on,
-- and nothing else changes.
abbrev pub GrowsSegment : View → View → ℕ → ℕ → ℕ → Type 0
GrowsSegment old new amount k p =
    (p ≡ length (segment old.words k)) × (new ≡ with_more old k (replicate amount 0))

-- From old to new segment k is added after the others, with room that the allocator offers for
-- `amount` words. These are allocated in it, from position p, which is 0.
abbrev pub GainsSegment : View → View → ℕ → ℕ → ℕ → Type 0
GainsSegment old new amount k p =
    (k ≡ length old.words) × (p ≡ 0) × (new.words ≡ with_another old.words amount) ×
    (amount ≤ new.room k) × IsTrue (old.offers amount (new.room k))

-- From S to T `amount` zero words are allocated at (s, p): after those of segment s, or in a
-- segment of their own after the others.
abbrev pub IsTaken : Segments → Segments → ℕ → ℕ → ℕ → Type 0
IsTaken S T amount s p =
    ((s < length S) × (p ≡ length (segment S s)) × (T ≡ extended S s (replicate amount 0)))
    ⊎ ((s ≡ length S) × (p ≡ 0) × (T ≡ with_another S amount))

-- The segments below n have the same room.
abbrev pub SameRoomBelow : ℕ → (ℕ → ℕ) → (ℕ → ℕ) → Type 0
SameRoomBelow n old new = (k : ℕ) → k < n → new k ≡ old k

-- From old to new a request for `amount` words in a segment of their own is refused with e. There
-- are `segments` segments.
abbrev pub IsAllocationRefusal : View → View → ℕ → ℕ → ErrorKind → Type 0
IsAllocationRefusal old new segments amount e =
    ((e ≡ AllocationFailed) × (amount ≤ max_segment_words) × (segments < max_segments) ×
    (new.refusals ≡ one_more old.refusals))
    ⊎ ((e ≡ MessageTooLarge amount) × (max_segment_words < amount) × (segments < max_segments) ×
    (new.refusals ≡ old.refusals))
    ⊎ ((e ≡ MessageTooLarge (2 ^ 64 - 1)) × (segments ≡ max_segments) × (new.refusals ≡ old.refusals))
