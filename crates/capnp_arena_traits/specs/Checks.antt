-- What an arena checks of a place, by the words of its segments.
use Rattle.std.specs.Prelude.{◌≡◌, ◌⊎◌, ℕ, ℤ, pos, ◌+ℤ◌, ◌≤ℤ◌, List, [], if◌then◌else◌, nat_lt, map}
use Rattle.std.specs.Prelude.{sum, length, ◌+◌, ◌/◌, ◌<◌, ◌≤◌}
use Rattle.capnp_format.specs.Segments.{Segments, segment}
use Rattle.capnp_words.specs.declared.error.ErrorKind.{ErrorKind}
use Rattle.capnp_words.specs.declared.error.ErrorKind.TheVariants.{InvalidSegmentId}
use Rattle.capnp_words.specs.declared.error.ErrorKind.TheVariants.{MessageContainsOutOfBoundsPointer}
use Rattle.capnp_words.specs.declared.error.ErrorKind.TheVariants.{TriedToReadFromNullArena}

-- S has segment id, and that has `size` words from `start` on.
abbrev pub Holds : Segments → ℕ → ℕ → ℕ → Type 0
Holds S id start size = (id < length S) × (start + size ≤ length (segment S id))

-- S has segment id; `start` and `start + offset` are in it, its end included.
abbrev pub LeadsInside : Segments → ℕ → ℕ → ℤ → Type 0
LeadsInside S id start offset =
    (id < length S) × (start ≤ length (segment S id)) × (pos 0 ≤ℤ (pos start +ℤ offset)) ×
    ((pos start +ℤ offset) ≤ℤ pos (length (segment S id)))

-- The number of words of all segments, from the bytes of each.
abbrev pub total_words : List (List ℕ) → ℕ
total_words segments = sum (map (λ s. length s / 8) segments)

-- k is the refusal of the unknown segment id: `InvalidSegmentId(id)`; or, if there is no segment at
-- all, it may be `TriedToReadFromNullArena`.
abbrev pub IsUnknown : List (List ℕ) → ℕ → ErrorKind → Type 0
IsUnknown segments id k = (k ≡ InvalidSegmentId id) ⊎ ((segments ≡ []) × (k ≡ TriedToReadFromNullArena))

-- The refusal of a place that isn't in segment id; `absent`, if there is no such segment.
abbrev pub misplaced : Segments → ℕ → ErrorKind → ErrorKind
misplaced S id absent = if nat_lt id (length S) then MessageContainsOutOfBoundsPointer else absent
