-- What a segment of a builder arena holds: allocated words, then zeros.
use Rattle.std.specs.Prelude.{ℕ, List, ◌≡◌, ◌+◌, ◌*◌, ◌-◌, ◌/◌, ◌^◌, ◌≤◌, length, drop, replicate, min}

-- The greatest number of words of a builder segment ("Inter-Segment Pointers").
abbrev pub max_segment_words : ℕ
max_segment_words = 2 ^ 29 - 1

-- The greatest number of segments of a builder arena.
abbrev pub max_segments : ℕ
max_segments = 2 ^ 32 - 1

-- The bytes of `words` zero words.
abbrev pub zeros : ℕ → List ℕ
zeros words = replicate (8 * words) 0

-- A fresh segment has whole words, all zero: at least as many as requested, and at most
-- `max_segment_words`.
abbrev pub IsFresh : ℕ → List ℕ → Type 0
IsFresh asked bytes = (bytes ≡ zeros (length bytes / 8)) × (asked ≤ length bytes / 8) ×
    (length bytes / 8 ≤ max_segment_words)

-- The words from `used` on are zero.
abbrev pub IsClearFrom : ℕ → List ℕ → Type 0
IsClearFrom used bytes = drop (8 * used) bytes ≡ replicate (length bytes - 8 * used) 0

-- One more refusal than n, up to the greatest u64.
abbrev pub one_more : ℕ → ℕ
one_more n = min (n + 1) (2 ^ 64 - 1)

-- A segment of `long` bytes has `used` allocated words. The bytes `ready` are initialized; in
-- these, the words after the allocated ones are zero.
abbrev pub IsRow : ℕ → List ℕ → ℕ → Type 0
IsRow used ready long = (8 * used ≤ length ready) × (length ready ≤ long) ×
    (long ≤ 8 * max_segment_words) × IsClearFrom used ready
