-- The limits of a reader's segments, and the whole words of a segment.
use Rattle.std.specs.Prelude.{ℕ, List, All, length, take, slice_get, Some, ◌≡◌, ◌*◌, ◌/◌, ◌^◌, ◌<◌}
use Rattle.std.specs.Borrow.{Bor}

-- The bytes of the whole words of a segment.
abbrev pub whole : List ℕ → List ℕ
whole bytes = take (8 * (length bytes / 8)) bytes

-- There are fewer than 2^32 segments, each of fewer than 2^32 words.
abbrev pub AreSmall : List (Bor (List ℕ)) → Type 0
AreSmall segments = (length segments < 2 ^ 32) × All (λ s. length s.now / 8 < 2 ^ 32) segments

-- There are fewer than 2^32 segments, each of fewer than 2^32 words; stated by the number of each
-- segment ("Messages").
abbrev pub IsSmall : List (List ℕ) → Type 0
IsSmall segments =
    (length segments < 2 ^ 32) × ((k : ℕ) (s : List ℕ) → slice_get segments k ≡ Some s →
    length s / 8 < 2 ^ 32)
