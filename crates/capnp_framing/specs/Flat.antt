-- Frames that are in memory as a whole.
use Rattle.std.specs.Prelude.{◌≡◌, ℕ, ◌+◌, ◌*◌, ◌<◌, ◌≤◌, List, [], ◌∷◌, ◌++◌, length, take, drop}
use Rattle.std.specs.Prelude.{slice_index, zero, suc}
use Rattle.std.specs.Int.{from_le_bytes, w32}
use Rattle.capnp_format.specs.Segments.{Segments}
use Rattle.capnp_framing.specs.Frames.{IsFrameOf}
use Rattle.capnp_framing.specs.Reading.{max_length, total, words_told}

-- The length in words that the first bytes of a table state.
abbrev pub first_told : List ℕ → ℕ
first_told table = from_le_bytes w32 (take 4 table)

-- The bytes of n consecutive segments, with the lengths that a table states.
abbrev pub parts : ℕ → List ℕ → List ℕ → List (List ℕ)
parts zero table bytes = []
parts (suc n) table bytes =
    take (8 * first_told table) bytes ∷ parts n (drop 4 table) (drop (8 * first_told table) bytes)

-- For every 32nd of n segments, `starts` has the number of words before it, by the lengths that a
-- table states.
abbrev pub AreStarts : ℕ → List ℕ → List ℕ → Type 0
AreStarts n table starts =
    (k : ℕ) → 32 * k < n →
    (slice_index starts k ≡ words_told (32 * k) table) × (slice_index starts k ≤ max_length * (32 * k))

-- For each of n segments, `ends` has the number of words up to its end, by the lengths that a table
-- states.
abbrev pub AreEnds : ℕ → List ℕ → List ℕ → Type 0
AreEnds n table ends =
    (n ≤ length ends) × ((k : ℕ) → k < n → slice_index ends k ≡ words_told (k + 1) table)

-- The bytes begin with a frame of S, which has at most `most` words.
pub record BeginsWithFrame (bytes : List ℕ) (most : ℕ) (S : Segments) : Type 0 where
  pub front : List ℕ
  pub behind : List ℕ
  pub is : bytes ≡ front ++ behind
  pub framed : IsFrameOf S front
  pub short : total S ≤ most
