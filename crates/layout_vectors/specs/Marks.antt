-- Marks of words: for each segment a row of numbers, one for each word. A word is marked if its
-- number isn't 0.
use Rattle.std.specs.Prelude.{◌≡◌, ◌≢◌, ℕ, ◌+◌, ◌<◌, ◌≤◌, count_by, nat_eq, sum_by, Bool, true}
use Rattle.std.specs.Prelude.{false, List, [], ◌∷◌, length, map, slice_index, vec_items}
use Rattle.capnp_format.specs.Segments.{Segments, segment, word_at}
use Rattle.capnp_format.specs.Forest.{times, pads_of}
use Rattle.capnp_format.specs.Forest.{row, PadsInside}
use Rattle.layout_vectors.specs.Counts.{IsOnce}
use Rattle.layout_vectors.specs.declared.vectors.marks.Marks.{Marks}

abbrev pub rows_of : Marks → Segments
rows_of m = map vec_items m.rows.items

-- None of the n words of a row from position p on is marked; or one is.
abbrev pub AreFreeWithin : List ℕ → ℕ → ℕ → Type 0
AreFreeWithin xs p n = (q : ℕ) → p ≤ q → q < p + n → slice_index xs q ≡ 0

abbrev pub IsMarkedWithin : List ℕ → ℕ → ℕ → Type 0
IsMarkedWithin xs p n = (q : ℕ) × (p ≤ q) × (q < p + n) × (slice_index xs q ≢ 0)

-- The number of words that are free.
abbrev pub free : Segments → ℕ
free M = sum_by (λ marks. count_by (λ mark. nat_eq mark 0) marks) M

-- From M to N the number and the lengths of rows stay. If no word of M is marked more than once,
-- none of N is.
pub record KeepsRows (M N : Segments) : Type 0 where
  pub segments : length N ≡ length M
  pub words : (u : ℕ) → length (segment N u) ≡ length (segment M u)
  pub once : IsOnce (word_at M) → IsOnce (word_at N)

-- From M to N the n words from (s, p) on get marked; none of them was.
pub record TakesRow (M N : Segments) (s p n : ℕ) : Type 0 where
  pub keeps : KeepsRows M N
  pub marks : (u q : ℕ) → word_at N u q ≡ word_at M u q + times (row s p n ∷ []) u q
  pub fewer : free N + n ≡ free M

-- From M to N words get marked, each as often as `is` says.
pub record TakesEach (M N : Segments) (is : ℕ → ℕ → ℕ) : Type 0 where
  pub keeps : KeepsRows M N
  pub marks : (u q : ℕ) → word_at N u q ≡ word_at M u q + is u q
  pub fewer : free N ≤ free M

-- From M to N the landing pads of the word x get marked, if it is a far pointer. Or (`false`) they
-- aren't in the message, or one of their words is marked already.
abbrev pub TakesPads : Segments → Segments → ℕ → Bool → Type 0
TakesPads M N x true = TakesEach M N (times (pads_of x))
TakesPads M N x false =
    PadsInside M x → (u : ℕ) × (q : ℕ) × (0 < times (pads_of x) u q) × (0 < word_at M u q)
