-- What writing leaves of the segments of a message.
use Rattle.std.specs.Prelude.{ℕ, List, ◌++◌, length, take, drop, slice_set}
use Rattle.capnp_format.specs.Segments.{Segments, segment}
use Rattle.capnp_arena_traits.specs.View.{View}

-- S with ws as the words of segment s.
abbrev pub with_segment : Segments → ℕ → List ℕ → Segments
with_segment S s ws = slice_set S s ws

-- xs with the words ws over those from position p on.
abbrev pub overwritten : List ℕ → ℕ → List ℕ → List ℕ
overwritten xs p ws = take p xs ++ (ws ++ drop (length ws) (drop p xs))

-- xs with n words of ys, from position q on, over those from position p on.
abbrev pub with_copied : List ℕ → ℕ → List ℕ → ℕ → ℕ → List ℕ
with_copied xs p ys q n = overwritten xs p (take n (drop q ys))

-- S with the word x at (s, p).
abbrev pub with_word : Segments → ℕ → ℕ → ℕ → Segments
with_word S s p x = with_segment S s (slice_set (segment S s) p x)

abbrev pub with_words : Segments → ℕ → ℕ → List ℕ → Segments
with_words S s p ws = with_segment S s (overwritten (segment S s) p ws)

-- S with ws appended to segment s.
abbrev pub extended : Segments → ℕ → List ℕ → Segments
extended S s ws = with_segment S s (segment S s ++ ws)

-- xs with the first n elements of ws over its first elements.
abbrev pub with_front : ℕ → List ℕ → List ℕ → List ℕ
with_front n xs ws = take n ws ++ drop (length (take n ws)) xs

-- The arena with ws appended to segment s, and nothing else changed.
abbrev pub with_more : View → ℕ → List ℕ → View
with_more v s ws = record v { words = extended v.words s ws }
