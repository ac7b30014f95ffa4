-- What the end of a path means, and how it is read and measured. For a pointer these are the
-- statements about its value, to which they reduce. The words of an element were charged with its
-- list: reading its value charges what its pointers' values cost.
use Rattle.std.specs.Prelude.{◌≡◌, ℕ, ◌+◌, ◌^◌, ◌<◌, ◌≤◌, List, length, ⊤}
use Rattle.capnp_words.specs.Meter.{Meter}
use Rattle.capnp_format.specs.Means.{MeansAll}
use Rattle.capnp_format.specs.Segments.{HasWords}
use Rattle.capnp_format.specs.Tree.{Tree, Trees, Struct, count}
use Rattle.capnp_pointers.specs.Metered.{Metered}
use Rattle.capnp_pointers.specs.Outcomes.{MeansThere, Reads, ReadsAll}
use Rattle.capnp_pointers.specs.Reading.{Reading, place_past, segment_read, words_from}
use Rattle.capnp_pointers.specs.Wanted.{canonical}
use Rattle.capnp_pointers.specs.Measure.{measure, measure_pointers, only_words}
use Rattle.capnp_pointers.specs.declared.pointers.sizes.MessageSize.{MessageSize}
use Rattle.capnp_copies.specs.Originals.{Original, sections_original, value_original}
use Rattle.capnp_messages.specs.Parts.{PathEnd, to_element, to_pointer}

-- An element of d data words and q pointers is at the place r: it is inside its segment, and its
-- sizes fit the fields of a tag.
pub record IsElementPlace (r : Reading) (d q : ℕ) : Type 0 where
  pub inside : r.at + (d + q) ≤ length (segment_read r)
  pub few_words : d < 2 ^ 16
  pub few_pointers : q < 2 ^ 16

-- The end of a path is inside the message.
abbrev pub IsEndThere : PathEnd → Type 0
IsEndThere (to_pointer r) = ⊤
IsEndThere (to_element r d q) = IsElementPlace r d q

-- The place of the pointer, or of the element's first word.
abbrev pub end_place : PathEnd → Reading
end_place (to_pointer r) = r
end_place (to_element r d q) = r

-- The words that were charged with the list of an element.
abbrev pub end_words : PathEnd → ℕ
end_words (to_pointer r) = 0
end_words (to_element r d q) = d + q

-- The end of a path means t, and reading it costs c words. An element is a struct.
abbrev pub EndMeans : PathEnd → Tree → ℕ → Type 0
EndMeans (to_pointer r) t c = MeansThere r t c
EndMeans (to_element r d q) t c =
    (ws : List ℕ) × (ts : Trees) × (t ≡ Struct ws ts) × (length ws ≡ d) × (count ts ≡ q)
    × HasWords r.segments r.segment r.at ws
    × MeansAll r.segments r.levels r.segment (r.at + d) ts c

-- What is copied of the end of a path.
abbrev pub end_original : PathEnd → Original Tree
end_original (to_pointer r) = value_original r
end_original (to_element r d q) = sections_original (words_from r d) (place_past r d) q

-- Reading the value t, which has no capabilities, takes the limiter from m to m'.
abbrev pub EndReads : PathEnd → Meter → Meter → Tree → Type 0
EndReads (to_pointer r) m m' t = Reads canonical r m m' t
EndReads (to_element r d q) m m' t =
    IsElementPlace r d q × ((ts : Trees) × (t ≡ Struct (words_from r d) ts) × (count ts ≡ q)
    × ReadsAll canonical (place_past r d) m m' ts)

-- The size of what is at the end of a path.
abbrev pub measure_end : PathEnd → Metered MessageSize
measure_end (to_pointer r) = measure r (only_words 0)
measure_end (to_element r d q) = measure_pointers q (place_past r d) (only_words (d + q))
