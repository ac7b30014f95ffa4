-- How many words of each section the elements of a list of structs use, and which sections a copy
-- keeps.
use Rattle.std.specs.Prelude.{ℕ, zero, suc, ◌+◌, ◌≤◌, List, take, drop, max}
use Rattle.capnp_words.specs.declared.wire_pointer.StructSize.{StructSize}
use Rattle.capnp_format.specs.Canonical.{used_words}
use Rattle.capnp_pointers.specs.Reading.{Reading, segment_read}
use Rattle.capnp_words.specs.Sizes.{sized}
use Rattle.capnp_pointers.specs.Wanted.{Form, canonical}

-- The most words, up to the last that isn't zero, that any of n sections uses. Each section has
-- `words` words; the first is at position p, and each next one `stride` words after it.
abbrev pub most_used : List ℕ → ℕ → ℕ → ℕ → ℕ → ℕ
most_used ws p words stride zero = 0
most_used ws p words stride (suc n) =
    max (used_words (take words (drop p ws))) (most_used ws (p + stride) words stride n)

-- No section of the size `less` is longer than that of `more`.
pub record IsAtMost (less more : StructSize) : Type 0 where
  pub data_words : less.data_words ≤ more.data_words
  pub pointers : less.pointers ≤ more.pointers

-- The sections that a copy in a form keeps of each of i elements from a place on: in canonical form
-- the least that lose nothing.
abbrev pub widths_kept : Form → Reading → StructSize → ℕ → StructSize
widths_kept canonical r size i =
    sized (most_used (segment_read r) r.at size.data_words (size.data_words + size.pointers) i)
    (most_used (segment_read r) (r.at + size.data_words) size.pointers
    (size.data_words + size.pointers) i)
widths_kept _ r size i = size
