-- The levels that a nesting limit allows, and the segments of a default.
use Rattle.std.specs.Prelude.{ℕ, ℤ, pos, negsuc, List, [], ◌∷◌, ◌++◌, ◌^◌, replicate}
use Rattle.capnp_format.specs.Segments.{Segments}
use Rattle.capnp_format.specs.Bytes.{words_of}

-- The number of levels that a nesting limit allows: 0 if it is below zero ("Security
-- Considerations").
abbrev pub levels : ℤ → ℕ
levels (pos n) = n
levels (negsuc n) = 0

-- The segment of a default: its number is beyond those that a far pointer can name.
abbrev pub default_segment : ℕ
default_segment = 2 ^ 32

-- A default, after 2^32 empty segments, so that no far pointer leads into it.
unfoldable pub default_segments : List ℕ → Segments
default_segments bytes = replicate default_segment [] ++ words_of bytes ∷ []
