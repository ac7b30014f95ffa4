-- The segments that the program's input holds: one line for each, in pairs of hex digits in either
-- case.
use Rattle.std.specs.Prelude.{ℕ, List, [], ◌∷◌, if◌then◌else◌, ◌==◌, Option, Some, None, Result, Ok, Err}
use Rattle.hex.specs.Hex.{decode_of}
use Rattle.hex.specs.declared.error.FromHexError.{FromHexError}

-- Adds a byte to the front of the first line.
abbrev pub onto_line : ℕ → List (List ℕ) → List (List ℕ)
onto_line c [] = (c ∷ []) ∷ []
onto_line c (line ∷ lines) = (c ∷ line) ∷ lines

-- The lines of a text, which is split at line feeds. Bytes after the last line feed, if any, are
-- one more line.
unfoldable pub lines_of : List ℕ → List (List ℕ)
lines_of [] = []
lines_of (c ∷ text) = if c == 10 then [] ∷ lines_of text else onto_line c (lines_of text)

-- A segment, and the segments after it.
abbrev pub onto_segments : Result (List ℕ) FromHexError → Option (List (List ℕ)) → Option (List (List ℕ))
onto_segments (Ok segment) (Some segments) = Some (segment ∷ segments)
onto_segments (Ok segment) None = None
onto_segments (Err e) segments = None

-- The segments of lines of pairs of hex digits in either case; None if a line has anything else.
unfoldable pub segments_of_lines : List (List ℕ) → Option (List (List ℕ))
segments_of_lines [] = Some []
segments_of_lines (line ∷ lines) = onto_segments (decode_of line) (segments_of_lines lines)

-- The bytes of the segments that a text holds.
abbrev pub segments_of : List ℕ → Option (List (List ℕ))
segments_of text = segments_of_lines (lines_of text)
