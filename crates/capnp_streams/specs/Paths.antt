-- The text of a path to a part of a message: indexes between dots, each in decimal digits, with or
-- without brackets.
use Rattle.std.specs.Prelude.{◌≡◌, ℕ, ◌+◌, ◌-◌, ◌^◌, ◌<◌, min, ◌==◌, nat_lt, List, [], ◌∷◌, length, replicate, take}
use Rattle.std.specs.Prelude.{slice_index, slice_range, slice_set, Option, Some, None, Bool, ◌&&◌, if◌then◌else◌}
use Rattle.std.specs.Str.{all_ascii_digits}
use Rattle.std.specs.Str.Parse.{IsNumeral, digits_value}
use Rattle.capnp_streams.specs.declared.streams.path.Path.{Path}

-- The path without indexes.
abbrev pub no_path : Path
no_path = record { indexes = replicate 32 0; count = 0 }

-- The indexes of a path.
abbrev pub path_indexes : Path → List ℕ
path_indexes path = take (min path.count 32) path.indexes

-- Whether a path has no indexes, so that it leads to the whole message.
abbrev pub is_whole_path : Path → Bool
is_whole_path path = length (path_indexes path) == 0

-- The path with one more index; `None` if it has 32 already.
abbrev pub longer_path : ℕ → Path → Option Path
longer_path index path =
    if nat_lt path.count 32 then
    Some (record { indexes = slice_set path.indexes path.count index; count = path.count + 1 })
    else None

-- Whether a byte is a dot.
abbrev pub is_dot : ℕ → Bool
is_dot b = b == 46

abbrev pub with_byte_in_front : ℕ → List (List ℕ) → List (List ℕ)
with_byte_in_front b [] = (b ∷ []) ∷ []
with_byte_in_front b (part ∷ parts) = (b ∷ part) ∷ parts

-- The parts of a text between its dots.
abbrev pub parts_between_dots : List ℕ → List (List ℕ)
parts_between_dots [] = [] ∷ []
parts_between_dots (b ∷ text) =
    if is_dot b then [] ∷ parts_between_dots text
    else with_byte_in_front b (parts_between_dots text)

-- Whether a text is a `[`, more, and a `]`.
abbrev pub is_bracketed : List ℕ → Bool
is_bracketed text =
    nat_lt 1 (length text) && (slice_index text 0 == 91)
    && (slice_index text (length text - 1) == 93)

-- The text without the brackets around it, if there are any.
abbrev pub unbracketed : List ℕ → List ℕ
unbracketed text = if is_bracketed text then slice_range text 1 (length text - 1) else text

-- The text is the index n: decimal digits with a value below 2^32.
abbrev pub IsIndex : List ℕ → ℕ → Type 0
IsIndex text n = IsNumeral 10 text × (n ≡ digits_value 10 text) × (n < 2 ^ 32)

-- Whether a text is one or more decimal digits.
abbrev pub is_numeral : List ℕ → Bool
is_numeral text = nat_lt 0 (length text) && all_ascii_digits text

-- The index that decimal digits write.
abbrev pub number_of_index : List ℕ → Option ℕ
number_of_index text =
    if is_numeral text && nat_lt (digits_value 10 text) (2 ^ 32)
    then Some (digits_value 10 text) else None

-- The index that a text writes, with or without brackets.
abbrev pub index_of : List ℕ → Option ℕ
index_of text = number_of_index (unbracketed text)

abbrev pub path_on : Option Path → (Path → Option Path) → Option Path
path_on None more = None
path_on (Some path) more = more path

abbrev pub path_with : Option ℕ → Path → Option Path
path_with None path = None
path_with (Some index) path = longer_path index path

-- The path with the indexes that these texts write after its own.
abbrev pub path_with_parts : Path → List (List ℕ) → Option Path
path_with_parts path [] = Some path
path_with_parts path (part ∷ parts) =
    path_on (path_with (index_of part) path) (λ longer. path_with_parts longer parts)

-- The path that a text writes.
abbrev pub path_of : List ℕ → Option Path
path_of text = path_with_parts no_path (parts_between_dots text)
