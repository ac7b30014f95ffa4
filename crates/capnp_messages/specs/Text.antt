-- How the arguments of a command write the limits of a reader, and what is printed about a message.
use Rattle.std.specs.Prelude.{◌≡◌, ℕ, ℤ, pos, neg_ℤ, ◌<◌, ◌^◌, if◌then◌else◌, List, [], ◌∷◌, ◌++◌, drop}
use Rattle.std.specs.Prelude.{Bool, true, false, codes, Option, Some, None}
use mir.Val.{SFits as FitsSigned}
use mir.Syntax.{w32}
use Rattle.std.specs.Fmt.{decimal}
use Rattle.std.specs.Str.Parse.{IsNumeral, digits_value, starts_with_minus}
use Rattle.capnp_pointers.specs.declared.pointers.validate.Extent.{Extent}

-- The text of the nesting limit n: an optional '-' and one or more decimal digits, with a value of
-- i32.
abbrev pub IsNesting : List ℕ → ℤ → Type 0
IsNesting text n =
    let digits = if starts_with_minus text then drop 1 text else text in
    let value = pos (digits_value 10 digits) in
    IsNumeral 10 digits ×
    (n ≡ (if starts_with_minus text then neg_ℤ value else value)) × FitsSigned w32 n

-- The text of a traversal limit in words: one or more decimal digits with a value below 2^64, or
-- the word `none`.
abbrev pub IsBudget : List ℕ → Option ℕ → Type 0
IsBudget text None = text ≡ codes "none"
IsBudget text (Some n) = IsNumeral 10 text × (n ≡ digits_value 10 text) × (n < 2 ^ 64)

-- The line that answers whether a message is canonical.
abbrev pub check_line : Bool → List ℕ
check_line true = codes "canonical" ++ 10 ∷ []
check_line false = codes "not canonical" ++ 10 ∷ []

-- The line that answers with a size, in decimal digits.
abbrev pub size_line : ℕ → ℕ → List ℕ
size_line words caps = codes "words " ++ decimal words ++ codes " caps " ++ decimal caps ++ 10 ∷ []

-- The line that answers that a message is sound, with the extent of its value in decimal digits.
abbrev pub extent_line : Extent → List ℕ
extent_line x =
    codes "sound: depth " ++ decimal x.depth ++ codes ", words " ++ decimal x.words
    ++ codes ", capabilities " ++ decimal x.capabilities ++ 10 ∷ []
