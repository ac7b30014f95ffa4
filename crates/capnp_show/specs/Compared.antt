-- How the lines of two values are compared.
use Rattle.std.specs.Prelude.{◌≡◌, ◌↔◌, ◌++◌, codes, Option, Result, IsNone, MatchResult}
use Rattle.capnp_format.specs.Tree.{Tree}
use Rattle.capnp_show.specs.Line.{value_line}
use Rattle.capnp_show.specs.ShownParts.{HasShortLine}
use Rattle.capnp_show.specs.declared.show.compare.CompareFault.{CompareFault}
use Rattle.capnp_show.specs.declared.show.compare.CompareFault.TheVariants.{TooLong}
use Rattle.capnp_show.specs.declared.show.compare.Difference.{Difference}
use Rattle.capnp_show.specs.declared.show.json.Json.{Json}

-- The line of t is written; or that is refused, as `TooLong` only if the line is.
abbrev pub HasLineOf : Result Json CompareFault → Tree → Type 0
HasLineOf result t =
    MatchResult result (λ json. json.text.bytes.items ≡ value_line t ++ codes "\n")
    (λ e. e ≡ TooLong → HasShortLine t → ⊥)

-- The lines of t and u have no difference exactly if they are equal; or comparing them is refused,
-- as `TooLong` only if one of them is.
abbrev pub ComparesLines : Result (Option Difference) CompareFault → Tree → Tree → Type 0
ComparesLines result t u =
    MatchResult result (λ found. IsNone found ↔ (value_line t ≡ value_line u))
    (λ e. e ≡ TooLong → HasShortLine t → HasShortLine u → ⊥)
