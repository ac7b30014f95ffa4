-- The table of the schema.
use Rattle.std.specs.Prelude.{ℕ, List, ◌∷◌, []}

abbrev pub schema_table : List ℕ
schema_table = 0 ∷ 1 ∷ 63 ∷ 4 ∷ 3 ∷ 3 ∷ 271 ∷ 135 ∷ 2 ∷ 1 ∷ 3 ∷ 199 ∷ 2 ∷ 2 ∷ 3 ∷ 0 ∷ 1 ∷ 3 ∷ []
