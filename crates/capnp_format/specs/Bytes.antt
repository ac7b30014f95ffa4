-- The words of bytes: a word is eight bytes, the lowest first ("Messages").
use Rattle.std.specs.Prelude.{ℕ, List, [], ◌∷◌, map}
use Rattle.std.specs.Int.{from_le_bytes, w64}
use Rattle.capnp_format.specs.Segments.{Segments}

-- The whole words of the bytes. Up to seven bytes after the last whole word are ignored
-- ("Messages").
abbrev pub words_of : List ℕ → List ℕ
words_of (a ∷ b ∷ c ∷ d ∷ e ∷ f ∷ g ∷ h ∷ rest) =
    from_le_bytes w64 (a ∷ b ∷ c ∷ d ∷ e ∷ f ∷ g ∷ h ∷ []) ∷ words_of rest
words_of _ = []

-- The message whose segments have these bytes ("Messages").
abbrev pub message : List (List ℕ) → Segments
message segments = map words_of segments
