-- What a limiter has left after a copy.
use Rattle.std.specs.Prelude.{ℕ, ◌≤◌, Option, Some, None, ⊤}

-- A limit with `after` left has no more left than it had before.
abbrev pub IsLeftOf : Option ℕ → Option ℕ → Type 0
IsLeftOf None None = ⊤
IsLeftOf (Some after) (Some before) = after ≤ before
IsLeftOf _ _ = ⊥
