-- What a read limiter holds, and what it grants.
use Rattle.std.specs.Prelude.{ℕ, Bool, true, false, Option, Some, None, ◌+◌, ◌-◌, ◌^◌, ◌≤◌, min, max, ⊤}

-- A budget of words, and the number of pointers followed so far ("Security Considerations").
pub record Meter : Type 0 where
  pub left : Option ℕ
  pub followed : ℕ

-- A limiter with this limit that has granted nothing.
abbrev pub unused : Option ℕ → Meter
unused limit = record { left = limit; followed = 0 }

-- A limit covers n words; without a limit, any number ("Security Considerations").
abbrev pub FitsIn : Option ℕ → ℕ → Type 0
FitsIn None n = ⊤
FitsIn (Some left) n = n ≤ left

-- What is left of a limit once n words are granted.
abbrev pub less : Option ℕ → ℕ → Option ℕ
less None n = None
less (Some left) n = Some (left - n)

-- The budget of m covers n words.
abbrev pub Allows : Meter → ℕ → Type 0
Allows m n = FitsIn m.left n

-- The limiter m once n words are granted.
abbrev pub spent : Meter → ℕ → Meter
spent m n = record m { left = less m.left n }

-- r more pointers than f, up to the greatest u64.
abbrev pub raised : ℕ → ℕ → ℕ
raised f r = max f (min (f + r) (2 ^ 64 - 1))

abbrev pub counted : Meter → Meter
counted m = record m { followed = raised m.followed 1 }

-- The limiter after a pointer was followed. It isn't counted if the arena doesn't charge.
abbrev pub counted_once : Bool → Meter → Meter
counted_once true m = record m { followed = raised m.followed 1 }
counted_once false m = m

-- The limiter grants n words, if the arena charges; otherwise this always holds.
abbrev pub Affords : Bool → Meter → ℕ → Type 0
Affords true m n = Allows m n
Affords false m n = ⊤

-- The limiter once an arena has requested n words.
abbrev pub charged : Bool → Meter → ℕ → Meter
charged true m n = record m { left = less m.left n }
charged false m n = m
