-- Numbers and bits in words: read, and replaced by others. The bits of words are counted from the
-- first word's lowest bit.
use Rattle.std.specs.Prelude.{ℕ, ◌+◌, ◌*◌, ◌/◌, ◌%◌, ◌^◌, List, get_or, slice_set}

-- The number x with v in place of its w bits from bit o on.
abbrev pub with_bits : ℕ → ℕ → ℕ → ℕ → ℕ
with_bits x o w v = x % 2 ^ o + 2 ^ o * (v + 2 ^ w * (x / 2 ^ (o + w)))

-- The words ws with v in place of their w bits from bit b on, which are in one word.
abbrev pub put_field : List ℕ → ℕ → ℕ → ℕ → List ℕ
put_field ws b w v = slice_set ws (b / 64) (with_bits (get_or ws (b / 64) 0) (b % 64) w v)

-- The w bits of the words ws from bit b on, which are in one word.
abbrev pub field_in : List ℕ → ℕ → ℕ → ℕ
field_in ws b w = get_or ws (b / 64) 0 / 2 ^ (b % 64) % 2 ^ w
