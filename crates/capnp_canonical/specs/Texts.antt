-- The texts that C gets for numbers.
use Rattle.std.specs.Prelude.{◌≡◌, Bool, false, ◌&&◌, nat_eq, nat_lt, zero, suc, ℕ, ◌+◌, ◌-◌, ◌<◌, List, [], ◌∷◌, ◌++◌, length, min, take, drop}

-- The text is that of each item with this number; it is empty if there is none.
abbrev pub IsTextOf : {X : Type 0} → (X → ℕ) → (X → List ℕ) → ℕ → List ℕ → Type 0
IsTextOf {X} number_of text_of number text =
    ((x : X) → number_of x ≡ number → text ≡ text_of x)
    × (((x : X) → number_of x ≡ number → ⊥) → text ≡ [])

-- How much of a text there is room for, with a zero after it.
abbrev pub fitting : List ℕ → ℕ → ℕ
fitting text room = min (length text) (room - 1)

-- The text is written over the front of the bytes, cut to the room, with a zero after it.
abbrev pub PutsText : List ℕ → List ℕ → List ℕ → Type 0
PutsText text old new =
    let n = fitting text (length old) in
    0 < length old → new ≡ take n text ++ (0 ∷ drop (1 + n) old)

-- The bytes are a text for C: some that aren't zero, and then a zero.
abbrev pub ends_with_zero : List ℕ → Bool
ends_with_zero [] = false
ends_with_zero (zero ∷ bytes) = nat_eq (length bytes) 0
ends_with_zero (suc b ∷ bytes) = ends_with_zero bytes

abbrev pub is_c_string : List ℕ → Bool
is_c_string bytes = nat_lt 1 (length bytes) && ends_with_zero bytes
