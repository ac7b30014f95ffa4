-- How the elements of a list are packed into words ("Lists"). Read the list's words as one number,
-- the lowest first: its digits of 1, 8, 16, 32 or 64 bits, again the lowest first, are the
-- elements. So the first element is in the lowest bits of the first word, and what is left of the
-- last word is padding.
use Rattle.std.specs.Prelude.{ℕ, zero, suc, ◌+◌, ◌*◌, ◌/◌, ◌%◌, ◌^◌, List, [], ◌∷◌, get_or, length}

-- The number with these digits in this base, the lowest first ("Lists").
abbrev pub from_digits : ℕ → List ℕ → ℕ
from_digits base [] = 0
from_digits base (d ∷ ds) = d + base * from_digits base ds

-- The lowest n digits of x in this base, the lowest first ("Lists").
abbrev pub digits : ℕ → ℕ → ℕ → List ℕ
digits base zero x = []
digits base (suc n) x = x % base ∷ digits base n (x / base)

-- The number of bits of an element, by the element size's number; 0 for void and for sizes that
-- aren't flat ("Lists").
abbrev pub element_bits : ℕ → ℕ
element_bits size = get_or (0 ∷ 1 ∷ 8 ∷ 16 ∷ 32 ∷ 64 ∷ []) size 0

-- The least number of whole words that holds n elements ("Lists").
abbrev pub words_for : ℕ → ℕ → ℕ
words_for size n = (n * element_bits size + 63) / 64

-- The n elements that the words ws hold. The padding after them is ignored ("Lists").
abbrev pub unpacked : ℕ → ℕ → List ℕ → List ℕ
unpacked size n ws = digits (2 ^ element_bits size) n (from_digits (2 ^ 64) ws)

-- The words that hold the elements ns, with zero padding ("Lists", "Canonicalization").
abbrev pub packed : ℕ → List ℕ → List ℕ
packed size ns = digits (2 ^ 64) (words_for size (length ns)) (from_digits (2 ^ element_bits size) ns)
