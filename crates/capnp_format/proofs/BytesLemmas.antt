-- Words as numbers, by their bytes, and one digit of a number.
use Rattle.std.proofs.Common.{◌≡◌, ℕ, zero, suc, ◌+◌, ◌*◌, ◌/◌, ◌%◌, ◌^◌, ◌<◌, List, [], ◌∷◌, length, get_or, refl, sym, ap, ap₂, ◌∙◌, arith, pow-suc, mul_comm}
use Rattle.std.proofs.Math.Nat.{pow-zero, div-div-eq-div-mul}
use Rattle.std.specs.Int.{from_le_bytes, w64}
use Rattle.capnp_format.specs.Numbers.{from_digits, digits}
use Rattle.capnp_format.specs.Bytes.{words_of}

-- the i-th digit
pub digit_at : (base n x i : ℕ) → i < n → get_or (digits base n x) i 0 ≡ x / base ^ i % base
digit_at base zero x i l = omega arith
digit_at base (suc n) x zero l = ap (λ y. y % base) (let e : x ≡ x / base ^ 0 = rw pow-zero (omega arith) in e)
digit_at base (suc n) x (suc i) l =
    digit_at base n (x / base) i (omega arith)
    ∙ ap (λ y. y % base) (div-div-eq-div-mul x base (base ^ i) ∙ ap (λ y. x / y) (mul_comm base (base ^ i) ∙ sym (pow-suc base i)))

-- the word of eight bytes has these as its digits
pub eight_bytes : (bs : List ℕ) → length bs ≡ 8 → from_le_bytes w64 bs ≡ from_digits 256 bs
eight_bytes (a ∷ b ∷ c ∷ d ∷ e ∷ f ∷ g ∷ h ∷ []) l = omega arith
eight_bytes _ l = absurd (omega arith)

-- the words as one number are the bytes as one number
pub words_are_bytes : (n : ℕ) (bytes : List ℕ) → length bytes ≡ 8 * n → from_digits (2 ^ 64) (words_of bytes) ≡ from_digits (2 ^ 8) bytes
words_are_bytes zero [] l = refl
words_are_bytes (suc n) (a ∷ b ∷ c ∷ d ∷ e ∷ f ∷ g ∷ h ∷ rest) l =
    let x = from_digits 256 rest in
    let grouped : from_digits 256 (a ∷ b ∷ c ∷ d ∷ e ∷ f ∷ g ∷ h ∷ []) + 2 ^ 64 * x ≡ a + 256 * (b + 256 * (c + 256 * (d + 256 * (e + 256 * (f + 256 * (g + 256 * (h + 256 * x))))))) = omega arith in
    ap₂ (λ x y. x + 2 ^ 64 * y) (eight_bytes (a ∷ b ∷ c ∷ d ∷ e ∷ f ∷ g ∷ h ∷ []) refl) (words_are_bytes n rest (omega arith)) ∙ grouped
words_are_bytes zero (x ∷ xs) l = absurd (omega arith)
words_are_bytes (suc n) _ l = absurd (omega arith)
