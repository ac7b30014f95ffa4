-- The digits of a number, and the number of digits.
use Rattle.std.proofs.Common.{◌≡◌, ℕ, zero, suc, ◌+◌, ◌*◌, ◌/◌, ◌%◌, ◌^◌, ◌<◌, List, [], ◌∷◌, length, refl, sym, ap, ap₂, ◌∙◌, arith, mul_comm, add_comm, mul-le-mul_left, pow-suc, div-lt_iff_lt-mul}
use Rattle.std.proofs.Math.Nat.{pow-zero, mod-add-div}
use Rattle.std.proofs.lemmas.Nat.{mod-mul-add, div-mul-add}
use Rattle.capnp_format.specs.Numbers.{from_digits, digits}
use Rattle.capnp_format.specs.Value.{AreBelow}

pub length-digits : (base n x : ℕ) → length (digits base n x) ≡ n
length-digits base zero x = refl
length-digits base (suc n) x = ap suc (length-digits base n (x / base))

pub low : (b d x : ℕ) → d < b → (d + b * x) % b ≡ d
low b d x l = ap (λ y. y % b) (add_comm d (b * x) ∙ ap (λ y. y + d) (mul_comm b x)) ∙ mod-mul-add x b d l

pub high : (b d x : ℕ) → d < b → (d + b * x) / b ≡ x
high b d x l = ap (λ y. y / b) (add_comm d (b * x) ∙ ap (λ y. y + d) (mul_comm b x)) ∙ div-mul-add x b d l

pub digits-from_digits : (base : ℕ) (ds : List ℕ) → AreBelow base ds → digits base (length ds) (from_digits base ds) ≡ ds
digits-from_digits base [] h = refl
digits-from_digits base (d ∷ ds) h =
    ap₂ (λ x y. x ∷ y) (low base d (from_digits base ds) h.0) (ap (digits base (length ds)) (high base d (from_digits base ds) h.0) ∙ digits-from_digits base ds h.1)

one_digit_more : (b d x y : ℕ) → d < b → x < y → d + b * x < y * b
one_digit_more b d x y l m = omega (arith, mul-le-mul_left b m)

pub from_digits-below : (base : ℕ) (ds : List ℕ) → AreBelow base ds → from_digits base ds < base ^ length ds
from_digits-below base [] h = rw pow-zero (omega arith)
from_digits-below base (d ∷ ds) h = rw (pow-suc base (length ds)) (one_digit_more base d (from_digits base ds) (base ^ length ds) h.0 (from_digits-below base ds h.1))

pub from_digits-digits : (base n x : ℕ) → 0 < base → x < base ^ n → from_digits base (digits base n x) ≡ x
from_digits-digits base zero x h l = let m : x < 1 = rw pow-zero at l in omega arith
from_digits-digits base (suc n) x h l =
    ap (λ y. x % base + base * y) (from_digits-digits base n (x / base) h ((div-lt_iff_lt-mul h).1 (rw (pow-suc base n) at l))) ∙ mod-add-div x base

-- words that are read as elements, with zeros after them, are packed again into the same words
pub digits_again : (base n : ℕ) (xs : List ℕ) → AreBelow base xs → length xs ≡ n → digits base n (from_digits base xs) ≡ xs
digits_again base n xs h e = ap (λ m. digits base m (from_digits base xs)) (sym e) ∙ digits-from_digits base xs h
