-- Bytes are written as hex digits in pieces.
use Rattle.std.proofs.Common.{◌≡◌, ◌∙◌, ℕ, ◌-◌, ◌/◌, ◌%◌, List, [], ◌∷◌, ◌++◌, length, take, drop, slice_index, refl, sym, ap, arith, length-drop, take_all, take-append-drop}
use Rattle.hex.specs.Hex.{encode_lower, encode_with, lower_digits}

-- the digits of bytes in two parts are those of the parts, one after the other
digits_both : (xs ys : List ℕ) → encode_lower (xs ++ ys) ≡ encode_lower xs ++ encode_lower ys
unfolding encode_with
digits_both [] ys = refl
digits_both (x ∷ xs) ys =
    ap (λ (zs : List ℕ). slice_index lower_digits (x / 16) ∷ slice_index lower_digits (x % 16) ∷ zs) (digits_both xs ys)

pub digits_parted : (n : ℕ) (xs : List ℕ) →
    encode_lower xs ≡ encode_lower (take n xs) ++ encode_lower (take (length xs - n) (drop n xs))
digits_parted n xs =
    ap encode_lower (sym (take-append-drop n xs))
    ∙ digits_both (take n xs) (drop n xs)
    ∙ ap (λ (ys : List ℕ). encode_lower (take n xs) ++ encode_lower ys)
    (sym (take_all (length xs - n) (drop n xs) (omega (arith, length-drop n xs))))

pub no_digits : (xs : List ℕ) → length xs ≡ 0 → encode_lower xs ≡ []
unfolding encode_with
no_digits [] none = refl
no_digits (x ∷ xs) none = absurd (omega arith)
