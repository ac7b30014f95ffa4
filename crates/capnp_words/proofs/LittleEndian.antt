-- Little-endian bytes as the digits of a number.
use Rattle.std.proofs.Common.{◌≡◌, ℕ, ◌^◌, ◌<◌, ℤ, to_z, of_z, List, [], ◌∷◌, length, set, get_or, refl, sym, ap, ◌∙◌, arith}
use Rattle.std.specs.Int.{Width, w8, w16, w32, w64, from_le_bytes, to_le_bytes}
use Rattle.std.proofs.lemmas.Int.{of_z-to_z, to_z-of_z}
use Rattle.std.proofs.lemmas.Nat.{le_bytes_2, le_bytes_4, le_bytes_8, from_le_bytes-to_le_bytes_2, from_le_bytes-to_le_bytes_4, from_le_bytes-to_le_bytes_8}
use Rattle.capnp_format.specs.Numbers.{from_digits}
use Rattle.capnp_format.proofs.BytesLemmas.{eight_bytes}
use mir.Val.{SFits, bits}

pub one_byte : (bs : List ℕ) → length bs ≡ 1 → from_le_bytes w8 bs ≡ from_digits 256 bs
one_byte (a ∷ []) l = omega arith
one_byte _ l = absurd (omega arith)

pub two_bytes : (bs : List ℕ) → length bs ≡ 2 → from_le_bytes w16 bs ≡ from_digits 256 bs
two_bytes (a ∷ b ∷ []) l = omega arith
two_bytes _ l = absurd (omega arith)

pub four_bytes : (bs : List ℕ) → length bs ≡ 4 → from_le_bytes w32 bs ≡ from_digits 256 bs
four_bytes (a ∷ b ∷ c ∷ d ∷ []) l = omega arith
four_bytes _ l = absurd (omega arith)

-- one byte written
pub one_written : (bs : List ℕ) (x : ℕ) → length bs ≡ 1 → from_digits 256 (set bs 0 x) ≡ x
one_written (a ∷ []) x l = omega arith
one_written _ x l = absurd (omega arith)

pub one_set : (bs : List ℕ) (x : ℕ) → length bs ≡ 1 → set bs 0 x ≡ x ∷ []
one_set (a ∷ []) x l = refl
one_set _ x l = absurd (omega arith)

pub ruleset little_endian = (one_byte, two_bytes, four_bytes, eight_bytes, one_written)

-- what reading the bytes bs with width w shows
pub record Read (w : Width) (bs : List ℕ) : Type 0 where
  pub again : to_le_bytes w (from_le_bytes w bs) ≡ bs
  pub number : from_le_bytes w bs ≡ from_digits 256 bs
  pub below : from_le_bytes w bs < 2 ^ bits w

pub read_1 : (bs : List ℕ) → length bs ≡ 1 → ((i : ℕ) → get_or bs i 0 < 256) → Read w8 bs
read_1 (a ∷ []) l small = record { again = ap (λ x. x ∷ []) (omega (arith, small 0)); number = omega arith; below = omega (arith, small 0) }
read_1 _ l small = absurd (omega arith)

pub read_2 : (bs : List ℕ) → length bs ≡ 2 → ((i : ℕ) → get_or bs i 0 < 256) → Read w16 bs
read_2 bs l small = record { again = le_bytes_2 bs _ l small refl; number = two_bytes bs l; below = omega (arith, small 0, small 1) }

pub read_4 : (bs : List ℕ) → length bs ≡ 4 → ((i : ℕ) → get_or bs i 0 < 256) → Read w32 bs
read_4 bs l small = record { again = le_bytes_4 bs _ l small refl; number = four_bytes bs l; below = omega (arith, small 0, small 1, small 2, small 3) }

pub read_8 : (bs : List ℕ) → length bs ≡ 8 → ((i : ℕ) → get_or bs i 0 < 256) → Read w64 bs
read_8 bs l small = record { again = le_bytes_8 bs _ l small refl; number = eight_bytes bs l; below = omega (arith, small 0, small 1, small 2, small 3, small 4, small 5, small 6, small 7) }

-- what writing the number n with width w shows
pub record Written (w : Width) (n : ℕ) : Type 0 where
  pub again : from_le_bytes w (to_le_bytes w n) ≡ n
  pub number : from_digits 256 (to_le_bytes w n) ≡ n

pub written_1 : (n : ℕ) → n < 2 ^ 8 → Written w8 n
written_1 n l = record { again = omega arith; number = omega arith }

pub written_2 : (n : ℕ) → n < 2 ^ 16 → Written w16 n
written_2 n l =
    let e = from_le_bytes-to_le_bytes_2 n l in
    record { again = e; number = sym (two_bytes (to_le_bytes w16 n) refl) ∙ e }

pub written_4 : (n : ℕ) → n < 2 ^ 32 → Written w32 n
written_4 n l =
    let e = from_le_bytes-to_le_bytes_4 n l in
    record { again = e; number = sym (four_bytes (to_le_bytes w32 n) refl) ∙ e }

pub written_8 : (n : ℕ) → n < 2 ^ 64 → Written w64 n
written_8 n l =
    let e = from_le_bytes-to_le_bytes_8 n l in
    record { again = e; number = sym (eight_bytes (to_le_bytes w64 n) refl) ∙ e }

-- a signed number that is read from bits
pub signed_value : (w : Width) (z : ℤ) (n : ℕ) → z ≡ to_z w n → n < 2 ^ bits w → to_z w (of_z w z) ≡ to_z w n
signed_value w z n e l = ap (λ y. to_z w (of_z w y)) e ∙ ap (to_z w) (of_z-to_z w n l)

pub signed_bits : (w : Width) (z : ℤ) (n : ℕ) → z ≡ to_z w n → n < 2 ^ bits w → of_z w (to_z w (of_z w z)) ≡ n
signed_bits w z n e l = ap (of_z w) (signed_value w z n e l) ∙ of_z-to_z w n l

-- the bits of a signed number that is passed on
pub passed_bits : (w : Width) (z : ℤ) → SFits w z → of_z w (to_z w (of_z w z)) ≡ of_z w z
passed_bits w z f = ap (of_z w) (to_z-of_z w z f)
