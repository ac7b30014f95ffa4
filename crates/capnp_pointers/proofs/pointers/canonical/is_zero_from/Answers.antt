use Rattle.std.proofs.Common.{◌≡◌, ◌↔◌, ℕ, zero, suc, replicate, ◌/◌, ◌^◌, ◌<◌, List, [], ◌∷◌, refl, sym, ap, ◌∙◌, arith}
use Rattle.std.specs.Int.{to_le_bytes, w64}
use Rattle.std.specs.List.{All}
use Rattle.std.proofs.lemmas.List.Elements.{All-nil, All-cons, All-head, All-tail, All-same}
use Rattle.std.proofs.Math.Nat.{div-le_self}
use Rattle.std.proofs.lemmas.Nat.{from_le_bytes-to_le_bytes_8}
use Rattle.capnp_format.specs.Numbers.{from_digits}
use Rattle.capnp_format.proofs.BytesLemmas.{eight_bytes}
use Rattle.capnp_pointers.proofs.pointers.canonical.is_zero_from.Goals as goal

abbrev IsZeroByte : ℕ → Type 0
IsZeroByte byte = byte ≡ 0

zero_digits : (xs : List ℕ) → All IsZeroByte xs → from_digits 256 xs ≡ 0
zero_digits [] h = refl
zero_digits (x ∷ xs) h = omega (arith, All-head IsZeroByte x xs h, zero_digits xs (All-tail IsZeroByte x xs h))

zeros : (n : ℕ) → All IsZeroByte (replicate n 0)
zeros zero = All-nil IsZeroByte
zeros (suc n) = All-cons IsZeroByte 0 (replicate n 0) refl (zeros n)

-- The bytes of a number are zero exactly if the number is.
zero_bytes : (n : ℕ) → n < 2 ^ 64 → All IsZeroByte (to_le_bytes w64 n) ↔ (n ≡ 0)
zero_bytes n small = (
  (λ h. sym (from_le_bytes-to_le_bytes_8 n small) ∙ eight_bytes (to_le_bytes w64 n) refl ∙ zero_digits (to_le_bytes w64 n) h),
  (λ e. All-same IsZeroByte (to_le_bytes w64 n) (to_le_bytes w64 0) (ap (to_le_bytes w64) e) (zeros 8)),
)

pub returns : goal.returns
returns c =
    let n : ℕ = c.args.word / 2 ^ c.args.position in
    let bytes : c.as_slice.result.now ≡ to_le_bytes w64 n = c.as_slice.ensures ∙ c.to_le_bytes.ensures in
    let f = zero_bytes n (omega (arith, div-le_self c.args.word (2 ^ c.args.position), c.ranges.word.fits)) in (
      (λ t. f.0 (All-same IsZeroByte (to_le_bytes w64 n) c.as_slice.result.now (sym bytes) (c.is_zero.ensures.0 t))),
      (λ e. c.is_zero.ensures.1 (All-same IsZeroByte c.as_slice.result.now (to_le_bytes w64 n) bytes (f.1 e))),
    )
