-- Signed numbers under a mask.
use Rattle.std.proofs.Common.{◌≡◌, ℕ, ◌^◌, ◌<◌, ℤ, to_z, of_z, ap, ◌∙◌, arith, bit_xor}
use Rattle.std.specs.Int.{Width, w8, w16, w32, w64, w128, int_bit_xor}
use Rattle.std.specs.Int.Bits.{xor_assoc, xor_self, xor_zero_r}
use Rattle.std.proofs.lemmas.Int.{ints, of_z-to_z, to_z-of_z}
use Rattle.std.proofs.lemmas.Nat.{xor_lt}
use mir.Val.{SFits, bits}

pub bits_below : (w : Width) (z : ℤ) → SFits w z → of_z w z < 2 ^ bits w
bits_below w8 z f = omega (arith, ints)
bits_below w16 z f = omega (arith, ints)
bits_below w32 z f = omega (arith, ints)
bits_below w64 z f = omega (arith, ints)
bits_below w128 z f = omega (arith, ints)

xor_again : (a b : ℕ) → bit_xor (bit_xor a b) b ≡ a
xor_again a b = xor_assoc a b b ∙ ap (bit_xor a) (xor_self b) ∙ xor_zero_r a

-- the bits of a masked number
pub int_xor_bits : (w : Width) (x m : ℤ) → SFits w x → SFits w m → of_z w (int_bit_xor w x m) ≡ bit_xor (of_z w x) (of_z w m)
int_xor_bits w x m f g = of_z-to_z w (bit_xor (of_z w x) (of_z w m)) (xor_lt (bits w) (of_z w x) (of_z w m) (bits_below w x f) (bits_below w m g))

-- applying a mask twice restores the number
pub int_xor_again : (w : Width) (x m : ℤ) → SFits w x → SFits w m → int_bit_xor w (int_bit_xor w x m) m ≡ x
int_xor_again w x m f g =
    ap (λ n. to_z w (bit_xor n (of_z w m))) (int_xor_bits w x m f g)
    ∙ ap (to_z w) (xor_again (of_z w x) (of_z w m))
    ∙ to_z-of_z w x f
