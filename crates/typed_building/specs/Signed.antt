-- The bits that a call stores for a number with a sign: those of two's complement
-- (`laws::bits_of_signed`). The call gets the number by its bits, so it is cast there and back.
use Rattle.std.specs.Prelude.{ℕ, ℤ}
use Rattle.std.specs.Int.{cast_signed, cast_unsigned, w8, w16, w32, w64}

abbrev pub int8_bits : ℤ → ℕ
int8_bits n = cast_unsigned w8 (cast_signed w8 (cast_unsigned w8 n))

abbrev pub int16_bits : ℤ → ℕ
int16_bits n = cast_unsigned w16 (cast_signed w16 (cast_unsigned w16 n))

abbrev pub int32_bits : ℤ → ℕ
int32_bits n = cast_unsigned w32 (cast_signed w32 (cast_unsigned w32 n))

abbrev pub int64_bits : ℤ → ℕ
int64_bits n = cast_unsigned w64 (cast_signed w64 (cast_unsigned w64 n))
