-- Pointer words composed from their fields, and offsets.
use Rattle.std.proofs.Common.{◌≡◌, ℕ, suc, ◌+◌, ◌*◌, ◌%◌, ◌^◌, ◌<◌, ◌≤◌, ℤ, pos, negsuc, ◌+ℤ◌, ◌-ℤ◌, to_z, of_z, ap, ap₂, ◌∙◌, arith}
use Rattle.std.specs.Int.{w32, w64}
use Rattle.std.proofs.lemmas.Int.{ints}
use Rattle.std.proofs.lemmas.Nat.{or_comm, or_shifted, shl_whole}
use Rattle.capnp_format.specs.Canonical.{offset_to, Reaches}
use Rattle.capnp_format.specs.Word.{signed, offset_bits, offset_field, IsOffset}
use Rattle.capnp_words.specs.PointerWords.{DescribesStruct, DescribesList}
use Rattle.capnp_words.specs.declared.wire_pointer.StructSize.{StructSize}
use lib.Bits.{bit_or}

-- two halves
pub halves : (low upper : ℕ) → low < 2 ^ 32 → upper < 2 ^ 32 → bit_or low (upper * 2 ^ 32 % 2 ^ 64) ≡ low + 2 ^ 32 * upper
halves low upper l m =
    ap (bit_or low) (shl_whole upper 32 32 64 m (omega arith))
    ∙ or_comm low (upper * 2 ^ 32)
    ∙ or_shifted upper 32 low l
    ∙ (let e : upper * 2 ^ 32 + low ≡ low + 2 ^ 32 * upper = omega arith in e)

-- lower bits next to a number that is shifted past them
pub beside : (n k m : ℕ) (low : ℕ) → n < 2 ^ m → m + k ≤ 64 → low < 2 ^ k → bit_or (n * 2 ^ k % 2 ^ 64) low ≡ n * 2 ^ k + low
beside n k m low l fits small = ap (λ x. bit_or x low) (shl_whole n m k 64 l fits) ∙ or_shifted n k low small

pub described_struct : (bits low upper : ℕ) (size : StructSize) → low ≡ bits → bits < 2 ^ 30 → size.data_words < 2 ^ 16 → upper ≡ size.data_words + 2 ^ 16 * size.pointers → upper < 2 ^ 32 → DescribesStruct (bit_or (low * 4 % 2 ^ 64) (upper * 2 ^ 32 % 2 ^ 64)) bits size
described_struct bits low upper size same few narrow is small =
    let d : ℕ = size.data_words in
    let q : ℕ = size.pointers in
    let e : bit_or (low * 4 % 2 ^ 64) (upper * 2 ^ 32 % 2 ^ 64) ≡ 4 * bits + 2 ^ 32 * d + 2 ^ 48 * q = halves (low * 4 % 2 ^ 64) upper (omega arith) small ∙ omega arith in
    record { word = e; kind_of = omega (arith, e); bits_of = omega (arith, e); data_of = omega (arith, e); pointers_of = omega (arith, e) }

pub described_list : (bits low many code : ℕ) (offset : ℤ) (size count : ℕ) → low ≡ bits → bits < 2 ^ 30 → bits ≡ offset_field offset → signed bits ≡ offset → many ≡ count → count < 2 ^ 29 → code ≡ size → code < 8 → DescribesList (bit_or (bit_or (low * 4 % 2 ^ 64) 1) (bit_or (many * 8 % 2 ^ 64) code * 2 ^ 32 % 2 ^ 64)) offset size count
described_list bits low many code offset size count same few is again all fits coded small =
    let lower : bit_or (low * 4 % 2 ^ 64) 1 ≡ low * 4 + 1 = beside low 2 30 1 (omega arith) (omega arith) (omega arith) in
    let upper : bit_or (many * 8 % 2 ^ 64) code ≡ many * 8 + code = beside many 3 29 code (omega arith) (omega arith) small in
    let e : bit_or (bit_or (low * 4 % 2 ^ 64) 1) (bit_or (many * 8 % 2 ^ 64) code * 2 ^ 32 % 2 ^ 64) ≡ 1 + 4 * bits + 2 ^ 32 * size + 2 ^ 35 * count =
    ap₂ (λ a b. bit_or a (b * 2 ^ 32 % 2 ^ 64)) lower upper ∙ halves (low * 4 + 1) (many * 8 + code) (omega arith) (omega arith) ∙ omega arith in
    let in_place : offset_bits (bit_or (bit_or (low * 4 % 2 ^ 64) 1) (bit_or (many * 8 % 2 ^ 64) code * 2 ^ 32 % 2 ^ 64)) ≡ bits = omega (arith, e) in
    record {
      word = e ∙ ap (λ b. 1 + 4 * b + 2 ^ 32 * size + 2 ^ 35 * count) is;
      kind_of = omega (arith, e);
      offset_of = ap signed in_place ∙ again;
      size_of = omega (arith, e);
      count_of = omega (arith, e);
    }

-- the 30 bits of an offset
pub offset_masked : (z : ℤ) → IsOffset z → of_z w32 z % 2 ^ 30 ≡ offset_field z
offset_masked (pos n) l = omega arith
offset_masked (negsuc n) l = omega arith

pub offset_small : (z : ℤ) → IsOffset z → offset_field z < 2 ^ 30
offset_small (pos n) l = omega arith
offset_small (negsuc n) l = omega arith

-- the offset between two positions, and how it is computed
abbrev pub apart : ℤ → ℤ → ℤ
apart a b = to_z w32 (of_z w32 (to_z w64 (of_z w64 (to_z w64 (of_z w64 (to_z w64 (of_z w64 a) -ℤ to_z w64 (of_z w64 b))) -ℤ pos 1))))

pub apart_by : (position target : ℕ) (a b : ℤ) → a ≡ pos target → b ≡ pos position → position < 2 ^ 32 → target < 2 ^ 32 → Reaches position target → pos target ≡ pos (position + 1) +ℤ apart a b
apart_by position target a b e f l m r = omega (arith, ints)

pub record Between (position target : ℕ) (offset : ℤ) : Type 0 where
  pub bits : offset_field offset ≡ offset_to position target
  pub near : IsOffset offset

pub between : (position target : ℕ) (offset : ℤ) → Reaches position target → pos target ≡ pos (position + 1) +ℤ offset → Between position target offset
between position target (pos n) r e =
    let far : target ≡ position + 1 + n = omega (arith, ints, e) in
    record { bits = omega arith; near = omega arith }
between position target (negsuc n) r e =
    let far : target + suc n ≡ position + 1 = omega (arith, ints, e) in
    record { bits = omega arith; near = omega arith }
