-- The bits of a number after some of them were replaced.
use Rattle.std.proofs.Common.{◌≡◌, ◌≢◌, inl, inr, ℕ, ◌+◌, ◌-◌, ◌*◌, ◌/◌, ◌%◌, ◌^◌, ◌<◌, ◌≤◌, bit_and, bit_or, w8, sym, ap, ◌∙◌, subst, arith}
use Rattle.std.proofs.lemmas.Bool.{cases_lt}
use Rattle.std.proofs.lemmas.Nat.{mod_below, pow_pos, and_le_l}
use Rattle.std.proofs.lemmas.Nat.Bits.{bit_at_cat_low, bit_at_cat_high, bit_at_above, same_from_bits, bit_at_set_same, bit_at_set_other, bit_at_clear_same, bit_at_clear_other}
use Rattle.std.specs.Int.{bit_at}
use Rattle.capnp_format.specs.Fields.{with_bits}
use Rattle.capnp_format.proofs.FieldBytes.{bit_at-mod, bit_at-div}

pub bit_at-mod_past : (x o i : ℕ) → o ≤ i → bit_at (x % 2 ^ o) i ≡ 0
bit_at-mod_past x o i l = bit_at_above (x % 2 ^ o) o i (mod_below x (2 ^ o) (pow_pos o)) l

-- y is x, with the w bits from bit o on replaced by those of v.
pub record HasBits (x y o w v : ℕ) : Type 0 where
  pub before : (i : ℕ) → i < o → bit_at y i ≡ bit_at x i
  pub inside : (i : ℕ) → i < w → bit_at y (o + i) ≡ bit_at v i
  pub behind : (i : ℕ) → bit_at y (o + w + i) ≡ bit_at x (o + w + i)

turned : (a p b : ℕ) → a + p * b ≡ b * p + a
turned a p b = omega arith

pub cat_low : (a k b i : ℕ) → i < k → bit_at (b + 2 ^ k * a) i ≡ bit_at b i
cat_low a k b i l = ap (λ z. bit_at z i) (turned b (2 ^ k) a) ∙ bit_at_cat_low a k b i l

pub cat_high : (a k b i : ℕ) → b < 2 ^ k → bit_at (b + 2 ^ k * a) (k + i) ≡ bit_at a i
cat_high a k b i l = ap (λ z. bit_at z (k + i)) (turned b (2 ^ k) a) ∙ bit_at_cat_high a k b (k + i) l (omega arith) ∙ ap (bit_at a) (let q : k + i - k ≡ i = omega arith in q)

pub has_bits : (x o w v : ℕ) → v < 2 ^ w → HasBits x (with_bits x o w v) o w v
has_bits x o w v l =
    let rest : ℕ = x / 2 ^ (o + w) in
    let lowest : x % 2 ^ o < 2 ^ o = mod_below x (2 ^ o) (pow_pos o) in
    record {
      before = λ i h. cat_low (v + 2 ^ w * rest) o (x % 2 ^ o) i h ∙ bit_at-mod x o i h;
      inside = λ i h. cat_high (v + 2 ^ w * rest) o (x % 2 ^ o) i lowest ∙ cat_low rest w v i h;
      behind = λ i. ap (bit_at (with_bits x o w v)) (let q : o + w + i ≡ o + (w + i) = omega arith in q) ∙ cat_high (v + 2 ^ w * rest) o (x % 2 ^ o) (w + i) lowest ∙ cat_high rest w v i l ∙ bit_at-div x (o + w) i;
    }

-- There is only one such number.
pub same_number : {x o w v : ℕ} (y z : ℕ) → HasBits x y o w v → HasBits x z o w v → y ≡ z
same_number {x = x} {o = o} {w = w} {v = v} y z a b = same_from_bits y z bits
  where
    bits : (i : ℕ) → bit_at y i ≡ bit_at z i
    bits i = elim (cases_lt i o) [
      | inl l ↦ a.before i l ∙ sym (b.before i l)
      | inr l ↦ elim (cases_lt i (o + w)) [
        | inl m ↦ (let e : i ≡ o + (i - o) = omega arith in ap (bit_at y) e ∙ a.inside (i - o) (omega arith) ∙ sym (b.inside (i - o) (omega arith)) ∙ ap (bit_at z) (sym e))
        | inr m ↦ (let e : i ≡ o + w + (i - (o + w)) = omega arith in ap (bit_at y) e ∙ a.behind (i - (o + w)) ∙ sym (b.behind (i - (o + w))) ∙ ap (bit_at z) (sym e))
      ]
    ]

pub is_with_bits : (x y o w v : ℕ) → v < 2 ^ w → HasBits x y o w v → y ≡ with_bits x o w v
is_with_bits x y o w v l h = same_number y (with_bits x o w v) h (has_bits x o w v l)

below_from_bits : (y w : ℕ) → ((i : ℕ) → bit_at y (w + i) ≡ 0) → y < 2 ^ w
below_from_bits y w h = subst (λ z. z < 2 ^ w) (same_from_bits (y % 2 ^ w) y bits) (mod_below y (2 ^ w) (pow_pos w))
  where
    bits : (i : ℕ) → bit_at (y % 2 ^ w) i ≡ bit_at y i
    bits i = elim (cases_lt i w) [
      | inl l ↦ bit_at-mod y w i l
      | inr l ↦ (let e : i ≡ w + (i - w) = omega arith in bit_at-mod_past y w i l ∙ sym (h (i - w)) ∙ ap (bit_at y) (sym e))
    ]

pub with_bits-below : (x o w v k : ℕ) → v < 2 ^ w → o + w ≤ k → x < 2 ^ k → with_bits x o w v < 2 ^ k
with_bits-below x o w v k l m s =
    let h = has_bits x o w v l in
    below_from_bits (with_bits x o w v) k (λ i.
    let e : k + i ≡ o + w + (k + i - (o + w)) = omega arith in
    ap (bit_at (with_bits x o w v)) e ∙ h.behind (k + i - (o + w)) ∙ ap (bit_at x) (sym e) ∙ bit_at_above x k (k + i) s (omega arith))

-- Replacing bits within a part of a number replaces them in the number.
pub within_part : (x o w p u v : ℕ) → v < 2 ^ u → p + u ≤ w → with_bits x o w (with_bits (x / 2 ^ o % 2 ^ w) p u v) ≡ with_bits x (o + p) u v
within_part x o w p u v l m = is_with_bits x y (o + p) u v l (record { before = before; inside = inside; behind = behind })
  where
    part : ℕ
    part = x / 2 ^ o % 2 ^ w

    new : ℕ
    new = with_bits part p u v

    y : ℕ
    y = with_bits x o w new

    of_new : HasBits part new p u v
    of_new = has_bits part p u v l

    of_y : HasBits x y o w new
    of_y = has_bits x o w new (with_bits-below part p u v w l m (mod_below (x / 2 ^ o) (2 ^ w) (pow_pos w)))

    of_part : (i : ℕ) → i < w → bit_at part i ≡ bit_at x (o + i)
    of_part i h = bit_at-mod (x / 2 ^ o) w i h ∙ bit_at-div x o i

    before : (i : ℕ) → i < o + p → bit_at y i ≡ bit_at x i
    before i h = elim (cases_lt i o) [
      | inl f ↦ of_y.before i f
      | inr f ↦ (let e : i ≡ o + (i - o) = omega arith in ap (bit_at y) e ∙ of_y.inside (i - o) (omega arith) ∙ of_new.before (i - o) (omega arith) ∙ of_part (i - o) (omega arith) ∙ ap (bit_at x) (sym e))
    ]

    inside : (i : ℕ) → i < u → bit_at y (o + p + i) ≡ bit_at v i
    inside i h = ap (bit_at y) (let e : o + p + i ≡ o + (p + i) = omega arith in e) ∙ of_y.inside (p + i) (omega arith) ∙ of_new.inside i h

    behind : (i : ℕ) → bit_at y (o + p + u + i) ≡ bit_at x (o + p + u + i)
    behind i =
        let j : ℕ = p + u + i in
        let e : o + p + u + i ≡ o + j = omega arith in
        elim (cases_lt j w) [
          | inl f ↦ ap (bit_at y) e ∙ of_y.inside j f ∙ of_new.behind i ∙ of_part j f ∙ ap (bit_at x) (sym e)
          | inr f ↦ (let d : o + p + u + i ≡ o + w + (j - w) = omega arith in ap (bit_at y) d ∙ of_y.behind (j - w) ∙ ap (bit_at x) (sym d))
        ]

-- One bit of a byte is set.
pub bit_set : (x k : ℕ) → k < 8 → bit_or x (1 * 2 ^ k % 256) ≡ with_bits x k 1 1
bit_set x k l =
    let y : ℕ = bit_or x (1 * 2 ^ k % 256) in
    is_with_bits x y k 1 1 (omega arith) (record {
      before = λ i h. bit_at_set_other w8 x k l i (omega arith);
      inside = λ i h. (let e : i ≡ 0 = omega arith in ap (λ j. bit_at y (k + j)) e ∙ ap (bit_at y) (let d : k + 0 ≡ k = omega arith in d) ∙ bit_at_set_same w8 x k l ∙ ap (bit_at 1) (sym e));
      behind = λ i. bit_at_set_other w8 x k l (k + 1 + i) (omega arith);
    })

pub bit_cleared : (x k : ℕ) → x < 256 → k < 8 → bit_and x (255 - 1 * 2 ^ k % 256) ≡ with_bits x k 1 0
bit_cleared x k s l = is_with_bits x y k 1 0 (omega arith) (record { before = λ i h. other i (omega arith); inside = inside; behind = λ i. other (k + 1 + i) (omega arith) })
  where
    y : ℕ
    y = bit_and x (255 - 1 * 2 ^ k % 256)

    inside : (i : ℕ) → i < 1 → bit_at y (k + i) ≡ bit_at 0 i
    inside i h = let e : i ≡ 0 = omega arith in ap (λ j. bit_at y (k + j)) e ∙ ap (bit_at y) (let d : k + 0 ≡ k = omega arith in d) ∙ bit_at_clear_same w8 x k l ∙ ap (bit_at 0) (sym e)

    other : (i : ℕ) → i ≢ k → bit_at y i ≡ bit_at x i
    other i n = elim (cases_lt i 8) [
      | inl h ↦ bit_at_clear_other w8 x k l i h n
      | inr h ↦ bit_at_above y 8 i (omega (arith, and_le_l x (255 - 1 * 2 ^ k % 256))) h ∙ sym (bit_at_above x 8 i (omega arith) h)
    ]
