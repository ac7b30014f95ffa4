-- A digit replaced: in a number, and in the words that hold it.
use Rattle.std.proofs.Common.{◌≡◌, inl, inr, ℕ, zero, suc, ◌+◌, ◌-◌, ◌*◌, ◌/◌, ◌%◌, ◌^◌, ◌<◌, ◌≤◌, List, [], ◌∷◌, get_or, set, length, sym, ap, ap₂, ◌∙◌, arith}
use Rattle.std.proofs.lemmas.Bool.{cases_lt}
use Rattle.std.proofs.Math.Nat.{pow-zero}
use Rattle.std.proofs.lemmas.Nat.{shr_split}
use Rattle.std.proofs.lemmas.Nat.Bits.{same_from_bits}
use Rattle.std.specs.Int.{bit_at}
use Rattle.capnp_format.specs.Numbers.{from_digits, digits}
use Rattle.capnp_format.specs.Value.{AreBelow}
use Rattle.capnp_format.specs.Fields.{with_bits, put_field}
use Rattle.capnp_format.proofs.Digits.{low, high}
use Rattle.capnp_in_place.proofs.Fields.BitsReplaced.{has_bits, is_with_bits, with_bits-below, within_part, bit_at-mod_past, cat_low, cat_high}
use Rattle.capnp_format.proofs.FieldBytes.{bit_at-mod, bit_at-div}

pub mod_same : (y x k : ℕ) → ((i : ℕ) → i < k → bit_at y i ≡ bit_at x i) → y % 2 ^ k ≡ x % 2 ^ k
mod_same y x k h = same_from_bits (y % 2 ^ k) (x % 2 ^ k) (λ i. elim (cases_lt i k) [
  | inl l ↦ bit_at-mod y k i l ∙ h i l ∙ sym (bit_at-mod x k i l)
  | inr l ↦ bit_at-mod_past y k i l ∙ sym (bit_at-mod_past x k i l)
])

div_same : (y x k : ℕ) → ((i : ℕ) → bit_at y (k + i) ≡ bit_at x (k + i)) → y / 2 ^ k ≡ x / 2 ^ k
div_same y x k h = same_from_bits (y / 2 ^ k) (x / 2 ^ k) (λ i. bit_at-div y k i ∙ h i ∙ sym (bit_at-div x k i))

-- Bits replaced below 2 ^ k leave the number above unchanged, and bits replaced above leave the
-- number below.
pub replaced_below : (x o w v k : ℕ) → v < 2 ^ w → o + w ≤ k → with_bits x o w v / 2 ^ k ≡ x / 2 ^ k
replaced_below x o w v k l m = div_same (with_bits x o w v) x k (λ i.
    let e : k + i ≡ o + w + (k + i - (o + w)) = omega arith in
    ap (bit_at (with_bits x o w v)) e ∙ (has_bits x o w v l).behind (k + i - (o + w)) ∙ ap (bit_at x) (sym e))

replaced_above : (x o w v k : ℕ) → v < 2 ^ w → k ≤ o → with_bits x o w v % 2 ^ k ≡ x % 2 ^ k
replaced_above x o w v k l m = mod_same (with_bits x o w v) x k (λ i h. (has_bits x o w v l).before i (omega arith))

-- Bits replaced within the lowest k bits of x, and within the others.
in_lowest : (x o w v k : ℕ) → v < 2 ^ w → o + w ≤ k → with_bits x o w v % 2 ^ k ≡ with_bits (x % 2 ^ k) o w v
in_lowest x o w v k l m =
    let y : ℕ = with_bits x o w v in
    let h = has_bits x o w v l in
    is_with_bits (x % 2 ^ k) (y % 2 ^ k) o w v l (record {
      before = λ i g. bit_at-mod y k i (omega arith) ∙ h.before i g ∙ sym (bit_at-mod x k i (omega arith));
      inside = λ i g. bit_at-mod y k (o + i) (omega arith) ∙ h.inside i g;
      behind = λ i. elim (cases_lt (o + w + i) k) [
        | inl g ↦ bit_at-mod y k (o + w + i) g ∙ h.behind i ∙ sym (bit_at-mod x k (o + w + i) g)
        | inr g ↦ bit_at-mod_past y k (o + w + i) g ∙ sym (bit_at-mod_past x k (o + w + i) g)
      ];
    })

in_others : (x k o w v : ℕ) → v < 2 ^ w → with_bits x (k + o) w v / 2 ^ k ≡ with_bits (x / 2 ^ k) o w v
in_others x k o w v l =
    let y : ℕ = with_bits x (k + o) w v in
    let h = has_bits x (k + o) w v l in
    is_with_bits (x / 2 ^ k) (y / 2 ^ k) o w v l (record {
      before = λ i g. bit_at-div y k i ∙ h.before (k + i) (omega arith) ∙ sym (bit_at-div x k i);
      inside = λ i g. bit_at-div y k (o + i) ∙ ap (bit_at y) (let e : k + (o + i) ≡ k + o + i = omega arith in e) ∙ h.inside i g;
      behind = λ i. (let e : k + (o + w + i) ≡ k + o + w + i = omega arith in bit_at-div y k (o + w + i) ∙ ap (bit_at y) e ∙ h.behind i ∙ ap (bit_at x) (sym e) ∙ sym (bit_at-div x k (o + w + i)));
    })

-- Bits replaced in a number replace the same bits of its word q.
words_with_bits : (q n x o w v : ℕ) → q < n → o + w ≤ 64 → v < 2 ^ w → digits (2 ^ 64) n (with_bits x (64 * q + o) w v) ≡ set (digits (2 ^ 64) n x) q (with_bits (get_or (digits (2 ^ 64) n x) q 0) o w v)
words_with_bits zero (suc n) x o w v l m s =
    ap (λ b. digits (2 ^ 64) (suc n) (with_bits x b w v)) (let e : 64 * 0 + o ≡ o = omega arith in e)
    ∙ ap₂ (λ y z. y ∷ digits (2 ^ 64) n z) (in_lowest x o w v 64 s m) (replaced_below x o w v 64 s m)
words_with_bits (suc q) (suc n) x o w v l m s =
    ap (λ b. digits (2 ^ 64) (suc n) (with_bits x b w v)) (let e : 64 * suc q + o ≡ 64 + (64 * q + o) = omega arith in e)
    ∙ ap₂ (λ y z. y ∷ digits (2 ^ 64) n z) (replaced_above x (64 + (64 * q + o)) w v 64 s (omega arith)) (in_others x 64 (64 * q + o) w v s)
    ∙ ap (λ ws. x % 2 ^ 64 ∷ ws) (words_with_bits q n (x / 2 ^ 64) o w v (omega arith) m s)
words_with_bits q zero x o w v l m s = absurd (omega arith)

pub field_in_words : (n x b w v : ℕ) → b / 64 < n → b % 64 + w ≤ 64 → v < 2 ^ w → digits (2 ^ 64) n (with_bits x b w v) ≡ put_field (digits (2 ^ 64) n x) b w v
field_in_words n x b w v l m s =
    ap (λ c. digits (2 ^ 64) n (with_bits x c w v)) (let e : b ≡ 64 * (b / 64) + b % 64 = omega arith in e) ∙ words_with_bits (b / 64) n x (b % 64) w v l m s

-- A digit of a number is replaced: the first one, and a later one.
first_digit_set : (w n f v : ℕ) → n < 2 ^ w → v < 2 ^ w → v + 2 ^ w * f ≡ with_bits (n + 2 ^ w * f) 0 w v
first_digit_set w n f v s t = is_with_bits (n + 2 ^ w * f) (v + 2 ^ w * f) 0 w v t (record {
  before = λ i h. absurd (omega arith);
  inside = λ i h. (let e : 0 + i ≡ i = omega arith in ap (bit_at (v + 2 ^ w * f)) e ∙ cat_low f w v i h);
  behind = λ i. (let e : 0 + w + i ≡ w + i = omega arith in ap (bit_at (v + 2 ^ w * f)) e ∙ cat_high f w v i t ∙ sym (cat_high f w n i s) ∙ ap (bit_at (n + 2 ^ w * f)) (sym e));
})

later_digit_set : (w n f o u v : ℕ) → n < 2 ^ w → v < 2 ^ u → n + 2 ^ w * with_bits f o u v ≡ with_bits (n + 2 ^ w * f) (w + o) u v
later_digit_set w n f o u v s t =
    let x : ℕ = n + 2 ^ w * f in
    let y : ℕ = with_bits x (w + o) u v in
    let lowest : y % 2 ^ w ≡ n = replaced_above x (w + o) u v w t (omega arith) ∙ low (2 ^ w) n f s in
    let others : y / 2 ^ w ≡ with_bits f o u v = in_others x w o u v t ∙ ap (λ z. with_bits z o u v) (high (2 ^ w) n f s) in
    ap₂ (λ a b. a + 2 ^ w * b) (sym lowest) (sym others) ∙ joined (y % 2 ^ w) (2 ^ w) (y / 2 ^ w) ∙ shr_split y w
  where
    joined : (a p b : ℕ) → a + p * b ≡ b * p + a
    joined a p b = omega arith

pub from_digits-set : (w i v : ℕ) (ns : List ℕ) → AreBelow (2 ^ w) ns → i < length ns → v < 2 ^ w → from_digits (2 ^ w) (set ns i v) ≡ with_bits (from_digits (2 ^ w) ns) (i * w) w v
from_digits-set w i v [] h l s = absurd (omega arith)
from_digits-set w zero v (n ∷ ns) h l s = first_digit_set w n (from_digits (2 ^ w) ns) v h.0 s ∙ ap (λ b. with_bits (from_digits (2 ^ w) (n ∷ ns)) b w v) (let e : 0 ≡ 0 * w = omega arith in e)
from_digits-set w (suc i) v (n ∷ ns) h l s =
    ap (λ x. n + 2 ^ w * x) (from_digits-set w i v ns h.1 (omega arith) s)
    ∙ later_digit_set w n (from_digits (2 ^ w) ns) (i * w) w v h.0 s
    ∙ ap (λ b. with_bits (from_digits (2 ^ w) (n ∷ ns)) b w v) (let e : w + i * w ≡ suc i * w = omega arith in e)

-- The lowest u bits of a digit of a number are replaced.
first_digit_part : (w n f u v : ℕ) → n < 2 ^ w → v < 2 ^ u → u ≤ w → with_bits n 0 u v + 2 ^ w * f ≡ with_bits (n + 2 ^ w * f) 0 u v
first_digit_part w n f u v s t l =
    let x : ℕ = n + 2 ^ w * f in
    let here : n ≡ x / 2 ^ 0 % 2 ^ w = sym (low (2 ^ w) n f s) ∙ ap (λ y. y % 2 ^ w) (let e : x ≡ x / 2 ^ 0 = rw pow-zero (omega arith) in e) in
    first_digit_set w n f (with_bits n 0 u v) s (with_bits-below n 0 u v w t (omega arith) s) ∙ ap (λ e. with_bits x 0 w (with_bits e 0 u v)) here ∙ within_part x 0 w 0 u v t (omega arith)

pub from_digits-part : (w i u v : ℕ) (ns : List ℕ) → AreBelow (2 ^ w) ns → i < length ns → u ≤ w → v < 2 ^ u → from_digits (2 ^ w) (set ns i (with_bits (get_or ns i 0) 0 u v)) ≡ with_bits (from_digits (2 ^ w) ns) (i * w) u v
from_digits-part w i u v [] h l m s = absurd (omega arith)
from_digits-part w zero u v (n ∷ ns) h l m s =
    first_digit_part w n (from_digits (2 ^ w) ns) u v h.0 s m ∙ ap (λ b. with_bits (from_digits (2 ^ w) (n ∷ ns)) b u v) (let e : 0 ≡ 0 * w = omega arith in e)
from_digits-part w (suc i) u v (n ∷ ns) h l m s =
    ap (λ x. n + 2 ^ w * x) (from_digits-part w i u v ns h.1 (omega arith) m s)
    ∙ later_digit_set w n (from_digits (2 ^ w) ns) (i * w) u v h.0 s
    ∙ ap (λ b. with_bits (from_digits (2 ^ w) (n ∷ ns)) b u v) (let e : w + i * w ≡ suc i * w = omega arith in e)
