-- Elements with zero padding: only the last word matters.
use Rattle.std.proofs.Common.{◌≡◌, ◌≢◌, bit_and, ℕ, zero, suc, ◌+◌, ◌-◌, ◌*◌, ◌/◌, ◌%◌, ◌^◌, ◌<◌, ◌≤◌, List, [], ◌∷◌, ◌++◌, length, get_or, set, take, drop, replicate, refl, sym, ap, ap₂, ◌∙◌, subst, arith, mul_comm, mul-le-mul_left, mod-lt, pow-suc, pow-add, pow_pos, append-nil, length-take, take_at, drop_at}
use Rattle.std.proofs.Math.Nat.{pow-zero, mod-one, mod-eq_of_lt, mod-le, mod-add-div}
use Rattle.std.proofs.lemmas.Nat.{and_mask, pow_below}
use Rattle.std.proofs.lemmas.List.{length-replicate, drop_all, length-set, set-append_left, set-append_right}
use Rattle.std.specs.Int.{from_le_bytes, w64}
use Rattle.capnp_format.specs.Bytes.{words_of}
use Rattle.capnp_format.specs.Numbers.{from_digits, digits, element_bits, words_for, unpacked, packed}
use Rattle.capnp_format.specs.Segments.{Segments, segment}
use Rattle.capnp_format.specs.Value.{AreBelow}
use Rattle.capnp_format.proofs.Digits.{length-digits, digits-from_digits, from_digits-below, low, high}
use Rattle.capnp_format.proofs.Lies.{pow_pow}
use Rattle.capnp_arena_traits.specs.Written.{overwritten, with_word, with_words, extended}

-- Remainders.

regrouped : (a b m r k : ℕ) → a + b * (r + m * k) ≡ (a + b * r) + (b * m) * k
regrouped a b m r k = omega arith

within_both : (a b r m : ℕ) → a < b → r < m → a + b * r < b * m
within_both a b r m l k = omega (arith, mul-le-mul_left b k)

mod_split : (x b m : ℕ) → 0 < b → 0 < m → x % (b * m) ≡ x % b + b * (x / b % m)
mod_split x b m some more =
    let q = x / b in
    let r = x % b + b * (q % m) in
    ap (λ y. y % (b * m)) (sym (mod-add-div x b) ∙ ap (λ y. x % b + b * y) (sym (mod-add-div q m)) ∙ regrouped (x % b) b m (q % m) (q / m))
    ∙ low (b * m) r (q / m) (within_both (x % b) b (q % m) m (mod-lt x some) (mod-lt q more))

-- The number of its lowest n digits is a remainder.
from_digits-mod : (b n x : ℕ) → 0 < b → ((k : ℕ) → 0 < b ^ k) → from_digits b (digits b n x) ≡ x % b ^ n
from_digits-mod b zero x some powers = sym (ap (λ y. x % y) (pow-zero b) ∙ mod-one x)
from_digits-mod b (suc n) x some powers =
    ap (λ y. x % b + b * y) (from_digits-mod b n (x / b) some powers)
    ∙ sym (mod_split x b (b ^ n) some (powers n))
    ∙ ap (λ y. x % y) (mul_comm b (b ^ n) ∙ sym (pow-suc b n))

powers_some : (e k : ℕ) → 0 < (2 ^ e) ^ k
powers_some e k = subst (λ y. 0 < y) (sym (pow_pow e k)) (pow_pos (e * k))

-- Elements unpacked and packed again: the lowest bits of all words, and zeros.
pub packed_again : (size n : ℕ) (ws : List ℕ) → packed size (unpacked size n ws) ≡ digits (2 ^ 64) (words_for size n) (from_digits (2 ^ 64) ws % 2 ^ (n * element_bits size))
packed_again size n ws =
    let b = element_bits size in
    let x = from_digits (2 ^ 64) ws in
    ap₂ (digits (2 ^ 64)) (ap (words_for size) (length-digits (2 ^ b) n x))
    (from_digits-mod (2 ^ b) n x (pow_pos b) (powers_some b) ∙ ap (λ y. x % y) (pow_pow b n ∙ ap (λ e. 2 ^ e) (mul_comm b n)))

-- All bits are used.
pub none_masked : (j bits : ℕ) (ws : List ℕ) → AreBelow (2 ^ 64) ws → length ws ≡ j → bits ≡ 64 * j → digits (2 ^ 64) j (from_digits (2 ^ 64) ws % 2 ^ bits) ≡ ws
none_masked j bits ws below long e =
    let x = from_digits (2 ^ 64) ws in
    let limit : (2 ^ 64) ^ length ws ≡ 2 ^ bits = ap (λ i. (2 ^ 64) ^ i) long ∙ pow_pow 64 j ∙ ap (λ i. 2 ^ i) (sym e) in
    let small : x < 2 ^ bits = subst (λ y. x < y) limit (from_digits-below (2 ^ 64) ws below) in
    ap₂ (digits (2 ^ 64)) (sym long) (mod-eq_of_lt small) ∙ digits-from_digits (2 ^ 64) ws below

-- Only the lowest r bits of the last word are used.
pub last_masked : (j r : ℕ) (ws : List ℕ) → AreBelow (2 ^ 64) ws → length ws ≡ suc j → digits (2 ^ 64) (suc j) (from_digits (2 ^ 64) ws % 2 ^ (64 * j + r)) ≡ set ws j (get_or ws j 0 % 2 ^ r)
last_masked zero r [] below long = absurd (omega arith)
last_masked (suc j) r [] below long = absurd (omega arith)
last_masked zero r (x ∷ y ∷ xs) below long = absurd (omega arith)
last_masked zero r (x ∷ []) below long =
    let lowest : (x + 2 ^ 64 * 0) % 2 ^ (64 * 0 + r) ≡ x % 2 ^ r = ap₂ (λ a b. a % 2 ^ b) (let e : x + 2 ^ 64 * 0 ≡ x = omega arith in e) (let e : 64 * 0 + r ≡ r = omega arith in e) in
    let small : x % 2 ^ r < 2 ^ 64 = omega (arith, mod-le x (2 ^ r), below.0) in
    ap (λ y. y % 2 ^ 64 ∷ []) lowest ∙ ap (λ y. y ∷ []) (mod-eq_of_lt small)
last_masked (suc j) r (x ∷ xs) below long =
    let b : ℕ = 2 ^ 64 in
    let f = from_digits (2 ^ 64) xs in
    let m = 2 ^ (64 * j + r) in
    let limit : 2 ^ (64 * suc j + r) ≡ 2 ^ 64 * m = ap (λ e. 2 ^ e) (let e : 64 * suc j + r ≡ 64 + (64 * j + r) = omega arith in e) ∙ pow-add 2 64 (64 * j + r) in
    let first : (x + 2 ^ 64 * f) % 2 ^ (64 * suc j + r) ≡ x + 2 ^ 64 * (f % m) =
    ap (λ y. (x + 2 ^ 64 * f) % y) limit
    ∙ mod_split (x + 2 ^ 64 * f) (2 ^ 64) m (omega arith) (pow_pos (64 * j + r))
    ∙ ap₂ (λ y z. y + 2 ^ 64 * (z % m)) (low (2 ^ 64) x f below.0) (high (2 ^ 64) x f below.0)
    in
    ap (digits (2 ^ 64) (suc (suc j))) first
    ∙ ap₂ (λ y z. y ∷ digits (2 ^ 64) (suc j) z) (low (2 ^ 64) x (f % m) below.0) (high (2 ^ 64) x (f % m) below.0)
    ∙ ap (λ ys. x ∷ ys) (last_masked j r xs below.1 (omega arith))

pub mask_is : (word r : ℕ) → r < 64 → bit_and word (1 * 2 ^ r % 2 ^ 64 - 1) ≡ word % 2 ^ r
mask_is word r l =
    let one : 1 * 2 ^ r % 2 ^ 64 ≡ 2 ^ r = ap (λ x. x % 2 ^ 64) (let e : 1 * 2 ^ r ≡ 2 ^ r = omega arith in e) ∙ mod-eq_of_lt (pow_below r 64 l) in
    ap (λ x. bit_and word (x - 1)) one ∙ and_mask word r

-- The last word under a mask, in the form that the code has.
pub last_behind_mask : {last : ℕ} (bits : ℕ) (ws : List ℕ) → AreBelow (2 ^ 64) ws → (bits + 63) / 64 ≡ length ws → bits % 64 ≢ 0 → last ≡ length ws - 1 →
    set ws last (bit_and (get_or ws last 0) (1 * 2 ^ (bits % 64) % 2 ^ 64 - 1)) ≡ digits (2 ^ 64) (length ws) (from_digits (2 ^ 64) ws % 2 ^ bits)
last_behind_mask {last} bits ws below all some at =
    let r = bits % 64 in
    let long : length ws ≡ suc last = omega arith in
    let split : 64 * last + r ≡ bits = omega arith in
    ap (set ws last) (mask_is (get_or ws last 0) r (omega arith))
    ∙ sym (last_masked last r ws below long)
    ∙ ap₂ (λ n b. digits (2 ^ 64) n (from_digits (2 ^ 64) ws % 2 ^ b)) (sym long) split

-- Words of bytes.

pub words_small : (bs : List ℕ) → ((i : ℕ) → get_or bs i 0 < 256) → AreBelow (2 ^ 64) (words_of bs)
words_small (a ∷ b ∷ c ∷ d ∷ e ∷ f ∷ g ∷ h ∷ rest) l =
    let small : from_le_bytes w64 (a ∷ b ∷ c ∷ d ∷ e ∷ f ∷ g ∷ h ∷ []) < 2 ^ 64 = omega (arith, l 0, l 1, l 2, l 3, l 4, l 5, l 6, l 7) in
    (small, words_small rest (λ i. l (suc (suc (suc (suc (suc (suc (suc (suc i))))))))))
words_small _ l = tt

-- Segments.

-- The words ws have room in xs from position p on.
pub record HasRoom (xs : List ℕ) (p : ℕ) (ws : List ℕ) : Type 0 where
  pub fits : p + length ws ≤ length xs

word_over : {xs ws : List ℕ} {p : ℕ} (j x : ℕ) → HasRoom xs p ws → j < length ws → set (overwritten xs p ws) (p + j) x ≡ overwritten xs p (set ws j x)
word_over {xs} {ws} {p} j x l k =
    let behind = drop (length ws) (drop p xs) in
    set-append_right (take p xs) (ws ++ behind) p (p + j) x (omega (arith, length-take p xs, l.fits)) (omega arith)
    ∙ ap (λ i. take p xs ++ set (ws ++ behind) i x) (let e : p + j - p ≡ j = omega arith in e)
    ∙ ap (λ ys. take p xs ++ ys) (set-append_left ws behind j x k)
    ∙ ap (λ n. take p xs ++ (set ws j x ++ drop n (drop p xs))) (sym (length-set ws j x))

-- One of the words that were written is written again.
pub with_words_set : {p : ℕ} {ws : List ℕ} (S : Segments) (s j x : ℕ) → HasRoom (segment S s) p ws → j < length ws → with_word (with_words S s p ws) s (p + j) x ≡ with_words S s p (set ws j x)
with_words_set [] s j x l k = refl
with_words_set (xs ∷ S) zero j x l k = ap (λ ys. ys ∷ S) (word_over j x l k)
with_words_set (xs ∷ S) (suc s) j x l k = ap (λ T. xs ∷ T) (with_words_set S s j x l k)

over_zeros : (xs ws : List ℕ) (p w : ℕ) → p ≡ length xs → length ws ≡ w → overwritten (xs ++ replicate w 0) p ws ≡ xs ++ ws
over_zeros xs ws p w e f =
    ap₂ (λ ys zs. ys ++ (ws ++ drop (length ws) zs)) (take_at xs (replicate w 0) p (sym e)) (drop_at xs (replicate w 0) p (sym e))
    ∙ ap (λ ys. xs ++ (ws ++ ys)) (drop_all (length ws) (replicate w 0) (omega (arith, length-replicate {A = ℕ} w 0)))
    ∙ ap (λ ys. xs ++ ys) (append-nil ws)

-- Words are allocated, and then all of them are written.
pub all_written : {p w : ℕ} (S : Segments) (s : ℕ) (ws : List ℕ) → s < length S → p ≡ length (segment S s) → length ws ≡ w → with_words (extended S s (replicate w 0)) s p ws ≡ extended S s ws
all_written [] s ws l e f = absurd (omega arith)
all_written {p} {w} (xs ∷ S) zero ws l e f = ap (λ ys. ys ∷ S) (over_zeros xs ws p w e f)
all_written (xs ∷ S) (suc s) ws l e f = ap (λ T. xs ∷ T) (all_written S s ws (omega arith) e f)
