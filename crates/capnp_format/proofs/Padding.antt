-- The bits after the elements of a list, only by its last word.
use Rattle.std.proofs.Common.{◌≡◌, ◌≢◌, ℕ, zero, suc, ◌+◌, ◌*◌, ◌/◌, ◌%◌, ◌^◌, ◌<◌, ◌≤◌, ◌↔◌, inl, inr, List, [], ◌∷◌, ◌++◌, length, take, drop, refl, sym, ap, ◌∙◌, subst, arith, lt_of_lt_of_le, pow_mono, pow-suc, pow-add, pow_pos, mul-le-mul_left, mul_comm, get_or-drop, length-drop}
use Rattle.std.proofs.lemmas.List.{take_more}
use Rattle.std.proofs.Math.Nat.{pow-zero}
use Rattle.std.proofs.lemmas.Bool.{cases_lt}
use Rattle.capnp_format.specs.Numbers.{from_digits, digits, element_bits, words_for, unpacked, packed}
use Rattle.capnp_format.specs.Segments.{Segments, segment, word_at, words_at, HasSmallWords}
use Rattle.capnp_format.specs.Value.{AreBelow}
use Rattle.capnp_format.specs.Padding.{IsPadded}
use Rattle.capnp_format.proofs.Bounds.{words_small}
use Rattle.capnp_format.proofs.Digits.{length-digits, from_digits-below, from_digits-digits, digits_again}
use Rattle.capnp_format.proofs.Lies.{pow_pow}
use Rattle.capnp_format.proofs.Slices.{length_words, has_words_at}

-- One more digit in front shifts the others.
digit_step : (x b A P Q y : ℕ) → Q ≡ P * b → x + b * (A + P * y) ≡ x + b * A + Q * y
digit_step x b A P Q y e = rw e (omega arith)

-- The last digit counts with the power of its position.
last_digit : (b : ℕ) (xs : List ℕ) (x : ℕ) → from_digits b (xs ++ x ∷ []) ≡ from_digits b xs + b ^ length xs * x
last_digit b [] x = rw (pow-zero b) (omega arith)
last_digit b (y ∷ ys) x = ap (λ n. y + b * n) (last_digit b ys x) ∙ digit_step y b (from_digits b ys) (b ^ length ys) (b ^ suc (length ys)) x (pow-suc b (length ys))

-- A high part that is too large is too large with any low part.
too_much : (A P x R : ℕ) → R ≤ x → A + P * x < P * R → ⊥
too_much A P x R l h = omega (arith, mul-le-mul_left P l)

-- A small high part is small with any low part below its own unit.
little : (A P x R : ℕ) → A < P → suc x ≤ R → A + P * x < P * R
little A P x R a l = omega (arith, mul-le-mul_left P l)

-- A number is below a limit of whole high parts exactly if its high part is below that of the
-- limit.
high_part : (A P x R : ℕ) → A < P → (A + P * x < P * R) ↔ (x < R)
high_part A P x R a = (
  (λ h. elim (cases_lt x R) [
    | inl l ↦ l
    | inr l ↦ absurd (too_much A P x R l h)
  ]),
  (λ l. little A P x R a l),
)

-- Words from a place on are those before the last, and the last one.
words_at-last : (S : Segments) (s h j : ℕ) → h + suc j ≤ length (segment S s) → words_at S s h (suc j) ≡ words_at S s h j ++ word_at S s (h + j) ∷ []
words_at-last S s h j l =
    let xs = drop h (segment S s) in
    ap (λ n. take n xs) (let e : suc j ≡ j + 1 = omega arith in e) ∙ take_more xs j 0 (omega (arith, length-drop h (segment S s))) ∙ ap (λ x. words_at S s h j ++ x ∷ []) (get_or-drop h (segment S s) j 0)

-- If the last word uses its low r bits, the bits after the elements are zero exactly if the word is
-- below 2^r.
pub padded_last : (S : Segments) (s h size n j r : ℕ) → HasSmallWords S s → h + suc j ≤ length (segment S s) → words_for size n ≡ suc j → element_bits size * n ≡ 64 * j + r → IsPadded S s h size n ↔ (word_at S s (h + j) < 2 ^ r)
padded_last S s h size n j r w l e b =
    let ws = words_at S s h j in
    let long : length ws ≡ j = length_words S s h j (omega arith) in
    let x = word_at S s (h + j) in
    let P = (2 ^ 64) ^ j in
    let below : from_digits (2 ^ 64) ws < P = subst (λ i. from_digits (2 ^ 64) ws < (2 ^ 64) ^ i) long (from_digits-below (2 ^ 64) ws (words_small S s h ws w (has_words_at S s h j (omega arith)))) in
    let all : from_digits (2 ^ 64) (words_at S s h (words_for size n)) ≡ from_digits (2 ^ 64) ws + P * x =
    ap (λ m. from_digits (2 ^ 64) (words_at S s h m)) e ∙ ap (from_digits (2 ^ 64)) (words_at-last S s h j l) ∙ last_digit (2 ^ 64) ws x ∙ ap (λ i. from_digits (2 ^ 64) ws + (2 ^ 64) ^ i * x) long in
    let limit : 2 ^ (element_bits size * n) ≡ P * 2 ^ r = ap (λ i. 2 ^ i) b ∙ pow-add 2 (64 * j) r ∙ ap (λ y. y * 2 ^ r) (sym (pow_pow 64 j)) in
    let f = high_part (from_digits (2 ^ 64) ws) P x (2 ^ r) below in (
      (λ g. f.0 (subst (λ y. y < P * 2 ^ r) all (subst (λ y. from_digits (2 ^ 64) (words_at S s h (words_for size n)) < y) limit g))),
      (λ g. subst (λ y. from_digits (2 ^ 64) (words_at S s h (words_for size n)) < y) (sym limit) (subst (λ y. y < P * 2 ^ r) (sym all) (f.1 g))),
    )

-- After elements without words there are no bits.
pub padded_none : (S : Segments) (s h size n : ℕ) → words_for size n ≡ 0 → IsPadded S s h size n
padded_none S s h size n e = subst (λ m. from_digits (2 ^ 64) (words_at S s h m) < 2 ^ (element_bits size * n)) (sym e) (pow_pos (element_bits size * n))

words_are : (size n : ℕ) → words_for size n ≡ (element_bits size * n + 63) / 64
words_are size n = ap (λ b. (b + 63) / 64) (mul_comm n (element_bits size))

-- Elements that fill their words have no bits after them.
pub no_rest : (S : Segments) (s h size n : ℕ) → HasSmallWords S s → h + words_for size n ≤ length (segment S s) → element_bits size * n % 64 ≡ 0 → IsPadded S s h size n × (words_for size n ≡ element_bits size * n / 64)
no_rest S s h size n small room rest = go (words_for size n) refl
  where
    go : (m : ℕ) → words_for size n ≡ m → IsPadded S s h size n × (words_for size n ≡ element_bits size * n / 64)
    go zero e = (padded_none S s h size n e, omega (arith, e, rest, words_are size n))
    go (suc j) e = ((padded_last S s h size n j 64 small (omega (arith, room, e)) e (omega (arith, e, rest, words_are size n))).1 (small (h + j)), omega (arith, e, rest, words_are size n))

small_quotient : (x r : ℕ) → x / 2 ^ r ≡ 0 ↔ x < 2 ^ r
small_quotient x r = ((λ e. grind (arith, e, pow_pos r)), (λ l. grind (arith, l, pow_pos r)))

-- Otherwise the bits after them are those of one more word, above the bits that are used.
pub some_rest : (S : Segments) (s h size n : ℕ) → HasSmallWords S s → h + words_for size n ≤ length (segment S s) → element_bits size * n % 64 ≢ 0 →
    (words_for size n ≡ element_bits size * n / 64 + 1) × (IsPadded S s h size n ↔ (word_at S s (h + element_bits size * n / 64) / 2 ^ (element_bits size * n % 64) ≡ 0))
some_rest S s h size n small room rest =
    let bits : ℕ = element_bits size * n in
    let whole : ℕ = bits / 64 in
    let e : words_for size n ≡ suc whole = words_are size n ∙ omega (arith, rest) in
    let f = padded_last S s h size n whole (bits % 64) small (omega (arith, room, e)) e (omega arith) in
    let g = small_quotient (word_at S s (h + whole)) (bits % 64) in
    (omega (arith, e), ((λ p. g.1 (f.0 p)), (λ x. f.1 (g.0 x))))

-- Elements that are read from words, with zeros after them, are packed again into the same words.
pub packed-unpacked : (size n : ℕ) (ws : List ℕ) → AreBelow (2 ^ 64) ws → length ws ≡ words_for size n → from_digits (2 ^ 64) ws < 2 ^ (element_bits size * n) → packed size (unpacked size n ws) ≡ ws
packed-unpacked size n ws h e small =
    let x = from_digits (2 ^ 64) ws in
    let fits : x < (2 ^ element_bits size) ^ n = rw pow_pow small in
    let same : from_digits (2 ^ element_bits size) (unpacked size n ws) ≡ x = from_digits-digits (2 ^ element_bits size) n x (pow_pos (element_bits size)) fits in
    ap (λ m. digits (2 ^ 64) (words_for size m) (from_digits (2 ^ element_bits size) (unpacked size n ws))) (length-digits (2 ^ element_bits size) n x)
    ∙ ap (digits (2 ^ 64) (words_for size n)) same ∙ digits_again (2 ^ 64) (words_for size n) ws h e

-- Packed elements leave zeros after them.
pub packed_below : (size : ℕ) (ns : List ℕ) → AreBelow (2 ^ element_bits size) ns → from_digits (2 ^ 64) (packed size ns) < 2 ^ (element_bits size * length ns)
packed_below size ns h =
    let x = from_digits (2 ^ element_bits size) ns in
    let small : x < 2 ^ (element_bits size * length ns) = rw pow_pow at (from_digits-below (2 ^ element_bits size) ns h) in
    let room : element_bits size * length ns ≤ 64 * words_for size (length ns) = omega arith in
    let fits : x < (2 ^ 64) ^ words_for size (length ns) = rw (pow_pow 64 (words_for size (length ns))) (lt_of_lt_of_le small (pow_mono room)) in
    subst (λ y. y < 2 ^ (element_bits size * length ns)) (sym (from_digits-digits (2 ^ 64) (words_for size (length ns)) x (omega arith) fits)) small
