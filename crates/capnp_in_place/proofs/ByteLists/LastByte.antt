-- The last of the bytes that words hold.
use Rattle.std.proofs.Common.{◌≡◌, ℕ, suc, ◌+◌, ◌-◌, ◌*◌, ◌^◌, ◌<◌, ◌≤◌, nat_eq, List, [], ◌∷◌, length, get_or, take, drop, refl, sym, ap, ◌∙◌, arith, length-take, length-drop, get_or-take, get_or-drop}
use Rattle.capnp_format.specs.Bytes.{words_of}
use Rattle.capnp_format.specs.Numbers.{words_for, digits, from_digits}
use Rattle.capnp_format.specs.Value.{AreBelow}
use Rattle.capnp_format.proofs.BytesLemmas.{digit_at, words_are_bytes}
use Rattle.capnp_format.proofs.Digits.{length-digits, digits-from_digits}
use Rattle.capnp_format.proofs.WordsOf.{words, words_of-part}
use Rattle.capnp_in_place.specs.Existing.{bytes_in, ends_in_zero}

each_below : (limit : ℕ) (xs : List ℕ) → ((i : ℕ) → i < length xs → get_or xs i 0 < limit) → AreBelow limit xs
each_below limit [] h = tt
each_below limit (x ∷ xs) h = (h 0 (omega arith), each_below limit xs (λ i l. h (suc i) (omega arith)))

ends_at : (m : ℕ) (ns : List ℕ) → length ns ≡ suc m → ends_in_zero ns ≡ nat_eq (get_or ns m 0) 0
ends_at m [] e = absurd (omega arith)
ends_at m (n ∷ ns) e = ap (λ k. nat_eq (get_or (n ∷ ns) k 0) 0) (let f : length ns ≡ m = omega arith in f)

-- The first n digits of a number are the first of all its digits.
digit_of : (base n m : ℕ) (ds : List ℕ) → AreBelow base ds → m < n → n ≤ length ds → get_or (digits base n (from_digits base ds)) m 0 ≡ get_or ds m 0
digit_of base n m ds below less long =
    digit_at base n (from_digits base ds) m less ∙ sym (digit_at base (length ds) (from_digits base ds) m (omega arith)) ∙ ap (λ xs. get_or xs m 0) (digits-from_digits base ds below)

-- Whether the last of n bytes from word `start` on is zero.
pub last_byte : (start n : ℕ) (bs : List ℕ) → ((i : ℕ) → get_or bs i 0 < 256) → 0 < n → start + words_for 2 n ≤ length (words_of bs) →
    nat_eq (get_or bs (8 * start + n - 1) 0) 0 ≡ ends_in_zero (bytes_in (words_of bs) start n)
last_byte start n bs small some there =
    let w : ℕ = words_for 2 n in
    let m : ℕ = n - 1 in
    let room : 8 * (start + w) ≤ length bs = omega (arith, words bs) in
    let all : List ℕ = take (8 * w) (drop (8 * start) bs) in
    let long : length all ≡ 8 * w = omega (arith, length-take (8 * w) (drop (8 * start) bs), length-drop (8 * start) bs) in
    let at : (i : ℕ) → i < 8 * w → get_or all i 0 ≡ get_or bs (8 * start + i) 0 = λ i l. get_or-take (8 * w) (drop (8 * start) bs) i 0 l ∙ get_or-drop (8 * start) bs i 0 in
    let below : AreBelow 256 all = each_below 256 all (λ i l. omega (arith, at i (omega arith), small (8 * start + i))) in
    let ns : List ℕ = bytes_in (words_of bs) start n in
    let same : ns ≡ digits 256 n (from_digits 256 all) = ap (digits 256 n) (ap (from_digits (2 ^ 64)) (sym (words_of-part start w (8 * start) (8 * w) bs refl refl room)) ∙ words_are_bytes w all long) in
    let count : length ns ≡ suc m = ap length same ∙ length-digits 256 n (from_digits 256 all) ∙ omega arith in
    let last : get_or ns m 0 ≡ get_or bs (8 * start + n - 1) 0 =
    ap (λ xs. get_or xs m 0) same ∙ digit_of 256 n m all below (omega arith) (omega arith) ∙ at m (omega arith) ∙ ap (λ i. get_or bs i 0) (let e : 8 * start + m ≡ 8 * start + n - 1 = omega arith in e) in
    ap (λ x. nat_eq x 0) (sym last) ∙ sym (ends_at m ns count)
