-- A byte of a list of bytes, by the word that holds it.
use Rattle.std.proofs.Common.{◌≡◌, ℕ, zero, suc, ◌+◌, ◌-◌, ◌*◌, ◌/◌, ◌%◌, ◌^◌, ◌<◌, ◌≤◌, List, [], ◌∷◌, length, drop, get_or, sym, ap, ◌∙◌, arith, drop-cons}
use Rattle.std.proofs.lemmas.List.{get_or-take, get_or-drop}
use Rattle.std.proofs.lemmas.Nat.{shr-shr}
use Rattle.capnp_format.specs.Bytes.{words_of}
use Rattle.capnp_format.specs.Numbers.{from_digits, unpacked, words_for}
use Rattle.capnp_format.specs.Segments.{Segments, segment, word_at, words_at, HasSmallWords}
use Rattle.capnp_format.specs.Value.{AreBelow}
use Rattle.capnp_format.proofs.Bounds.{words_below}
use Rattle.capnp_format.proofs.FieldBytes.{cut}
use Rattle.capnp_format.proofs.LawLemmas.{element_is_bits}
use Rattle.capnp_format.proofs.Lies.{pow_pow}
use Rattle.capnp_format.proofs.Slices.{length_words}
use Rattle.capnp_format.proofs.WordsOf.{words, small_word}
use Rattle.capnp_pointers.specs.Reading.{list_byte}

-- byte j of a word, with other words after it
first_word : (w y j : ℕ) → j < 8 → (w + 2 ^ 64 * y) / 2 ^ (8 * j) % 2 ^ 8 ≡ w / 2 ^ (8 * j) % 2 ^ 8
first_word w y zero l = omega arith
first_word w y (suc zero) l = omega arith
first_word w y (suc (suc zero)) l = omega arith
first_word w y (suc (suc (suc zero))) l = omega arith
first_word w y (suc (suc (suc (suc zero)))) l = omega arith
first_word w y (suc (suc (suc (suc (suc zero))))) l = omega arith
first_word w y (suc (suc (suc (suc (suc (suc zero)))))) l = omega arith
first_word w y (suc (suc (suc (suc (suc (suc (suc zero))))))) l = omega arith
first_word w y _ l = absurd (omega arith)

-- byte i of words that are read as one number
byte_of_words : (ws : List ℕ) (i : ℕ) → AreBelow (2 ^ 64) ws → i / 8 < length ws → from_digits (2 ^ 64) ws / 2 ^ (8 * i) % 2 ^ 8 ≡ get_or ws (i / 8) 0 / 2 ^ (8 * (i % 8)) % 2 ^ 8
byte_of_words ws i small there =
    let k : ℕ = i / 8 in
    let o : ℕ = 8 * (i % 8) in
    let y : ℕ = from_digits (2 ^ 64) (drop (suc k) ws) in
    let above : from_digits (2 ^ 64) ws / 2 ^ (64 * k) ≡ from_digits (2 ^ 64) (drop k ws) = ap (λ p. from_digits (2 ^ 64) ws / p) (sym (pow_pow 64 k)) ∙ (cut (2 ^ 64) k ws small (omega arith)).others in
    let first : from_digits (2 ^ 64) (drop k ws) ≡ get_or ws k 0 + 2 ^ 64 * y = ap (from_digits (2 ^ 64)) (drop-cons ws k 0 there) in
    ap (λ e. from_digits (2 ^ 64) ws / 2 ^ e % 2 ^ 8) (let e : 8 * i ≡ 64 * k + o = omega arith in e)
    ∙ ap (λ x. x % 2 ^ 8) (sym (shr-shr (from_digits (2 ^ 64) ws) (64 * k) o) ∙ ap (λ x. x / 2 ^ o) (above ∙ first))
    ∙ first_word (get_or ws k 0) y (i % 8) (omega arith)

-- byte i of a list of bytes in a segment
byte_of_list : (S : Segments) (s p n i : ℕ) → HasSmallWords S s → p + words_for 2 n ≤ length (segment S s) → i < n →
    get_or (unpacked 2 n (words_at S s p (words_for 2 n))) i 0 ≡ word_at S s (p + i / 8) / 2 ^ (8 * (i % 8)) % 2 ^ 8
byte_of_list S s p n i small claims inside =
    let ws : List ℕ = words_at S s p (words_for 2 n) in
    let long : length ws ≡ words_for 2 n = length_words S s p (words_for 2 n) claims in
    let word : get_or ws (i / 8) 0 ≡ word_at S s (p + i / 8) = get_or-take (words_for 2 n) (drop p (segment S s)) (i / 8) 0 (omega arith) ∙ get_or-drop p (segment S s) (i / 8) 0 in
    element_is_bits 2 n i ws inside
    ∙ byte_of_words ws i (words_below S s p (words_for 2 n) small) (omega (arith, long))
    ∙ ap (λ x. x / 2 ^ (8 * (i % 8)) % 2 ^ 8) word

-- the last of the bytes from a word of a segment on
pub last_of_bytes : (bs : List ℕ) (p n : ℕ) → ((i : ℕ) → get_or bs i 0 < 256) → 8 * (p + words_for 2 n) ≤ length bs → 0 < n →
    list_byte (words_of bs) p n (n - 1) ≡ get_or (words_of bs) (p + (n - 1) / 8) 0 / 2 ^ (8 * ((n - 1) % 8)) % 2 ^ 8
last_of_bytes bs p n small room some =
    let there : p + words_for 2 n ≤ length (words_of bs) = omega (arith, words bs, room) in
    byte_of_list (words_of bs ∷ []) 0 p n (n - 1) (small_word bs small) there (omega (arith, some))
