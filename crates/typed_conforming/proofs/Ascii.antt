-- Words without the highest bit of any byte hold ASCII, which is UTF-8.
use Rattle.std.proofs.Common.{◌≡◌, ℕ, zero, suc, ◌+◌, ◌-◌, ◌*◌, ◌/◌, ◌%◌, ◌^◌, ◌<◌, ◌≤◌, true, List, [], ◌∷◌, take, drop, length, get_or, bit_and, refl, sym, ap, ◌∙◌, arith, get_or-drop, length-take, length-drop}
use Rattle.std.proofs.lemmas.Nat.{and_block, and_mask}
use Rattle.std.proofs.lemmas.Str.{IsUtf8-from_ascii, is_utf8-from_IsUtf8}
use Rattle.std.specs.Str.{is_utf8}
use Rattle.capnp_format.specs.Numbers.{from_digits, digits, words_for}
use Rattle.capnp_format.specs.Segments.{Segments, segment, words_at}
use Rattle.capnp_format.specs.Value.{AreBelow}
use Rattle.typed_conforming.specs.Misfits.{IsAsciiWord, bytes_are_utf8}
use Rattle.typed_conforming.proofs.TextBytes.{take-digits}

-- The highest bits of n bytes, and of n words.
abbrev highs : ℕ → ℕ
highs zero = 0
highs (suc n) = highs n * 2 ^ 8 + 128

abbrev high_words : ℕ → ℕ
high_words zero = 0
high_words (suc n) = high_words n * 2 ^ 64 + 0x8080_8080_8080_8080

eight_more : (n : ℕ) → highs (suc (suc (suc (suc (suc (suc (suc (suc n)))))))) ≡ highs n * 2 ^ 64 + 0x8080_8080_8080_8080
eight_more n = omega arith

highs_of_words : (n : ℕ) → highs (8 * n) ≡ high_words n
highs_of_words zero = refl
highs_of_words (suc n) =
    let eight : 8 * suc n ≡ suc (suc (suc (suc (suc (suc (suc (suc (8 * n)))))))) = omega arith in
    ap highs eight ∙ eight_more (8 * n) ∙ ap (λ x. x * 2 ^ 64 + 0x8080_8080_8080_8080) (highs_of_words n)

-- A byte without its highest bit.
low_byte : (d : ℕ) → d < 256 → bit_and d 128 ≡ 0 → d < 128
low_byte d small none =
    let whole : d / 128 * 2 ^ 7 + d % 128 ≡ d = omega arith in
    let split : bit_and (d / 128 * 2 ^ 7 + d % 128) (1 * 2 ^ 7 + 0) ≡ bit_and (d / 128) 1 * 2 ^ 7 + bit_and (d % 128) 0 = and_block 7 (d / 128) 1 (d % 128) 0 (omega arith) (omega arith) in
    let parts : bit_and d 128 ≡ bit_and (d / 128) 1 * 2 ^ 7 + bit_and (d % 128) 0 = sym (ap (λ x. bit_and x 128) whole) ∙ split in
    let odd : bit_and (d / 128) 1 ≡ d / 128 % 2 ^ 1 = and_mask (d / 128) 1 in
    omega (arith, small, none, parts, odd)

low_bytes : (n m x : ℕ) → m ≤ n → bit_and x (highs n) ≡ 0 → AreBelow 128 (digits 256 m x)
low_bytes n zero x few none = tt
low_bytes zero (suc m) x few none = absurd (omega arith)
low_bytes (suc n) (suc m) x few none =
    let whole : x / 256 * 2 ^ 8 + x % 256 ≡ x = omega arith in
    let split : bit_and (x / 256 * 2 ^ 8 + x % 256) (highs n * 2 ^ 8 + 128) ≡ bit_and (x / 256) (highs n) * 2 ^ 8 + bit_and (x % 256) 128 = and_block 8 (x / 256) (highs n) (x % 256) 128 (omega arith) (omega arith) in
    let parts : bit_and x (highs n * 2 ^ 8 + 128) ≡ bit_and (x / 256) (highs n) * 2 ^ 8 + bit_and (x % 256) 128 = sym (ap (λ y. bit_and y (highs n * 2 ^ 8 + 128)) whole) ∙ split in
    (low_byte (x % 256) (omega arith) (omega (arith, none, parts)), low_bytes n m (x / 256) (omega (arith, few)) (omega (arith, none, parts)))

-- Each word of a list is ASCII.
abbrev AreAscii : List ℕ → Type 0
AreAscii [] = Unit {0}
AreAscii (w ∷ ws) = IsAsciiWord w × AreAscii ws

no_high_bits : (ws : List ℕ) → AreAscii ws → bit_and (from_digits (2 ^ 64) ws) (high_words (length ws)) ≡ 0
no_high_bits [] h = refl
no_high_bits (w ∷ ws) h =
    let rest : ℕ = from_digits (2 ^ 64) ws in
    let top : ℕ = high_words (length ws) in
    let below : bit_and rest top ≡ 0 = no_high_bits ws h.1 in
    let here : bit_and w 0x8080_8080_8080_8080 ≡ 0 = h.0.1 in
    let order : w + 2 ^ 64 * rest ≡ rest * 2 ^ 64 + w = omega arith in
    let split : bit_and (rest * 2 ^ 64 + w) (top * 2 ^ 64 + 0x8080_8080_8080_8080) ≡ bit_and rest top * 2 ^ 64 + bit_and w 0x8080_8080_8080_8080 = and_block 64 rest top w 0x8080_8080_8080_8080 h.0.0 (omega arith) in
    ap (λ x. bit_and x (top * 2 ^ 64 + 0x8080_8080_8080_8080)) order ∙ split ∙ omega (arith, below, here)

ascii_range : (n : ℕ) (xs : List ℕ) → ((k : ℕ) → k < n → IsAsciiWord (get_or xs k 0)) → AreAscii (take n xs)
ascii_range zero xs h = tt
ascii_range (suc n) [] h = tt
ascii_range (suc n) (x ∷ xs) h = (h 0 (omega arith), ascii_range n xs (λ k l. h (suc k) (omega (arith, l))))

each : (xs : List ℕ) → AreBelow 128 xs → (i : ℕ) → get_or xs i 0 < 128
each [] h i = omega arith
each (x ∷ xs) h zero = h.0
each (x ∷ xs) h (suc i) = each xs h.1 i

-- A text in ASCII words is UTF-8.
pub ascii_text : (S : Segments) (s p n : ℕ) → p + words_for 2 n ≤ length (segment S s) → ((k : ℕ) → k < words_for 2 n → IsAsciiWord (get_or (segment S s) (p + k) 0)) → true ≡ bytes_are_utf8 S s p n
ascii_text S s p n room h =
    let count : ℕ = words_for 2 n in
    let ws : List ℕ = words_at S s p count in
    let x : ℕ = from_digits (2 ^ 64) ws in
    let ascii : AreAscii ws = ascii_range count (drop p (segment S s)) (λ k l. rw (get_or-drop p (segment S s) k 0) (h k l)) in
    let long : length ws ≡ count = omega (arith, length-take count (drop p (segment S s)), length-drop p (segment S s), room) in
    let none : bit_and x (highs (8 * length ws)) ≡ 0 = ap (bit_and x) (highs_of_words (length ws)) ∙ no_high_bits ws ascii in
    let bytes : List ℕ = digits 256 (n - 1) x in
    let low : AreBelow 128 bytes = low_bytes (8 * length ws) (n - 1) x (omega (arith, long)) none in
    sym (ap is_utf8 (take-digits (n - 1) n x (omega arith)) ∙ is_utf8-from_IsUtf8 bytes (IsUtf8-from_ascii bytes (each bytes low)))
