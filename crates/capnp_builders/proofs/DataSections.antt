-- The words of a data section, those that a copy keeps of them, and where they are written.
use Rattle.std.proofs.Common.{◌≡◌, ◌≢◌, ℕ, zero, suc, ◌+◌, ◌-◌, ◌*◌, ◌/◌, ◌%◌, ◌^◌, ◌<◌, ◌≤◌, List, [], ◌∷◌, ◌++◌, length, get_or, set, take, drop, refl, sym, ap, ◌∙◌, subst, arith, append-nil, append_assoc, length-append, length-take, length-drop, take_all}
use Rattle.std.proofs.Math.Nat.{mod-one}
use Rattle.std.proofs.Math.Pow.{pow_mono}
use Rattle.std.proofs.Math.Seq.{drop-cons}
use Rattle.std.proofs.lemmas.List.{set-append_right, drop_more}
use Rattle.capnp_format.specs.Bytes.{words_of}
use Rattle.capnp_format.specs.Canonical.{used_words}
use Rattle.capnp_format.specs.Numbers.{from_digits}
use Rattle.capnp_format.specs.Segments.{Segments, segment}
use Rattle.capnp_format.specs.Value.{AreBelow}
use Rattle.capnp_format.proofs.Digits.{from_digits-below}
use Rattle.capnp_format.proofs.Lies.{pow_pow}
use Rattle.capnp_format.proofs.UsedUp.{used-zero, used-word}
use Rattle.capnp_format.proofs.WordsOf.{words}
use Rattle.capnp_arena_traits.specs.Written.{overwritten, with_word, with_words}
use Rattle.capnp_format.proofs.FieldBytes.{below_drop}
use Rattle.capnp_readers.specs.Sections.{bytes_for}
use Rattle.capnp_builders.specs.StructValues.{bits_left, section_words}

-- how long a section is

pub whole_long : (bits : ℕ) (bytes : List ℕ) → length bytes ≡ bytes_for bits → length (take (bits / 64) (words_of bytes)) ≡ bits / 64
whole_long bits bytes long = omega (arith, length-take (bits / 64) (words_of bytes), words bytes, long)

left_long : (n : ℕ) (bs : List ℕ) → n < 64 → length (bits_left n bs) ≡ (n + 63) / 64
left_long zero bs l = refl
left_long (suc n) bs l = omega arith

pub section_long : (bits : ℕ) (bytes : List ℕ) → length bytes ≡ bytes_for bits → length (section_words bits bytes) ≡ (bits + 63) / 64
section_long bits bytes long =
    omega (arith, length-append (take (bits / 64) (words_of bytes)) (bits_left (bits % 64) (drop (8 * (bits / 64)) bytes)), whole_long bits bytes long, left_long (bits % 64) (drop (8 * (bits / 64)) bytes) (omega arith))

pub whole_section : (d : ℕ) (bytes : List ℕ) → length bytes ≡ 8 * d → section_words (64 * d) bytes ≡ words_of bytes
whole_section d bytes long =
    let none : 64 * d % 64 ≡ 0 = omega arith in
    let all : 64 * d / 64 ≡ d = omega arith in
    ap (λ n. take (64 * d / 64) (words_of bytes) ++ bits_left n (drop (8 * (64 * d / 64)) bytes)) none ∙ append-nil (take (64 * d / 64) (words_of bytes)) ∙ take_all (64 * d / 64) (words_of bytes) (omega (arith, words bytes, long, all))

-- what is kept of a data section

unused_left : (ws : List ℕ) (n : ℕ) (bs : List ℕ) → from_digits 256 bs % 2 ^ n ≡ 0 → used_words (ws ++ bits_left n bs) ≡ used_words ws
unused_left ws zero bs h = ap used_words (append-nil ws)
unused_left ws (suc n) bs h = ap (λ x. used_words (ws ++ x ∷ [])) h ∙ used-zero ws

used_left : (ws : List ℕ) (n : ℕ) (bs : List ℕ) → from_digits 256 bs % 2 ^ n ≢ 0 → used_words (ws ++ bits_left n bs) ≡ suc (length ws)
used_left ws zero bs h = absurd (h (mod-one (from_digits 256 bs)))
used_left ws (suc n) bs h = used-word ws (from_digits 256 bs % 2 ^ suc n) h

pub last_unused : (bits : ℕ) (bytes : List ℕ) → from_digits 256 (drop (8 * (bits / 64)) bytes) % 2 ^ (bits % 64) ≡ 0 → used_words (section_words bits bytes) ≡ used_words (take (bits / 64) (words_of bytes))
last_unused bits bytes h = unused_left (take (bits / 64) (words_of bytes)) (bits % 64) (drop (8 * (bits / 64)) bytes) h

pub last_used : (bits : ℕ) (bytes : List ℕ) → length bytes ≡ bytes_for bits → from_digits 256 (drop (8 * (bits / 64)) bytes) % 2 ^ (bits % 64) ≢ 0 → used_words (section_words bits bytes) ≡ bits / 64 + 1
last_used bits bytes long h = omega (arith, used_left (take (bits / 64) (words_of bytes)) (bits % 64) (drop (8 * (bits / 64)) bytes) h, whole_long bits bytes long)

-- the first words of a data section

some_left : (n : ℕ) (bs : List ℕ) → 0 < n → bits_left n bs ≡ from_digits 256 bs % 2 ^ n ∷ []
some_left zero bs l = absurd (omega arith)
some_left (suc n) bs l = refl

pub all_words : (k bits : ℕ) (bytes : List ℕ) → length bytes ≡ bytes_for bits → bits / 64 < k → k ≤ length (section_words bits bytes) →
    take (bits / 64) (words_of bytes) ++ from_digits 256 (drop (8 * (bits / 64)) bytes) % 2 ^ (bits % 64) ∷ [] ≡ take k (section_words bits bytes)
all_words k bits bytes long more l =
    let len = section_long bits bytes long in
    ap (λ xs. take (bits / 64) (words_of bytes) ++ xs) (sym (some_left (bits % 64) (drop (8 * (bits / 64)) bytes) (omega arith))) ∙ sym (take_all k (section_words bits bytes) (omega arith))

-- the bits after its whole words, from the last byte on

pub each_below : (bs : List ℕ) → ((i : ℕ) → get_or bs i 0 < 256) → AreBelow 256 bs
each_below [] h = tt
each_below (b ∷ bs) h = (h 0, each_below bs (λ i. h (suc i)))

pub digit_ahead : (i j : ℕ) (bs : List ℕ) → i < length bs → j ≡ i + 1 → from_digits 256 (drop j bs) * 256 + get_or bs i 0 ≡ from_digits 256 (drop i bs)
digit_ahead i j bs l e =
    let f : from_digits 256 (drop i bs) ≡ get_or bs i 0 + 256 * from_digits 256 (drop (i + 1) bs) = ap (from_digits 256) (drop_more bs i 0 l) in
    let g : from_digits 256 (drop j bs) ≡ from_digits 256 (drop (i + 1) bs) = ap (λ k. from_digits 256 (drop k bs)) e in
    omega (arith, f, g)

pub digits_small : (i : ℕ) (bs : List ℕ) → AreBelow 256 bs → length bs ≤ i + 8 → from_digits 256 (drop i bs) < 2 ^ 64
digits_small i bs below l =
    let ds : List ℕ = drop i bs in
    let few : length ds ≤ 8 = omega (arith, length-drop i bs) in
    let limit : 256 ^ length ds ≤ 2 ^ 64 = subst (λ x. x ≤ 2 ^ 64) (sym (pow_pow 8 (length ds))) (let f : 8 * length ds ≤ 64 = omega arith in pow_mono f) in
    omega (arith, from_digits-below 256 ds (below_drop 256 i bs below), limit)

-- a word after words that were written

word_more : (xs ws : List ℕ) (p x : ℕ) → p + length ws < length xs → set (overwritten xs p ws) (p + length ws) x ≡ overwritten xs p (ws ++ x ∷ [])
word_more xs ws p x l =
    let behind : List ℕ = drop p xs in
    let rest : List ℕ = drop (length ws) behind in
    let more : rest ≡ get_or behind (length ws) 0 ∷ drop (suc (length ws)) behind = drop-cons behind (length ws) 0 (omega (arith, length-drop p xs)) in
    let len : suc (length ws) ≡ length (ws ++ x ∷ []) = omega (arith, length-append ws (x ∷ [])) in
    set-append_right (take p xs) (ws ++ rest) p (p + length ws) x (omega (arith, length-take p xs)) (omega arith)
    ∙ ap (λ i. take p xs ++ set (ws ++ rest) i x) (let e : p + length ws - p ≡ length ws = omega arith in e)
    ∙ ap (λ ys. take p xs ++ ys) (
    set-append_right ws rest (length ws) (length ws) x refl (omega arith)
    ∙ ap (λ i. ws ++ set rest i x) (let e : length ws - length ws ≡ 0 = omega arith in e)
    ∙ ap (λ ys. ws ++ set ys 0 x) more
    ∙ sym (append_assoc ws (x ∷ []) (drop (suc (length ws)) behind))
    ∙ ap (λ k. (ws ++ x ∷ []) ++ drop k behind) len
    )

pub with_words_more : (S : Segments) (s p : ℕ) (ws : List ℕ) (x : ℕ) → p + length ws < length (segment S s) → with_word (with_words S s p ws) s (p + length ws) x ≡ with_words S s p (ws ++ x ∷ [])
with_words_more [] s p ws x l = refl
with_words_more (xs ∷ S) zero p ws x l = ap (λ ys. ys ∷ S) (word_more xs ws p x l)
with_words_more (xs ∷ S) (suc s) p ws x l = ap (λ T. xs ∷ T) (with_words_more S s p ws x l)
