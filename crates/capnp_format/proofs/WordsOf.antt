-- The words of bytes: joined, cut, one read, some written. The lemmas on words put and cut keep
-- their arguments one by one, because other crates cite them in this form, by name and in rule
-- sets.
use Rattle.std.proofs.Common.{◌≡◌, ℕ, zero, suc, ◌+◌, ◌*◌, ◌/◌, ◌^◌, ◌<◌, ◌≤◌, List, [], ◌∷◌, ◌++◌, length, get_or, set, take, drop, replicate, refl, sym, ap, ◌∙◌, arith, length-take, length-drop, take-append-drop, take_at, drop_at, drop-drop, get_or-drop, add-zero}
use Rattle.std.proofs.lemmas.List.{set_split, length-replicate}
use Rattle.std.proofs.lemmas.Nat.{from_le_bytes-to_le_bytes_8}
use Rattle.std.specs.Int.{from_le_bytes, to_le_bytes, w64}
use borrow.Rule.Slice.PartMut.{put_mid}
use Rattle.capnp_format.specs.Bytes.{words_of}

-- eight times a successor, in the form in which lists count
eights : (n : ℕ) → 8 * suc n ≡ suc (suc (suc (suc (suc (suc (suc (suc (8 * n))))))))
eights n = omega arith

-- n words of bytes before other bytes
pub words_of-append : (n : ℕ) (xs ys : List ℕ) → length xs ≡ 8 * n → words_of (xs ++ ys) ≡ words_of xs ++ words_of ys
words_of-append zero [] ys l = refl
words_of-append (suc n) (a ∷ b ∷ c ∷ d ∷ e ∷ f ∷ g ∷ h ∷ rest) ys l =
    ap (λ ws. from_le_bytes w64 (a ∷ b ∷ c ∷ d ∷ e ∷ f ∷ g ∷ h ∷ []) ∷ ws) (words_of-append n rest ys (omega arith))
words_of-append zero (a ∷ xs) ys l = absurd (omega arith)
words_of-append (suc n) _ ys l = absurd (omega arith)

pub length-words_of : (n : ℕ) (bs : List ℕ) → 8 * n ≤ length bs → length bs < 8 * n + 8 → length (words_of bs) ≡ n
length-words_of (suc n) (a ∷ b ∷ c ∷ d ∷ e ∷ f ∷ g ∷ h ∷ rest) l m = ap suc (length-words_of n rest (omega arith) (omega arith))
length-words_of zero (a ∷ b ∷ c ∷ d ∷ e ∷ f ∷ g ∷ h ∷ rest) l m = absurd (omega arith)
length-words_of zero [] l m = refl
length-words_of zero (_ ∷ []) l m = refl
length-words_of zero (_ ∷ _ ∷ []) l m = refl
length-words_of zero (_ ∷ _ ∷ _ ∷ []) l m = refl
length-words_of zero (_ ∷ _ ∷ _ ∷ _ ∷ []) l m = refl
length-words_of zero (_ ∷ _ ∷ _ ∷ _ ∷ _ ∷ []) l m = refl
length-words_of zero (_ ∷ _ ∷ _ ∷ _ ∷ _ ∷ _ ∷ []) l m = refl
length-words_of zero (_ ∷ _ ∷ _ ∷ _ ∷ _ ∷ _ ∷ _ ∷ []) l m = refl
length-words_of (suc n) _ l m = absurd (omega arith)

pub words : (bs : List ℕ) → length (words_of bs) ≡ length bs / 8
words bs = length-words_of (length bs / 8) bs (omega arith) (omega arith)

-- the first n words, and the others
pub words_of-split : (n : ℕ) (bs : List ℕ) → 8 * n ≤ length bs → words_of bs ≡ words_of (take (8 * n) bs) ++ words_of (drop (8 * n) bs)
words_of-split n bs l =
    ap words_of (sym (take-append-drop (8 * n) bs)) ∙ words_of-append n (take (8 * n) bs) (drop (8 * n) bs) (omega (arith, length-take (8 * n) bs))

length-first : (n : ℕ) (bs : List ℕ) → 8 * n ≤ length bs → length (words_of (take (8 * n) bs)) ≡ n
length-first n bs l = length-words_of n (take (8 * n) bs) (omega (arith, length-take (8 * n) bs)) (omega (arith, length-take (8 * n) bs))

pub words_of-take : (n : ℕ) (bs : List ℕ) → 8 * n ≤ length bs → words_of (take (8 * n) bs) ≡ take n (words_of bs)
words_of-take n bs l =
    sym (take_at (words_of (take (8 * n) bs)) (words_of (drop (8 * n) bs)) n (length-first n bs l)) ∙ ap (take n) (sym (words_of-split n bs l))

pub words_of-drop : (n : ℕ) (bs : List ℕ) → 8 * n ≤ length bs → words_of (drop (8 * n) bs) ≡ drop n (words_of bs)
words_of-drop n bs l =
    sym (drop_at (words_of (take (8 * n) bs)) (words_of (drop (8 * n) bs)) n (length-first n bs l)) ∙ ap (drop n) (sym (words_of-split n bs l))

pub words_of-zeros : (n : ℕ) → words_of (replicate (8 * n) 0) ≡ replicate n 0
words_of-zeros zero = refl
words_of-zeros (suc n) = ap (λ k. words_of (replicate k 0)) (eights n) ∙ ap (λ ws. 0 ∷ ws) (words_of-zeros n)

-- words that overwrite others
pub words_of-put_mid : (a k : ℕ) (bs ys : List ℕ) → 8 * (a + k) ≤ length bs → length ys ≡ 8 * k → words_of (put_mid (8 * a) (8 * k) bs ys) ≡ put_mid a k (words_of bs) (words_of ys)
words_of-put_mid a k bs ys l m =
    words_of-append a (take (8 * a) bs) (ys ++ drop (8 * k) (drop (8 * a) bs)) (omega (arith, length-take (8 * a) bs))
    ∙ ap (λ ws. words_of (take (8 * a) bs) ++ ws) (words_of-append k ys (drop (8 * k) (drop (8 * a) bs)) m)
    ∙ ap (λ ws. ws ++ (words_of ys ++ words_of (drop (8 * k) (drop (8 * a) bs)))) (words_of-take a bs (omega arith))
    ∙ ap (λ ws. take a (words_of bs) ++ (words_of ys ++ ws)) (words_of-drop k (drop (8 * a) bs) (omega (arith, length-drop (8 * a) bs)) ∙ ap (drop k) (words_of-drop a bs (omega arith)))

-- one word written
pub words_of-put : {ys : List ℕ} (a w : ℕ) (bs : List ℕ) → 8 * a + 8 ≤ length bs → w < 2 ^ 64 → ys ≡ to_le_bytes w64 w → words_of (put_mid (8 * a) 8 bs ys) ≡ set (words_of bs) a w
words_of-put {ys = ys} a w bs l m e =
    words_of-put_mid a 1 bs ys (omega arith) (ap length e)
    ∙ ap (λ zs. put_mid a 1 (words_of bs) (words_of zs)) e
    ∙ ap (λ v. put_mid a 1 (words_of bs) (v ∷ [])) (from_le_bytes-to_le_bytes_8 w m)
    ∙ ap (λ ws. take a (words_of bs) ++ (w ∷ ws)) (drop-drop 1 a (words_of bs) ∙ ap (λ n. drop n (words_of bs)) (let q : a + 1 ≡ suc a = omega arith in q))
    ∙ sym (set_split (words_of bs) a w (omega (arith, words bs)))

-- one word written, in the form that the code has
pub words_of-put_at : (a w start k : ℕ) (bs ys : List ℕ) → start ≡ 8 * a → k ≡ 8 → 8 * a + 8 ≤ length bs → w < 2 ^ 64 → ys ≡ to_le_bytes w64 w → words_of (put_mid start k bs ys) ≡ set (words_of bs) a w
words_of-put_at a w start k bs ys s e l m b = rw (s, e) (words_of-put a w bs l m b)

pub words_of-put_mid_at : (a n start k : ℕ) (bs ys : List ℕ) → start ≡ 8 * a → k ≡ 8 * n → 8 * (a + n) ≤ length bs → length ys ≡ 8 * n → words_of (put_mid start k bs ys) ≡ put_mid a n (words_of bs) (words_of ys)
words_of-put_mid_at a n start k bs ys s e l m = rw (s, e) (words_of-put_mid a n bs ys l m)

first_word : (bs : List ℕ) → 8 ≤ length bs →
    get_or (words_of bs) 0 0 ≡ from_le_bytes w64 (get_or bs 0 0 ∷ get_or bs 1 0 ∷ get_or bs 2 0 ∷ get_or bs 3 0 ∷ get_or bs 4 0 ∷ get_or bs 5 0 ∷ get_or bs 6 0 ∷ get_or bs 7 0 ∷ [])
first_word (a ∷ b ∷ c ∷ d ∷ e ∷ f ∷ g ∷ h ∷ rest) l = refl
first_word _ l = absurd (omega arith)

-- one word read, by its bytes
pub word_bytes : (i : ℕ) (bs : List ℕ) → 8 * i + 8 ≤ length bs →
    get_or (words_of bs) i 0 ≡ from_le_bytes w64 (get_or bs (8 * i) 0 ∷ get_or bs (8 * i + 1) 0 ∷ get_or bs (8 * i + 2) 0 ∷ get_or bs (8 * i + 3) 0 ∷ get_or bs (8 * i + 4) 0 ∷ get_or bs (8 * i + 5) 0 ∷ get_or bs (8 * i + 6) 0 ∷ get_or bs (8 * i + 7) 0 ∷ [])
word_bytes i bs l =
    ap (λ n. get_or (words_of bs) n 0) (let q : i ≡ i + 0 = omega arith in q)
    ∙ sym (get_or-drop i (words_of bs) 0 0)
    ∙ ap (λ ws. get_or ws 0 0) (sym (words_of-drop i bs (omega arith)))
    ∙ first_word (drop (8 * i) bs) (omega (arith, length-drop (8 * i) bs))
    ∙ simp (get_or-drop, add-zero) refl

pub words_of-put_zeros : (a n start k : ℕ) (bs ys : List ℕ) → start ≡ 8 * a → k ≡ 8 * n → 8 * (a + n) ≤ length bs → ys ≡ replicate (8 * n) 0 → words_of (put_mid start k bs ys) ≡ put_mid a n (words_of bs) (replicate n 0)
words_of-put_zeros a n start k bs ys s e l z =
    words_of-put_mid_at a n start k bs ys s e l (ap length z ∙ length-replicate (8 * n) 0) ∙ ap (put_mid a n (words_of bs)) (ap words_of z ∙ words_of-zeros n)

pub ruleset put_words = (words_of-put_at, words_of-put_mid_at, words_of-put_zeros)

pub words_of-part : (a n i j : ℕ) (bs : List ℕ) → i ≡ 8 * a → j ≡ 8 * n → 8 * (a + n) ≤ length bs → words_of (take j (drop i bs)) ≡ take n (drop a (words_of bs))
words_of-part a n i j bs e f l =
    rw (e, f) (words_of-take n (drop (8 * a) bs) (omega (arith, length-drop (8 * a) bs)) ∙ ap (take n) (words_of-drop a bs (omega arith)))

pub ruleset part_words = (words_of-part, words)

-- Each word of bytes has 64 bits.
pub small_word : (bs : List ℕ) → ((i : ℕ) → get_or bs i 0 < 256) → (i : ℕ) → get_or (words_of bs) i 0 < 2 ^ 64
small_word (a ∷ b ∷ c ∷ d ∷ e ∷ f ∷ g ∷ h ∷ rest) l zero = omega (arith, l 0, l 1, l 2, l 3, l 4, l 5, l 6, l 7)
small_word (a ∷ b ∷ c ∷ d ∷ e ∷ f ∷ g ∷ h ∷ rest) l (suc i) = small_word rest (λ j. l (suc (suc (suc (suc (suc (suc (suc (suc j))))))))) i
small_word _ l i = omega arith
