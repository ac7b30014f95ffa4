-- Zero bytes in parts, and what is written in parts.
use Rattle.std.proofs.Common.{◌≡◌, ◌↔◌, ℕ, zero, suc, ◌+◌, ◌-◌, ◌*◌, ◌/◌, ◌≤◌, Bool, false, IsTrue, List, [], ◌∷◌, ◌++◌, length, take, drop, replicate, refl, sym, ap, ap₂, ◌∙◌, arith, length-take, length-drop, take-append-drop, take-add, take_all, append-nil, append_assoc}
use Rattle.std.specs.List.{All}
use Rattle.std.proofs.lemmas.Bool.{false≢true}
use Rattle.std.proofs.lemmas.List.{replicate-append-replicate, length-replicate, take-take, take-replicate, drop_all}
use Rattle.std.proofs.lemmas.List.Elements.{All-nil, All-cons, All-head, All-tail, All-append, All-take, All-drop, All-same}
use Rattle.std.proofs.lemmas.Nat.{le_or_l, le_or_r}
use Rattle.std.proofs.lemmas.Simd.{take_more_put_chunk, put_chunk_is, length-chunk, length-put_chunk}
use Rattle.capnp_format.specs.Bytes.{words_of}
use Rattle.capnp_format.specs.Canonical.{used_words}
use Rattle.capnp_format.proofs.UsedUp.{used-zero}
use Rattle.capnp_format.proofs.WordsOf.{words, words_of-part, words_of-zeros}
use lib.Bits.{bit_or}
use lib.Lanes.{fold_l, chunk, put_chunk}

abbrev pub IsZeroByte : ℕ → Type 0
IsZeroByte byte = byte ≡ 0

-- All lanes combined by or are zero exactly if each is zero.
or_zero : (a : ℕ) (xs : List ℕ) → fold_l bit_or a xs ≡ 0 → (a ≡ 0) × All IsZeroByte xs
or_zero a [] e = (e, All-nil IsZeroByte)
or_zero a (x ∷ xs) e =
    let r = or_zero (bit_or a x) xs e in
    (omega (arith, le_or_l a x, r.0), All-cons IsZeroByte x xs (omega (arith, le_or_r a x, r.0)) r.1)

zero_or : (a : ℕ) (xs : List ℕ) → a ≡ 0 → All IsZeroByte xs → fold_l bit_or a xs ≡ 0
zero_or a [] e h = e
zero_or a (x ∷ xs) e h = zero_or (bit_or a x) xs (ap₂ bit_or e (All-head IsZeroByte x xs h)) (All-tail IsZeroByte x xs h)

pub all_or : (xs : List ℕ) → (fold_l bit_or 0 xs ≡ 0) ↔ All IsZeroByte xs
all_or xs = ((λ e. (or_zero 0 xs e).1), (λ h. zero_or 0 xs refl h))

-- one part more
pub zero_so_far : (at n : ℕ) (bs : List ℕ) → All IsZeroByte (take at bs) → All IsZeroByte (take n (drop at bs)) → All IsZeroByte (take (at + n) bs)
zero_so_far at n bs h k = All-same IsZeroByte (take (at + n) bs) (take at bs ++ take n (drop at bs)) (take-add at n bs) (All-append IsZeroByte (take at bs) (take n (drop at bs)) h k)

-- a part that isn't zero
pub not_zero : {b : Bool} (at n : ℕ) (bs : List ℕ) → IsTrue b ↔ All IsZeroByte (take n (drop at bs)) → b ≡ false → IsTrue false ↔ All IsZeroByte bs
not_zero at n bs f e = ((λ t. absurd (false≢true t)), (λ a. absurd (false≢true (sym e ∙ f.1 (All-take IsZeroByte n (drop at bs) (All-drop IsZeroByte at bs a))))))

-- all bytes after parts that are zero
pub zero_behind : {b : Bool} {rest : List ℕ} (at : ℕ) (bs : List ℕ) → All IsZeroByte (take at bs) → rest ≡ drop at bs → IsTrue b ↔ All IsZeroByte rest → IsTrue b ↔ All IsZeroByte bs
zero_behind {rest = rest} at bs h e f = (
  (λ t. All-same IsZeroByte bs (take at bs ++ rest) (sym (take-append-drop at bs) ∙ ap (λ xs. take at bs ++ xs) (sym e)) (All-append IsZeroByte (take at bs) rest h (f.0 t))),
  (λ a. f.1 (All-same IsZeroByte rest (drop at bs) e (All-drop IsZeroByte at bs a))),
)

-- zero words at the end

zeros : (bs : List ℕ) → All IsZeroByte bs → bs ≡ replicate (length bs) 0
zeros [] h = refl
zeros (b ∷ bs) h = ap₂ (λ x (xs : List ℕ). x ∷ xs) (All-head IsZeroByte b bs h) (zeros bs (All-tail IsZeroByte b bs h))

zero_words : (n : ℕ) (bs : List ℕ) → length bs ≡ 8 * n → All IsZeroByte bs → words_of bs ≡ replicate n 0
zero_words n bs l h = ap words_of (zeros bs h ∙ ap (λ k. replicate k 0) l) ∙ words_of-zeros n

used-zeros : (k : ℕ) (xs : List ℕ) → used_words (xs ++ replicate k 0) ≡ used_words xs
used-zeros zero xs = ap used_words (append-nil xs)
used-zeros (suc k) xs = ap used_words (sym (append_assoc xs (0 ∷ []) (replicate k 0))) ∙ used-zeros k (xs ++ 0 ∷ []) ∙ used-zero xs

pub used_before_block : (end : ℕ) (bs : List ℕ) → 8 ≤ end → 8 * end ≤ length bs → All IsZeroByte (take 64 (drop (8 * (end - 8)) bs)) → used_words (take end (words_of bs)) ≡ used_words (take (end - 8) (words_of bs))
used_before_block end bs some l h =
    let m : ℕ = end - 8 in
    let ws : List ℕ = words_of bs in
    let part : List ℕ = take 64 (drop (8 * m) bs) in
    let eight : take 8 (drop m ws) ≡ replicate 8 0 =
    sym (words_of-part m 8 (8 * m) 64 bs refl refl (omega arith)) ∙ zero_words 8 part (omega (arith, length-take 64 (drop (8 * m) bs), length-drop (8 * m) bs)) h in
    ap (λ n. used_words (take n ws)) (let e : end ≡ m + 8 = omega arith in e)
    ∙ ap used_words (take-add m 8 ws)
    ∙ ap (λ xs. used_words (take m ws ++ xs)) eight
    ∙ used-zeros 8 (take m ws)

-- the used words are those of the whole words
pub used_all : (bs : List ℕ) → used_words (words_of bs) ≡ used_words (take (length bs / 8) (words_of bs))
used_all bs = ap used_words (sym (take_all (length bs / 8) (words_of bs) (omega (arith, words bs))))

-- bytes that are written in parts, the last part up to the end

pub zeroed_last : (at n : ℕ) (bs : List ℕ) → n ≤ length bs → length bs ≤ at + n → at ≤ length bs → take at bs ≡ replicate at 0 → put_chunk (length bs - n) bs (replicate n 0) ≡ replicate (length bs) 0
zeroed_last at n bs l m inside e =
    let i : ℕ = length bs - n in
    let front : take i bs ≡ replicate i 0 = sym (take-take i at bs (omega arith)) ∙ ap (take i) e ∙ take-replicate i at 0 (omega arith) in
    let none : drop (length (replicate n 0)) (drop i bs) ≡ [] = drop_all (length (replicate n 0)) (drop i bs) (omega (arith, length-drop i bs, length-replicate {A = ℕ} n 0)) in
    put_chunk_is i bs (replicate n 0) (omega (arith, length-replicate {A = ℕ} n 0))
    ∙ ap₂ (λ (xs ys : List ℕ). xs ++ (replicate n 0 ++ ys)) front none
    ∙ ap (λ (xs : List ℕ). replicate i 0 ++ xs) (append-nil (replicate n 0))
    ∙ replicate-append-replicate i n 0
    ∙ ap (λ k. replicate k 0) (let g : i + n ≡ length bs = omega arith in g)

-- bytes zeroed in two parts, from the front and up to the end
pub zeroed_ends : (n : ℕ) (bs : List ℕ) → n ≤ length bs → length bs ≤ n + n → put_chunk (length bs - n) (put_chunk 0 bs (replicate n 0)) (replicate n 0) ≡ replicate (length bs) 0
zeroed_ends n bs l m =
    let cs : List ℕ = put_chunk 0 bs (replicate n 0) in
    let long : length cs ≡ length bs = length-put_chunk 0 bs (replicate n 0) in
    let first : take n cs ≡ replicate n 0 = take_more_put_chunk 0 bs (replicate n 0) n (omega (arith, length-replicate {A = ℕ} n 0)) l in
    ap (λ k. put_chunk (k - n) cs (replicate n 0)) (sym long) ∙ zeroed_last n n cs (omega (arith, long)) (omega (arith, long)) (omega (arith, long)) first ∙ ap (λ k. replicate k 0) long

pub copied_last : (at n : ℕ) (from to : List ℕ) → length from ≡ length to → n ≤ length from → length from ≤ at + n → at ≤ length from → take at to ≡ take at from → put_chunk (length from - n) to (chunk (length from - n) n from) ≡ from
copied_last at n from to same l m inside e =
    let i : ℕ = length from - n in
    let part : List ℕ = chunk i n from in
    let long : length part ≡ n = length-chunk i n from (omega arith) in
    let front : take i to ≡ take i from = sym (take-take i at to (omega arith)) ∙ ap (take i) e ∙ take-take i at from (omega arith) in
    let none : drop (length part) (drop i to) ≡ [] = drop_all (length part) (drop i to) (omega (arith, length-drop i to, long)) in
    put_chunk_is i to part (omega (arith, long))
    ∙ ap₂ (λ (xs ys : List ℕ). xs ++ (part ++ ys)) front none
    ∙ ap (λ (xs : List ℕ). take i from ++ xs) (append-nil part)
    ∙ sym (take-add i n from)
    ∙ take_all (i + n) from (omega arith)

pub copied_ends : (n : ℕ) (from to : List ℕ) → length from ≡ length to → n ≤ length from → length from ≤ n + n → put_chunk (length from - n) (put_chunk 0 to (chunk 0 n from)) (chunk (length from - n) n from) ≡ from
copied_ends n from to same l m =
    let cs : List ℕ = put_chunk 0 to (chunk 0 n from) in
    let long : length cs ≡ length to = length-put_chunk 0 to (chunk 0 n from) in
    let first : take n cs ≡ take n from = take_more_put_chunk 0 to (chunk 0 n from) n (omega (arith, length-chunk 0 n from (omega arith))) (omega arith) in
    copied_last n n from cs (omega (arith, long)) l m l first
