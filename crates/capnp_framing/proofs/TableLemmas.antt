-- A table is written number by number, and the words segment by segment.
use Rattle.std.proofs.Common.{◌≡◌, ℕ, zero, suc, ◌+◌, ◌-◌, ◌*◌, ◌/◌, ◌%◌, ◌^◌, ◌<◌, ◌≤◌, List, [], ◌∷◌, ◌++◌, length, get_or, take, drop, replicate, refl, sym, ap, ap₂, ◌∙◌, arith, length-append, append-nil, append_assoc, take_at, drop_at, Some}
use Rattle.std.specs.List.{All, slice_get}
use Rattle.std.specs.Int.{to_le_bytes, w32}
use Rattle.std.proofs.lemmas.List.{drop_more, drop_all, drop-replicate}
use Rattle.std.proofs.lemmas.Nat.{le_bytes_8}
use Rattle.capnp_format.specs.Bytes.{message, words_of}
use Rattle.capnp_format.specs.Segments.{Segments, segment}
use Rattle.capnp_format.proofs.WordsOf.{words}
use Rattle.std.proofs.lemmas.List.Elements.{All-nil, All-cons}
use Rattle.capnp_framing.specs.Frames.{bytes_of_words, lengths, contents, padding_size}
use borrow.Rule.Slice.PartMut.{put_mid}

pub length-lengths : (S : Segments) → length (lengths S) ≡ 4 * length S
length-lengths [] = refl
length-lengths (ws ∷ S) = omega (arith, length-lengths S, length-append (to_le_bytes w32 (length ws)) (lengths S))

-- bytes that overwrite the first zeros after a front
put_front : (front ys : List ℕ) (n k m : ℕ) → length front ≡ n → k ≤ m → put_mid n k (front ++ replicate m 0) ys ≡ front ++ (ys ++ replicate (m - k) 0)
put_front front ys n k m e l =
    ap₂ (λ (xs zs : List ℕ). xs ++ (ys ++ zs)) (take_at front (replicate m 0) n e) (ap (drop k) (drop_at front (replicate m 0) n e) ∙ drop-replicate k m 0)

-- two numbers
pub two_put : (first second : ℕ) (to : List ℕ) → to ≡ replicate 8 0 → put_mid 4 4 (put_mid 0 4 to (to_le_bytes w32 first)) (to_le_bytes w32 second) ≡ to_le_bytes w32 first ++ to_le_bytes w32 second
two_put first second to e =
    ap (λ xs. put_mid 4 4 (put_mid 0 4 xs (to_le_bytes w32 first)) (to_le_bytes w32 second)) e
    ∙ ap (λ xs. put_mid 4 4 xs (to_le_bytes w32 second)) (put_front [] (to_le_bytes w32 first) 0 4 8 refl (omega arith))
    ∙ put_front (to_le_bytes w32 first) (to_le_bytes w32 second) 4 4 4 refl (omega arith)
    ∙ ap (λ (xs : List ℕ). to_le_bytes w32 first ++ xs) (append-nil (to_le_bytes w32 second))

-- The lengths of the last segments of a message after an odd number of them is written, and the
-- padding.
abbrev pub lengths_left : Segments → List ℕ
lengths_left S = lengths S ++ replicate (4 * (length S % 2)) 0

-- the number of segments and the length of the first segment
pub table_first : (S : Segments) (n : ℕ) → n ≡ length S → 1 ≤ n →
    to_le_bytes w32 (n - 1) ++ (lengths S ++ replicate (padding_size n) 0) ≡ (to_le_bytes w32 (n - 1) ++ to_le_bytes w32 (length (segment S 0))) ++ lengths_left (drop 1 S)
table_first [] n e h = absurd (omega arith)
table_first (ws ∷ S) n e h =
    let four : List ℕ = to_le_bytes w32 (n - 1) in
    let first : List ℕ = to_le_bytes w32 (length ws) in
    ap (λ (xs : List ℕ). four ++ xs) (append_assoc first (lengths S) (replicate (padding_size n) 0))
    ∙ sym (append_assoc four first (lengths S ++ replicate (padding_size n) 0))
    ∙ ap (λ k. (four ++ first) ++ (lengths S ++ replicate k 0)) (let k : padding_size n ≡ 4 * (length S % 2) = omega (arith, e) in k)

-- two more lengths, or one and the padding
pub table_next : (S : Segments) (i : ℕ) → i < length S →
    lengths_left (drop i S) ≡ (to_le_bytes w32 (length (segment S i)) ++ to_le_bytes w32 (length (segment S (suc i)))) ++ lengths_left (drop (suc (suc i)) S)
table_next [] i h = absurd (omega arith)
table_next (ws ∷ []) zero h = refl
table_next (ws ∷ vs ∷ S) zero h =
    let a : List ℕ = to_le_bytes w32 (length ws) in
    let b : List ℕ = to_le_bytes w32 (length vs) in
    ap₂ (λ (xs : List ℕ) k. xs ++ replicate k 0) (sym (append_assoc a b (lengths S))) (let k : 4 * (length (ws ∷ vs ∷ S) % 2) ≡ 4 * (length S % 2) = omega arith in k)
    ∙ append_assoc (a ++ b) (lengths S) (replicate (4 * (length S % 2)) 0)
table_next (ws ∷ S) (suc i) h = table_next S i (omega arith)

-- all lengths are written
pub table_end : (S : Segments) (i : ℕ) → length S ≤ i → lengths_left (drop i S) ≡ []
table_end S i h = ap lengths_left (drop_all i S h)

-- the words of a segment

pub contents-drop : (S : Segments) (i : ℕ) → i < length S → contents (drop i S) ≡ bytes_of_words (segment S i) ++ contents (drop (i + 1) S)
contents-drop S i h = ap contents (drop_more S i [] h)

pub below_take : (n : ℕ) (bs : List ℕ) → ((i : ℕ) → get_or bs i 0 < 256) → (i : ℕ) → get_or (take n bs) i 0 < 256
below_take zero bs l i = omega arith
below_take (suc n) [] l i = omega arith
below_take (suc n) (b ∷ bs) l zero = l 0
below_take (suc n) (b ∷ bs) l (suc i) = below_take n bs (λ j. l (suc j)) i

-- the bytes of the words of bytes
pub bytes-words : (n : ℕ) (bs : List ℕ) → length bs ≡ 8 * n → ((i : ℕ) → get_or bs i 0 < 256) → bytes_of_words (words_of bs) ≡ bs
bytes-words zero [] e l = refl
bytes-words (suc n) (a ∷ b ∷ c ∷ d ∷ f ∷ g ∷ h ∷ i ∷ rest) e l =
    ap₂ (λ (xs ys : List ℕ). xs ++ ys)
    (le_bytes_8 (a ∷ b ∷ c ∷ d ∷ f ∷ g ∷ h ∷ i ∷ []) _ refl (below_take 8 (a ∷ b ∷ c ∷ d ∷ f ∷ g ∷ h ∷ i ∷ rest) l) refl)
    (bytes-words n rest (omega arith) (λ j. l (suc (suc (suc (suc (suc (suc (suc (suc j))))))))))
bytes-words zero (a ∷ xs) e l = absurd (omega arith)
bytes-words (suc n) _ e l = absurd (omega arith)

-- segments of fewer than 2^32 words
pub short_segments : (bytes : List (List ℕ)) → ((k : ℕ) (s : List ℕ) → slice_get bytes k ≡ Some s → length s / 8 < 2 ^ 32) → All (λ ws. length ws < 2 ^ 32) (message bytes)
short_segments [] h = All-nil (λ (ws : List ℕ). length ws < 2 ^ 32)
short_segments (b ∷ bs) h = All-cons (λ (ws : List ℕ). length ws < 2 ^ 32) (words_of b) (message bs) (omega (arith, words b, h 0 b refl)) (short_segments bs (λ k s e. h (suc k) s e))
