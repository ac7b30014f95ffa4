-- Frames and segments are written as hex digits in pieces.
use Rattle.std.proofs.Common.{◌≡◌, ℕ, ◌+◌, ◌-◌, ◌/◌, ◌%◌, ◌<◌, ◌≤◌, List, [], ◌∷◌, ◌++◌, Option, Some, None, length, drop, replicate, slice_index, refl, sym, ap, ◌∙◌, subst, arith, append-nil}
use Rattle.std.specs.Int.{to_le_bytes, w32, w64}
use Rattle.std.specs.Io.KnownBytes.{Appends}
use Rattle.std.proofs.lemmas.List.{drop_more, drop_all}
use Rattle.hex.specs.Hex.{encode_lower, encode_with, lower_digits}
use Rattle.capnp_format.specs.Segments.{Segments, segment}
use Rattle.capnp_framing.specs.Frames.{bytes_of_words, contents, lengths, padding_size}
use Rattle.capnp_framing.proofs.WritingLemmas.{appends_both}
use Rattle.capnp_layout.specs.Answers.{digits_of, word_digits}
use Rattle.capnp_layout.specs.Commands.{frame_line, segment_lines}

-- The digits of bytes in two parts are those of the parts, one after the other.
pub encode-append : (xs ys : List ℕ) → encode_lower (xs ++ ys) ≡ encode_lower xs ++ encode_lower ys
unfolding encode_with
encode-append [] ys = refl
encode-append (x ∷ xs) ys = ap (λ (zs : List ℕ). slice_index lower_digits (x / 16) ∷ slice_index lower_digits (x % 16) ∷ zs) (encode-append xs ys)

-- The digits of words are those of their bytes.
pub digits-encode : (ws : List ℕ) → digits_of ws ≡ encode_lower (bytes_of_words ws)
unfolding digits_of encode_with
digits-encode [] = refl
digits-encode (w ∷ ws) = ap (λ (zs : List ℕ). word_digits w ++ zs) (digits-encode ws) ∙ sym (encode-append (to_le_bytes w64 w) (bytes_of_words ws))

-- the lengths from a segment on
pub lengths-drop : (S : Segments) (i : ℕ) → i < length S → encode_lower (lengths (drop i S)) ≡ encode_lower (to_le_bytes w32 (length (segment S i))) ++ encode_lower (lengths (drop (i + 1) S))
lengths-drop S i h = ap (λ (R : Segments). encode_lower (lengths R)) (drop_more S i [] h) ∙ encode-append (to_le_bytes w32 (length (segment S i))) (lengths (drop (i + 1) S))

pub lengths-end : (S : Segments) (i : ℕ) → length S ≤ i → encode_lower (lengths (drop i S)) ≡ []
unfolding encode_with
lengths-end S i h = ap (λ (R : Segments). encode_lower (lengths R)) (drop_all i S h)

-- the words from a segment on
pub contents-drop : (S : Segments) (i : ℕ) → i < length S → encode_lower (contents (drop i S)) ≡ digits_of (segment S i) ++ encode_lower (contents (drop (i + 1) S))
contents-drop S i h =
    ap (λ (R : Segments). encode_lower (contents R)) (drop_more S i [] h)
    ∙ encode-append (bytes_of_words (segment S i)) (contents (drop (i + 1) S))
    ∙ ap (λ (zs : List ℕ). zs ++ encode_lower (contents (drop (i + 1) S))) (sym (digits-encode (segment S i)))

pub contents-end : (S : Segments) (i : ℕ) → length S ≤ i → encode_lower (contents (drop i S)) ≡ []
unfolding encode_with
contents-end S i h = ap (λ (R : Segments). encode_lower (contents R)) (drop_all i S h)

-- the lines from a segment on
pub lines-drop : (S : Segments) (i : ℕ) → i < length S → segment_lines (drop i S) ≡ (digits_of (segment S i) ++ 10 ∷ []) ++ segment_lines (drop (i + 1) S)
lines-drop S i h = ap segment_lines (drop_more S i [] h)

pub lines-end : (S : Segments) (i : ℕ) → length S ≤ i → segment_lines (drop i S) ≡ []
lines-end S i h = ap segment_lines (drop_all i S h)

-- nothing is written if there is no padding
pub no_padding : (a : Option (List ℕ)) (n : ℕ) → 0 < n % 2 → Appends a a (encode_lower (replicate (padding_size n) 0))
unfolding encode_with
no_padding a n odd = rw (let none : padding_size n ≡ 0 = omega arith in none) (nothing a)
  where
    nothing : (a : Option (List ℕ)) → Appends a a []
    nothing None = tt
    nothing (Some x) = sym (append-nil x)

-- The pieces of a frame, and a line feed, are written one after another.
pub record IsWritten (S : Segments) (a b c d e f : Option (List ℕ)) (n : ℕ) : Type 0 where
  pub counts : n ≡ length S
  pub number : Appends a b (encode_lower (to_le_bytes w32 (n - 1)))
  pub table : Appends b c (encode_lower (lengths S))
  pub padding : Appends c d (encode_lower (replicate (padding_size n) 0))
  pub words : Appends d e (encode_lower (contents S))
  pub feed : Appends e f (10 ∷ [])

pub frame_written : {a b c d e f : Option (List ℕ)} {n : ℕ} (S : Segments) → IsWritten S a b c d e f n → Appends a f (frame_line S)
frame_written {a} {b} {c} {d} {e} {f} {n} S w =
    let number : List ℕ = to_le_bytes w32 (n - 1) in
    let table : List ℕ = lengths S in
    let padding : List ℕ = replicate (padding_size n) 0 in
    let words : List ℕ = contents S in
    let two = subst (Appends c e) (sym (encode-append padding words)) (appends_both c d e (encode_lower padding) (encode_lower words) w.padding w.words) in
    let three = subst (Appends b e) (sym (encode-append table (padding ++ words))) (appends_both b c e (encode_lower table) (encode_lower (padding ++ words)) w.table two) in
    let four = subst (Appends a e) (sym (encode-append number (table ++ (padding ++ words)))) (appends_both a b e (encode_lower number) (encode_lower (table ++ (padding ++ words))) w.number three) in
    let all = appends_both a e f (encode_lower (number ++ (table ++ (padding ++ words)))) (10 ∷ []) four w.feed in
    subst (λ m. Appends a f (encode_lower (to_le_bytes w32 (m - 1) ++ (table ++ (replicate (padding_size m) 0 ++ words))) ++ 10 ∷ [])) w.counts all
