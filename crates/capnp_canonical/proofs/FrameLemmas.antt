-- A frame of one segment is its table and its bytes.
use Rattle.std.proofs.Common.{◌≡◌, ◌+◌, ◌-◌, ◌*◌, ◌/◌, ℕ, List, [], ◌∷◌, ◌++◌, length, take, drop, sym, ap, ◌∙◌, append_assoc, append-nil, arith, length-append, take_at, drop_at, drop-drop}
use Rattle.std.specs.Int.{to_le_bytes, w32}
use borrow.Rule.Slice.PartMut.{put_mid}
use Rattle.capnp_framing.specs.Frames.{bytes_of_words, frame}
use Rattle.capnp_framing.proofs.ReadingLemmas.{bytes-length}

pub frame_put : (words seg to h : List ℕ) → seg ≡ bytes_of_words words → h ≡ 0 ∷ 0 ∷ 0 ∷ 0 ∷ to_le_bytes w32 (length seg / 8)
    → take (8 + length seg) (put_mid 8 (8 + length seg - 8) (h ++ drop 8 to) seg) ≡ frame (words ∷ [])
frame_put words seg to h same table =
    let eight : length h ≡ 8 = ap length table in
    let size : length seg ≡ 8 * length words = ap length same ∙ bytes-length words in
    let count : length seg / 8 ≡ length words = omega arith in
    let rest : List ℕ = drop (8 + length seg - 8) (drop 8 (h ++ drop 8 to)) in
    let front : take 8 (h ++ drop 8 to) ≡ h = take_at h (drop 8 to) 8 eight in
    ap (λ (xs : List ℕ). take (8 + length seg) (xs ++ (seg ++ rest))) front
    ∙ ap (take (8 + length seg)) (sym (append_assoc h seg rest))
    ∙ take_at (h ++ seg) rest (8 + length seg) (omega (arith, length-append h seg, eight))
    ∙ ap (λ (xs : List ℕ). xs ++ seg) (table ∙ ap (λ n. 0 ∷ 0 ∷ 0 ∷ 0 ∷ to_le_bytes w32 n) count)
    ∙ ap (λ (xs : List ℕ). 0 ∷ 0 ∷ 0 ∷ 0 ∷ (to_le_bytes w32 (length words) ++ xs)) (same ∙ sym (append-nil (bytes_of_words words)))

-- what comes after it stays
pub frame_behind : (seg to h : List ℕ) → length h ≡ 8
    → drop (8 + length seg) (put_mid 8 (8 + length seg - 8) (h ++ drop 8 to) seg) ≡ drop (8 + length seg) to
frame_behind seg to h eight =
    let rest : List ℕ = drop (8 + length seg - 8) (drop 8 (h ++ drop 8 to)) in
    ap (λ (xs : List ℕ). drop (8 + length seg) (xs ++ (seg ++ rest))) (take_at h (drop 8 to) 8 eight)
    ∙ ap (drop (8 + length seg)) (sym (append_assoc h seg rest))
    ∙ drop_at (h ++ seg) rest (8 + length seg) (omega (arith, length-append h seg, eight))
    ∙ ap (drop (8 + length seg - 8)) (drop_at h (drop 8 to) 8 eight)
    ∙ drop-drop (8 + length seg - 8) 8 to
    ∙ ap (λ n. drop n to) (let e : 8 + (8 + length seg - 8) ≡ 8 + length seg = omega arith in e)

pub length_frame : (words seg : List ℕ) → seg ≡ bytes_of_words words → length (frame (words ∷ [])) ≡ 8 + length seg
length_frame words seg same = omega (arith, length-append (bytes_of_words words) [], ap length same)
