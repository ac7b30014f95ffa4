-- The segments of a frame are cut from its bytes one after the other.
use Rattle.std.proofs.Common.{◌≡◌, ℕ, zero, suc, ◌+◌, ◌*◌, ◌<◌, ◌≤◌, List, [], ◌∷◌, ◌++◌, length, map, get_or, set, take, drop, refl, sym, ap, ap₂, ◌∙◌, subst, arith, length-drop, drop-drop}
use Rattle.std.proofs.lemmas.List.{map-append, take_more_set}
use Rattle.std.specs.Borrow.{Bor}
use Rattle.std.specs.Int.{from_le_bytes, w32}
use Rattle.capnp_format.specs.Bytes.{message}
use Rattle.capnp_arena_traits.proofs.MessageLemmas.{length-message}
use Rattle.capnp_framing.specs.Flat.{first_told, parts}
use Rattle.capnp_framing.specs.Reading.{table_size, words_in_table, words_told}
use Rattle.capnp_framing.proofs.ReadingLemmas.{told_fewer, told_more}
use Rattle.capnp_framing.proofs.FlatLemmas.{AtFrame, flat_frame, length-frame_of_parts, length-parts}
use Rattle.capnp_layout_c.specs.Opened.{IsWholeFrame, IsFrameAt}

-- one segment more
parts_more : (i : ℕ) (table bytes : List ℕ) →
    parts (suc i) table bytes ≡ parts i table bytes ++ (take (8 * first_told (drop (4 * i) table)) (drop (8 * words_told i table) bytes) ∷ [])
parts_more zero table bytes = refl
parts_more (suc i) table bytes =
    let m : ℕ = 8 * first_told table in
    let t : drop (4 * i) (drop 4 table) ≡ drop (4 * suc i) table = drop-drop (4 * i) 4 table ∙ ap (λ k. drop k table) (let e : 4 + 4 * i ≡ 4 * suc i = omega arith in e) in
    let b : drop (8 * words_told i (drop 4 table)) (drop m bytes) ≡ drop (8 * words_told (suc i) table) bytes = drop-drop (8 * words_told i (drop 4 table)) m bytes ∙ ap (λ k. drop k bytes) (let e : m + 8 * words_told i (drop 4 table) ≡ 8 * words_told (suc i) table = omega arith in e) in
    ap (λ (xs : List (List ℕ)). take m bytes ∷ xs) (parts_more i (drop 4 table) (drop m bytes)
    ∙ ap₂ (λ (ts bs : List ℕ). parts i (drop 4 table) (drop m bytes) ++ (take (8 * first_told ts) bs ∷ [])) t b)

-- the next segment is inside of the bytes, and the one after it follows
pub cut_inside : (frame : List ℕ) (n i at number : ℕ) →
    i < n → table_size n + 8 * words_told n (drop 4 frame) ≤ length frame → at ≡ table_size n + 8 * words_told i (drop 4 frame) → number ≡ from_le_bytes w32 (take 4 (drop (4 + 4 * i) frame)) →
    (at + 8 * number ≡ table_size n + 8 * words_told (i + 1) (drop 4 frame)) × (at + 8 * number ≤ length frame)
cut_inside frame n i at number there whole place is =
    let table : List ℕ = drop 4 frame in
    let told : number ≡ from_le_bytes w32 (take 4 (drop (4 * i) table)) = is ∙ ap (λ (xs : List ℕ). from_le_bytes w32 (take 4 xs)) (sym (drop-drop (4 * i) 4 frame)) in
    let next = told_more i table in
    let fewer = told_fewer (i + 1) n table (omega arith) in
    (omega (arith, told, next, place), omega (arith, told, next, place, fewer, whole))

-- and one entry more
pub cut_more : (frame : List ℕ) (room : List (Bor (List ℕ))) (n i at size : ℕ) (v : Bor (List ℕ)) →
    i < length room → at ≡ table_size n + 8 * words_told i (drop 4 frame) → size ≡ 8 * from_le_bytes w32 (take 4 (drop (4 + 4 * i) frame)) → v.now ≡ take size (drop at frame) →
    map (λ (s : Bor (List ℕ)). s.now) (take i room) ≡ parts i (drop 4 frame) (drop (table_size n) frame) →
    map (λ (s : Bor (List ℕ)). s.now) (take (i + 1) (set room i v)) ≡ parts (i + 1) (drop 4 frame) (drop (table_size n) frame)
cut_more frame room n i at size v there place long is before =
    let table : List ℕ = drop 4 frame in
    let rest : List ℕ = drop (table_size n) frame in
    let told : size ≡ 8 * first_told (drop (4 * i) table) = long ∙ ap (λ (xs : List ℕ). 8 * from_le_bytes w32 (take 4 xs)) (sym (drop-drop (4 * i) 4 frame)) in
    let from : drop at frame ≡ drop (8 * words_told i table) rest = ap (λ k. drop k frame) place ∙ sym (drop-drop (8 * words_told i table) (table_size n) frame) in
    ap (map (λ (s : Bor (List ℕ)). s.now)) (take_more_set room i v there)
    ∙ map-append (λ (s : Bor (List ℕ)). s.now) (take i room) (v ∷ [])
    ∙ ap₂ (λ (xs : List (List ℕ)) (y : List ℕ). xs ++ (y ∷ [])) before (is ∙ ap₂ (λ k (xs : List ℕ). take k xs) told from)
    ∙ sym (parts_more i table rest)
    ∙ ap (λ k. parts k table rest) (let e : suc i ≡ i + 1 = omega arith in e)

-- The bytes of a whole frame begin with a frame of the segments that are cut.
pub frame_at : (bytes : List ℕ) (most n size : ℕ) → ((i : ℕ) → get_or bytes i 0 < 256) → IsWholeFrame bytes most n size →
    IsFrameAt bytes most n size (message (parts n (drop 4 bytes) (drop (table_size n) bytes)))
frame_at bytes most n size below w =
    let table : List ℕ = drop 4 bytes in
    let rest : List ℕ = drop (table_size n) bytes in
    let words : words_told n table ≡ words_in_table bytes = ap (λ k. words_told k table) w.counts in
    let inside : 8 * words_told n table ≤ length rest = omega (arith, words, w.sized, w.whole, length-drop (table_size n) bytes) in
    let at : AtFrame n bytes table rest = record {
      below = below;
      told = w.counts;
      few = subst (λ k. k ≤ 512) (sym w.counts) w.table.few;
      room = omega (arith, w.sized, w.whole);
      table_is = refl;
      rest_is = refl;
      whole = inside;
    } in
    record {
      begins = flat_frame most at (omega (arith, words, w.short));
      counts = sym (length-message (parts n table rest) ∙ length-parts n table rest);
      sized = w.sized ∙ ap (λ k. table_size n + 8 * k) (sym words) ∙ sym (length-frame_of_parts n table rest inside);
    }
