-- Bytes of a segment that are written in place.
use Rattle.std.proofs.Common.{◌≡◌, ℕ, zero, suc, ◌+◌, ◌*◌, ◌^◌, ◌<◌, ◌≤◌, List, [], ◌∷◌, length, take, drop, slice_get, slice_index_or, Some, refl, sym, ap, ap₂, ◌∙◌, arith, length-take, length-drop}
use Rattle.std.proofs.lemmas.List.{length-replicate}
use Rattle.capnp_format.specs.Bytes.{words_of, message}
use Rattle.capnp_format.specs.Forest.{target}
use Rattle.capnp_format.specs.Numbers.{from_digits, words_for, packed}
use Rattle.capnp_format.specs.Segments.{Segments, segment}
use Rattle.capnp_format.specs.Tree.{Tree, Flat}
use Rattle.capnp_format.proofs.BytesLemmas.{words_are_bytes}
use Rattle.capnp_format.proofs.WordsOf.{words, words_of-part}
use Rattle.capnp_in_place.specs.Existing.{AreInside}
use Rattle.capnp_in_place.specs.InPlace.{bytes_there}
use Rattle.capnp_allocation.specs.Made.{words_of_zero}
use Rattle.capnp_allocation.specs.Stored.{IsReplaced}
use Rattle.capnp_in_place.specs.declared.existing.ExistingBytes.{ExistingBytes}
use Rattle.capnp_in_place.proofs.ByteLists.BytesWritten.{segment_bytes, zeros_packed}

got : (B : List (List ℕ)) (id : ℕ) → id < length (message B) → slice_get B id ≡ Some (slice_index_or B id [])
got [] id l = absurd (omega arith)
got (b ∷ B) zero l = refl
got (b ∷ B) (suc id) l = got B id (omega arith)

-- A segment that exists has its bytes.
pub there_got : (S : Segments) (B : List (List ℕ)) (id : ℕ) → S ≡ message B → id < length S → slice_get B id ≡ Some (slice_index_or B id [])
there_got S B id e l = got B id (omega (arith, l, ap length e))

-- If the words of b are inside their segment, its bytes are among those of that segment.
pub inside_bytes : (S : Segments) (B : List (List ℕ)) (b : ExistingBytes) → S ≡ message B → AreInside S b → 8 * b.start + b.length ≤ length (slice_index_or B b.segment [])
inside_bytes S B b e inside =
    let bs : List ℕ = slice_index_or B b.segment [] in
    omega (arith, inside, ap (λ T. length (segment T b.segment)) e, ap length (segment_bytes B b.segment), words bs)

-- Then there are `b.length` of them.
pub count_bytes : (S : Segments) (B : List (List ℕ)) (b : ExistingBytes) → S ≡ message B → AreInside S b → length (bytes_there B b) ≡ b.length
count_bytes S B b e inside =
    let bs : List ℕ = slice_index_or B b.segment [] in
    omega (arith, inside_bytes S B b e inside, length-take b.length (drop (8 * b.start) bs), length-drop (8 * b.start) bs)

-- If the number of bytes is zero, they are all zero; and the first ones of them are.
all_zero : (xs : List ℕ) → from_digits 256 xs ≡ 0 → xs ≡ words_of_zero (length xs)
all_zero [] e = refl
all_zero (x ∷ xs) e = ap₂ (λ (y : ℕ) (ys : List ℕ). y ∷ ys) (let h : x ≡ 0 = omega (arith, e) in h) (all_zero xs (omega (arith, e)))

zero_front : (n m : ℕ) (xs : List ℕ) → n ≤ m → from_digits 256 (take m xs) ≡ 0 → from_digits 256 (take n xs) ≡ 0
zero_front zero m xs l e = refl
zero_front (suc n) zero xs l e = absurd (omega arith)
zero_front (suc n) (suc m) [] l e = refl
zero_front (suc n) (suc m) (x ∷ xs) l e = let rest : from_digits 256 (take n xs) ≡ 0 = zero_front n m xs (omega arith) (omega (arith, e)) in omega (arith, e, rest)

-- The first bytes of a list that was made of n zero bytes.
pub made_zero : (Q S : Segments) (B : List (List ℕ)) (s p n : ℕ) (t : Tree) (b : ExistingBytes) → S ≡ message B → IsReplaced Q S s p t (Flat 2 (words_of_zero n)) →
    b.segment ≡ (target S s p).segment → b.start ≡ (target S s p).start → AreInside S (record b { length = n }) → b.length ≤ n → bytes_there B b ≡ words_of_zero (length (bytes_there B b))
made_zero Q S B s p n t b e made is_segment is_start inside few =
    let bs : List ℕ = slice_index_or B b.segment [] in
    let a : ℕ = b.start in
    let k : ℕ = words_for 2 n in
    let ln : length (words_of_zero n) ≡ n = length-replicate {A = ℕ} n 0 in
    let shown : segment S b.segment ≡ words_of bs = ap (λ T. segment T b.segment) e ∙ segment_bytes B b.segment in
    let room : 8 * (a + k) ≤ length bs = omega (arith, inside, ap length shown, words bs) in
    let old : List ℕ = take (8 * k) (drop (8 * a) bs) in
    let tidy : take (words_for 2 (length (words_of_zero n))) (drop (target S s p).start (segment S (target S s p).segment)) ≡ packed 2 (words_of_zero n) = made.stored.tidy in
    let here : take k (drop a (words_of bs)) ≡ packed 2 (words_of_zero n) =
    ap (λ ws. take k (drop a ws)) (sym shown) ∙ ap₂ (λ j q. take j (drop q (segment S b.segment))) (ap (words_for 2) (sym ln)) is_start
    ∙ ap (λ u. take (words_for 2 (length (words_of_zero n))) (drop (target S s p).start (segment S u))) is_segment ∙ tidy in
    let nothing : from_digits 256 old ≡ 0 =
    sym (words_are_bytes k old (omega (arith, room, length-take (8 * k) (drop (8 * a) bs), length-drop (8 * a) bs)))
    ∙ ap (from_digits (2 ^ 64)) (words_of-part a k (8 * a) (8 * k) bs refl refl room ∙ here) ∙ zeros_packed n in
    all_zero (bytes_there B b) (zero_front b.length (8 * k) (drop (8 * a) bs) (omega (arith, few)) nothing)
