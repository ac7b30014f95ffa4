-- Marks that are set: which, and how many.
use Rattle.std.proofs.Common.{◌≡◌, ◌≢◌, ◌⊎◌, inl, inr, ℕ, zero, suc, ◌+◌, ◌-◌, ◌/◌, ◌^◌, ◌<◌, ◌≤◌, List, [], ◌∷◌, ◌++◌, length, map, take, drop, set, replicate, get_or, refl, sym, ap, ◌∙◌, subst, arith, vec_items, length-take, length-drop, take-append-drop}
use Rattle.std.proofs.lemmas.List.{length-set, length-replicate, get_or-replicate, get_or-take, get_or-drop, get_or-map, length-map, map-set, with_items_is}
use Rattle.std.proofs.lemmas.List.Sums.{sum_by-append, sum_by-cons, sum_by-set}
use Rattle.std.proofs.lemmas.Bool.{cases_lt, cases_eq}
use Rattle.std.proofs.lemmas.Bool.Decides.{nat_tests}
use Rattle.std.specs.Borrow.{Bor}
use Rattle.std.specs.Prelude.{cond, count_by, nat_eq}
use Rattle.std.specs.Global.{Vec}
use Rattle.std.specs.Vec.{with_item, with_items}
use borrow.Rule.Slice.PartMut.{put_mid}
use Rattle.capnp_format.specs.Bytes.{message}
use Rattle.capnp_format.specs.Segments.{Segments, segment, word_at}
use Rattle.capnp_format.specs.Forest.{times}
use Rattle.capnp_format.proofs.WordsOf.{words}
use Rattle.std.specs.List.{All}
use Rattle.capnp_arena_traits.specs.Limits.{AreSmall}
use Rattle.capnp_arena_traits.specs.Written.{with_segment, overwritten, with_words}
use Rattle.capnp_format.specs.Forest.{row}
use Rattle.capnp_format.proofs.Frame.{of_row}
use Rattle.capnp_format.proofs.Slices.{there}
use Rattle.capnp_arena_traits.proofs.WordsOver.{word_here, word_other, lengths_kept, length-over, over_within, over_beside}
use Rattle.layout_vectors.specs.Counts.{IsOnce}
use Rattle.layout_vectors.specs.Marks.{AreFreeWithin, free, KeepsRows, TakesRow}
use Rattle.layout_vectors.specs.Walks.{FitsRows}

-- the number of free words of a row
abbrev free_words : List ℕ → ℕ
free_words xs = count_by (λ mark. nat_eq mark 0) xs

free_words-cons : (x : ℕ) (xs : List ℕ) → free_words (x ∷ xs) ≡ cond (nat_eq x 0) 1 0 + free_words xs
free_words-cons x xs = sum_by-cons (λ mark. cond (nat_eq mark 0) 1 0) x xs

free_words-append : (xs ys : List ℕ) → free_words (xs ++ ys) ≡ free_words xs + free_words ys
free_words-append xs ys = sum_by-append (λ mark. cond (nat_eq mark 0) 1 0) xs ys

none_free : (n : ℕ) → free_words (replicate n 1) ≡ 0
none_free zero = refl
none_free (suc n) = omega (arith, none_free n, free_words-cons 1 (replicate n 1))

all_free : (xs : List ℕ) → ((q : ℕ) → q < length xs → get_or xs q 0 ≡ 0) → free_words xs ≡ length xs
all_free [] h = refl
all_free (x ∷ xs) h =
    let e : x ≡ 0 = h 0 (omega arith) in
    let f : free_words xs ≡ length xs = all_free xs (λ q l. h (suc q) (omega arith)) in
    rw (free_words-cons x xs, e) (omega (arith, f))

middle : (xs : List ℕ) (p n : ℕ) → xs ≡ take p xs ++ (take n (drop p xs) ++ drop n (drop p xs))
middle xs p n = sym (take-append-drop p xs) ∙ ap (λ ys. take p xs ++ ys) (sym (take-append-drop n (drop p xs)))

fewer_words : (xs : List ℕ) (p n : ℕ) → p + n ≤ length xs → AreFreeWithin xs p n → free_words (overwritten xs p (replicate n 1)) + n ≡ free_words xs
fewer_words xs p n fits empty =
    let ones : List ℕ = replicate n 1 in
    let long : length ones ≡ n = length-replicate n 1 in
    let mid : List ℕ = take n (drop p xs) in
    let rest : List ℕ = drop n (drop p xs) in
    let is_long : length mid ≡ n = omega (arith, length-take n (drop p xs), length-drop p xs) in
    let is_free : free_words mid ≡ length mid = all_free mid (λ q l. middle_at xs p n q (omega (arith, is_long)) ∙ empty (p + q) (omega arith) (omega (arith, is_long))) in
    let whole : free_words xs ≡ free_words (take p xs) + (free_words mid + free_words rest) =
    ap free_words (middle xs p n) ∙ free_words-append (take p xs) (mid ++ rest) ∙ ap (λ k. free_words (take p xs) + k) (free_words-append mid rest) in
    let new : free_words (overwritten xs p ones) ≡ free_words (take p xs) + (free_words ones + free_words rest) =
    free_words-append (take p xs) (ones ++ drop (length ones) (drop p xs)) ∙ ap (λ k. free_words (take p xs) + k) (free_words-append ones (drop (length ones) (drop p xs)) ∙ ap (λ k. free_words ones + free_words (drop k (drop p xs))) long) in
    omega (arith, whole, new, is_free, is_long, none_free n)
  where
    middle_at : (xs : List ℕ) (p n q : ℕ) → q < n → get_or (take n (drop p xs)) q 0 ≡ get_or xs (p + q) 0
    middle_at xs p n q l = get_or-take n (drop p xs) q 0 l ∙ get_or-drop p xs q 0

fewer_rows : (M : Segments) (s : ℕ) (ws : List ℕ) → s < length M → free (with_segment M s ws) + free_words (segment M s) ≡ free M + free_words ws
fewer_rows M s ws l = sum_by-set (λ marks. free_words marks) M s ws [] l

row_once : (s p n u q : ℕ) → times (row s p n ∷ []) u q ≤ 1
row_once s p n u q = grind (arith, nat_tests)

row_elsewhere : (s p n u q : ℕ) → u ≢ s → times (row s p n ∷ []) u q ≡ 0
row_elsewhere s p n u q other = grind (arith, nat_tests)

row_beside : (s p n q : ℕ) → (q < p) ⊎ (p + n ≤ q) → times (row s p n ∷ []) s q ≡ 0
row_beside s p n q (inl l) = grind (arith, nat_tests)
row_beside s p n q (inr l) = grind (arith, nat_tests)

-- whether q is among the n words from p on
data Among (p n q : ℕ) : Type 0 where
  within : p ≤ q → q < p + n → Among p n q
  beside : (q < p) ⊎ (p + n ≤ q) → Among p n q

among : (p n q : ℕ) → Among p n q
among p n q = elim (cases_lt q p) [
  | inl l ↦ beside (inl l)
  | inr l ↦ elim (cases_lt q (p + n)) [ inl m ↦ within l m | inr m ↦ beside (inr m) ]
]

-- words that were free are marked
pub taken : (M N : Segments) (s p n : ℕ) → 0 < n → p + n ≤ length (segment M s) → AreFreeWithin (segment M s) p n → N ≡ with_words M s p (replicate n 1) → TakesRow M N s p n
taken M N s p n some fits empty e = subst (λ T. TakesRow M T s p n) (sym e) (record { keeps = record { segments = length-set M s (overwritten (segment M s) p (replicate n 1)); words = same; once = λ h u q. once u q h (marks u q) }; marks = marks; fewer = omega (arith, fewer_rows M s (overwritten (segment M s) p (replicate n 1)) here, fewer_words (segment M s) p n fits empty) })
  where
    long : length {A = ℕ} (replicate n 1) ≡ n
    long = length-replicate n 1

    room : p + length {A = ℕ} (replicate n 1) ≤ length (segment M s)
    room = omega (arith, long, fits)

    here : s < length M
    here = there M s p (omega (arith, some, fits))

    same : (u : ℕ) → length (segment (with_words M s p (replicate n 1)) u) ≡ length (segment M u)
    same = lengths_kept M s (overwritten (segment M s) p (replicate n 1)) (length-over (segment M s) p (replicate n 1) room)

    at_row : (q : ℕ) → Among p n q → get_or (overwritten (segment M s) p (replicate n 1)) q 0 ≡ get_or (segment M s) q 0 + times (row s p n ∷ []) s q
    at_row q (within l m) =
        over_within (segment M s) p (replicate n 1) q room l (omega (arith, long)) ∙ get_or-replicate n (q - p) 1 0 (omega arith) ∙ omega (arith, empty q l m, of_row s p n q l m)
    at_row q (beside b) = over_beside (segment M s) p (replicate n 1) q room (elim b [ inl l ↦ inl l | inr l ↦ inr (omega (arith, long)) ]) ∙ omega (arith, row_beside s p n q b)

    marks : (u q : ℕ) → word_at (with_words M s p (replicate n 1)) u q ≡ word_at M u q + times (row s p n ∷ []) u q
    marks u q = elim (cases_eq u s) [
      | inl f ↦ subst (λ v. word_at (with_words M s p (replicate n 1)) v q ≡ word_at M v q + times (row s p n ∷ []) v q) (sym f) (word_here M s q (overwritten (segment M s) p (replicate n 1)) here ∙ at_row q (among p n q))
      | inr f ↦ word_other M s u q (overwritten (segment M s) p (replicate n 1)) f ∙ omega (arith, row_elsewhere s p n u q f)
    ]

    once : (u q : ℕ) → IsOnce (word_at M) → word_at (with_words M s p (replicate n 1)) u q ≡ word_at M u q + times (row s p n ∷ []) u q → word_at (with_words M s p (replicate n 1)) u q ≤ 1
    once u q h f = elim (cases_eq u s) [
      | inl g ↦ elim (among p n q) [
        | within l m ↦ omega (arith, f, row_once s p n u q, ap (λ v. word_at M v q) g, empty q l m)
        | beside b ↦ omega (arith, f, h u q, ap (λ v. times (row s p n ∷ []) v q) g, row_beside s p n q b)
      ]
      | inr g ↦ omega (arith, f, h u q, row_elsewhere s p n u q g)
    ]

-- no word is marked
pub nothing_taken : (M : Segments) (s p : ℕ) → TakesRow M M s p 0
nothing_taken M s p = record { keeps = record { segments = refl; words = λ u. refl; once = λ h. h }; marks = λ u q. omega (arith, none u q); fewer = omega arith }
  where
    none : (u q : ℕ) → times (row s p 0 ∷ []) u q ≡ 0
    none u q = grind (arith, nat_tests)

pub keeps_again : (M N R : Segments) → KeepsRows M N → KeepsRows N R → KeepsRows M R
keeps_again M N R a b = record { segments = b.segments ∙ a.segments; words = λ u. b.words u ∙ a.words u; once = λ h. b.once (a.once h) }

pub keeps_itself : (M : Segments) → KeepsRows M M
keeps_itself M = record { segments = refl; words = λ u. refl; once = λ h. h }

pub fits_kept : (S M N : Segments) → FitsRows S M → KeepsRows M N → FitsRows S N
fits_kept S M N f k = record { segments = k.segments ∙ f.segments; words = λ u. k.words u ∙ f.words u; few = f.few; small = f.small }

-- the rows of segments without marked words
abbrev blank_rows : List (Bor (List ℕ)) → Segments
blank_rows segments = map (λ s. replicate (length s.now / 8) 0) segments

-- rows without marks fit
pub blank_fits : (segments : List (Bor (List ℕ))) → AreSmall segments → FitsRows (message (map (λ s. s.now) segments)) (blank_rows segments)
blank_fits segments small = record { segments = same segments; words = each segments; few = omega (arith, small.0, count segments); small = each_small segments small.1 }
  where
    same : (segments : List (Bor (List ℕ))) → length (blank_rows segments) ≡ length (message (map (λ s. s.now) segments))
    same [] = refl
    same (s ∷ ss) = ap suc (same ss)

    each_small : (segments : List (Bor (List ℕ))) → All (λ s. length s.now / 8 < 2 ^ 32) segments → (u : ℕ) → length (segment (message (map (λ s. s.now) segments)) u) < 2 ^ 32
    each_small [] h zero = omega arith
    each_small [] h (suc u) = omega arith
    each_small (s ∷ ss) h zero = omega (arith, words s.now, h 0 s (omega arith))
    each_small (s ∷ ss) h (suc u) = each_small ss (λ k d l. h (suc k) d (omega arith)) u

    count : (segments : List (Bor (List ℕ))) → length (message (map (λ s. s.now) segments)) ≡ length segments
    count [] = refl
    count (s ∷ ss) = ap suc (count ss)

    each : (segments : List (Bor (List ℕ))) (u : ℕ) → length (segment (blank_rows segments) u) ≡ length (segment (message (map (λ s. s.now) segments)) u)
    each [] u = refl
    each (s ∷ ss) zero = length-replicate (length s.now / 8) 0 ∙ sym (words s.now)
    each (s ∷ ss) (suc u) = each ss u

pub blank_free : (segments : List (Bor (List ℕ))) (u q : ℕ) → word_at (blank_rows segments) u q ≡ 0
blank_free [] u q = refl
blank_free (s ∷ ss) zero q = zeros (length s.now / 8) q
  where
    zeros : (n q : ℕ) → ◌≡◌ {A = ℕ} (get_or (replicate n 0) q 0) 0
    zeros zero q = refl
    zeros (suc n) zero = refl
    zeros (suc n) (suc q) = zeros n q
blank_free (s ∷ ss) (suc u) q = blank_free ss u q

-- a row of the marks after words in it are marked
pub row_taken : (v : Vec (Vec ℕ)) (r : Vec ℕ) (i p n : ℕ) (old new : List ℕ) → 0 < n → p + n ≤ length (segment (map vec_items v.items) i) → r ≡ get_or v.items i r → old ≡ r.items → AreFreeWithin old p n →
    new ≡ put_mid p n old (replicate n 1) → length new ≡ r.len → TakesRow (map vec_items v.items) (map vec_items (with_item v i (with_items r new)).items) i p n
row_taken v r i p n old new some fits is same empty made long =
    let M : Segments = map vec_items v.items in
    let there_is : i < length v.items = omega (arith, there M i p (omega arith), length-map v.items vec_items) in
    let here : segment M i ≡ old = get_or-map vec_items v.items i r [] there_is ∙ ap vec_items (sym is) ∙ sym same in
    let over : new ≡ overwritten (segment M i) p (replicate n 1) =
    made ∙ ap (λ k. take p old ++ (replicate n 1 ++ drop k (drop p old))) (sym (length-replicate n 1)) ∙ ap (λ xs. overwritten xs p (replicate n 1)) (sym here) in
    taken M (map vec_items (set v.items i (with_items r new))) i p n some fits (subst (λ xs. AreFreeWithin xs p n) (sym here) empty)
    (map-set vec_items v.items i (with_items r new) ∙ ap (set M i) (with_items_is r new long ∙ over))
