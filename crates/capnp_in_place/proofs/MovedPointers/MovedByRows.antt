-- Pointers moved row after row.
use Rattle.std.proofs.Common.{◌-◌, ◌≡◌, ℕ, zero, suc, ◌+◌, ◌*◌, ◌<◌, ◌≤◌, List, [], ◌∷◌, ◌++◌, length, refl, sym, ap, ap₂, ◌∙◌, subst, arith, append-nil, append_assoc}
use Rattle.std.proofs.lemmas.Bool.Decides.{nat_tests}
use Rattle.capnp_format.specs.Segments.{Segments, segment, word_at}
use Rattle.capnp_format.specs.Tree.{Elements, no_elements, element, count, element_count}
use Rattle.capnp_format.specs.Means.{MeansElements}
use Rattle.capnp_format.specs.Forest.{times, pads_of, cover_all, cover_elements}
use Rattle.capnp_format.proofs.Frame.{times-append}
use Rattle.capnp_allocation.specs.Zeroed.{row}
use Rattle.capnp_allocation.proofs.Below.{split_row}
use Rattle.capnp_allocation.proofs.Extents.{times-first}
use Rattle.capnp_in_place.specs.Moved.{Move, new_places, IsMoved, Moves, Unmoves, MovesSome}
use Rattle.capnp_in_place.proofs.MovedPointers.MovedInTurn.{children_stand, new_places-append, moves_both, row_moved, row_old_pads, row_new_pads, row_new_places}
use Rattle.capnp_in_place.proofs.MovedPointers.PadsZeroed.{unmoves_both}
use Rattle.capnp_in_place.proofs.WiderObjects.RemadeElsewhere.{pads_in_rows, old_pads, new_pads}
use Rattle.capnp_in_place.proofs.WiderObjects.Statements.{HaveValuesInside, AllMoved, row_moves, rows_moves}

-- Rows, from the front on.
pub rows_next : (s p w v r z k n : ℕ) → rows_moves s p w v r z k (suc n) ≡ rows_moves s p w v r z k n ++ row_moves s (p + n * w) v (r + n * z) k
rows_next s p w v r z k zero = append-nil (row_moves s p v r k) ∙ ap₂ (λ a b. row_moves s a v b k) (let e : p ≡ p + 0 * w = omega arith in e) (let e : r ≡ r + 0 * z = omega arith in e)
rows_next s p w v r z k (suc n) =
    ap (λ ms. row_moves s p v r k ++ ms) (rows_next s (p + w) w v (r + z) z k n ∙ ap₂ (λ a b. rows_moves s (p + w) w v (r + z) z k n ++ row_moves s a v b k)
    (let e : p + w + n * w ≡ p + suc n * w = omega arith in e) (let e : r + z + n * z ≡ r + suc n * z = omega arith in e))
    ∙ sym (append_assoc (row_moves s p v r k) (rows_moves s (p + w) w v (r + z) z k n) (row_moves s (p + suc n * w) v (r + suc n * z) k))

-- One more row.
pub rows_moves_next : (S M R : Segments) (s p w v r z k n : ℕ) → Moves S M (rows_moves s p w v r z k n) → Moves M R (row_moves s (p + n * w) v (r + n * z) k) → Moves S R (rows_moves s p w v r z k (n + 1))
rows_moves_next S M R s p w v r z k n f g =
    subst (λ i. Moves S R (rows_moves s p w v r z k i)) (let e : suc n ≡ n + 1 = omega arith in e)
    (subst (λ ms. Moves S R ms) (sym (rows_next s p w v r z k n)) (moves_both S M R (rows_moves s p w v r z k n) (row_moves s (p + n * w) v (r + n * z) k) f g))

pub rows_unmoves_next : (S M R : Segments) (s p w v r z k n : ℕ) → Unmoves S M (rows_moves s p w v r z k n) → Unmoves M R (row_moves s (p + n * w) v (r + n * z) k) → Unmoves S R (rows_moves s p w v r z k (n + 1))
rows_unmoves_next S M R s p w v r z k n f g =
    subst (λ i. Unmoves S R (rows_moves s p w v r z k i)) (let e : suc n ≡ n + 1 = omega arith in e)
    (subst (λ ms. Unmoves S R ms) (sym (rows_next s p w v r z k n)) (unmoves_both S M R (rows_moves s p w v r z k n) (row_moves s (p + n * w) v (r + n * z) k) f g))

-- What rows of moves state of each.

left_moved : (M : Segments) (ms ns : List Move) → AllMoved M (ms ++ ns) → AllMoved M ms
left_moved M [] ns h = tt
left_moved M (m ∷ ms) ns h = (h.0, left_moved M ms ns h.1)

right_moved : (M : Segments) (ms ns : List Move) → AllMoved M (ms ++ ns) → AllMoved M ns
right_moved M [] ns h = h
right_moved M (m ∷ ms) ns h = right_moved M ms ns h.1

pub rows_moved : (M : Segments) (s p w v r z k n i j : ℕ) → AllMoved M (rows_moves s p w v r z k n) → i < n → j < k → IsMoved M s (p + i * w + j) v (r + i * z + j)
rows_moved M s p w v r z k zero i j h l m = absurd (omega arith)
rows_moved M s p w v r z k (suc n) zero j h l m =
    subst (λ a. IsMoved M s a v (r + 0 * z + j)) (let e : p + j ≡ p + 0 * w + j = omega arith in e)
    (subst (λ a. IsMoved M s (p + j) v a) (let e : r + j ≡ r + 0 * z + j = omega arith in e) (row_moved M s p v r k j (left_moved M (row_moves s p v r k) (rows_moves s (p + w) w v (r + z) z k n) h) m))
rows_moved M s p w v r z k (suc n) (suc i) j h l m =
    subst (λ a. IsMoved M s a v (r + suc i * z + j)) (let e : p + w + i * w + j ≡ p + suc i * w + j = omega arith in e)
    (subst (λ a. IsMoved M s (p + w + i * w + j) v a) (let e : r + z + i * z + j ≡ r + suc i * z + j = omega arith in e)
    (rows_moved M s (p + w) w v (r + z) z k n i j (right_moved M (row_moves s p v r k) (rows_moves s (p + w) w v (r + z) z k n) h) (omega arith) m))

old_both : (M : Segments) (ms ns : List Move) → old_pads M (ms ++ ns) ≡ old_pads M ms ++ old_pads M ns
old_both M [] ns = refl
old_both M (m ∷ ms) ns = ap (λ is. pads_of (word_at M m.from.segment m.from.at) ++ is) (old_both M ms ns) ∙ sym (append_assoc (pads_of (word_at M m.from.segment m.from.at)) (old_pads M ms) (old_pads M ns))

new_both : (M : Segments) (ms ns : List Move) → new_pads M (ms ++ ns) ≡ new_pads M ms ++ new_pads M ns
new_both M [] ns = refl
new_both M (m ∷ ms) ns = ap (λ is. pads_of (word_at M m.to.segment m.to.at) ++ is) (new_both M ms ns) ∙ sym (append_assoc (pads_of (word_at M m.to.segment m.to.at)) (new_pads M ms) (new_pads M ns))

pub rows_old_pads : (M : Segments) (s p w v r z k n : ℕ) → old_pads M (rows_moves s p w v r z k n) ≡ pads_in_rows M s p w k n
rows_old_pads M s p w v r z k zero = refl
rows_old_pads M s p w v r z k (suc n) =
    old_both M (row_moves s p v r k) (rows_moves s (p + w) w v (r + z) z k n) ∙ ap₂ (λ is js. is ++ js) (row_old_pads M s p v r k) (rows_old_pads M s (p + w) w v (r + z) z k n)

pub rows_new_pads : (M : Segments) (s p w v r z k n : ℕ) → new_pads M (rows_moves s p w v r z k n) ≡ pads_in_rows M v r z k n
rows_new_pads M s p w v r z k zero = refl
rows_new_pads M s p w v r z k (suc n) =
    new_both M (row_moves s p v r k) (rows_moves s (p + w) w v (r + z) z k n) ∙ ap₂ (λ is js. is ++ js) (row_new_pads M s p v r k) (rows_new_pads M s (p + w) w v (r + z) z k n)

-- The new places are in rows of z words.
pub rows_new_places : (s p w v r z k n x y : ℕ) → k ≤ z → times (new_places (rows_moves s p w v r z k n)) x y ≤ times (row v r (n * z) ∷ []) x y
rows_new_places s p w v r z k zero x y l = omega arith
rows_new_places s p w v r z k (suc n) x y l =
    omega (
      arith,
      new_places-append (row_moves s p v r k) (rows_moves s (p + w) w v (r + z) z k n) x y,
      row_new_places s p v r k x y,
      rows_new_places s (p + w) w v (r + z) z k n x y l,
      split_row v r z (n * z) x y,
      shorter v r k z x y l,
      ap (λ m. times (row v r m ∷ []) x y) (let e : suc n * z ≡ z + n * z = omega arith in e),
    )
  where
    shorter : (v r k z x y : ℕ) → k ≤ z → times (row v r k ∷ []) x y ≤ times (row v r z ∷ []) x y
    shorter v r k z x y l = grind (arith, nat_tests)

-- The children of consecutive elements that are inside B.

both_stand : (B : Segments) (ms ns : List Move) → HaveValuesInside B ms → HaveValuesInside B ns → HaveValuesInside B (ms ++ ns)
both_stand B [] ns a b = b
both_stand B (m ∷ ms) ns a b = (a.0, both_stand B ms ns a.1 b)

pub elements_stand : (B : Segments) (n s p d q v r z : ℕ) (es : Elements) (c : ℕ) → MeansElements B n s p d q es c → ((x y : ℕ) → 0 < times (row s p (element_count es * (d + q)) ∷ cover_elements B s p d q es) x y → y < length (segment B x)) →
    HaveValuesInside B (rows_moves s (p + d) (d + q) v r z q (element_count es))
elements_stand B n s p d q v r z no_elements c m inside = tt
elements_stand B n s p d q v r z (element ws ts es) c (a, b, long, len, words, all, rest, g) inside =
    let others = element_count es * (d + q) in
    let whole = λ (x y : ℕ). times-append (cover_all B s (p + d) ts) (cover_elements B s (p + d + q) d q es) x y in
    let first = λ (x y : ℕ). split_row s p d (q + others) x y in
    let second = λ (x y : ℕ). split_row s (p + d) q others x y in
    let all_words = λ (x y : ℕ). ap (λ i. times (row s p i ∷ []) x y) (let e : suc (element_count es) * (d + q) ≡ d + (q + others) = omega arith in e) in
    let top = λ (x y : ℕ). times-first (row s p (suc (element_count es) * (d + q))) (cover_elements B s p d q (element ws ts es)) x y in
    both_stand B (row_moves s (p + d) v r q) (rows_moves s (p + d + (d + q)) (d + q) v (r + z) z q (element_count es))
    (subst (λ i. HaveValuesInside B (row_moves s (p + d) v r i)) len (children_stand B n s (p + d) v r ts a all
    (λ x y l. inside x y (omega (arith, l, top x y, all_words x y, first x y, second x y, whole x y, times-first (row s (p + d) (count ts)) (cover_all B s (p + d) ts) x y, ap (λ i. times (row s (p + d) i ∷ []) x y) len)))))
    (subst (λ i. HaveValuesInside B (rows_moves s i (d + q) v (r + z) z q (element_count es))) (let e : p + d + q + d ≡ p + d + (d + q) = omega arith in e)
    (elements_stand B n s (p + d + q) d q v (r + z) z es b rest
    (λ x y l. inside x y (omega (arith, l, top x y, all_words x y, first x y, second x y, whole x y, times-first (row s (p + d + q) others) (cover_elements B s (p + d + q) d q es) x y)))))

-- The first rows, and the others.
pub rows_split : (s p w v r z k i m n : ℕ) → n ≡ i + m → rows_moves s p w v r z k n ≡ rows_moves s p w v r z k i ++ rows_moves s (p + i * w) w v (r + i * z) z k m
rows_split s p w v r z k zero m n e =
    ap (rows_moves s p w v r z k) (let f : n ≡ m = omega arith in f) ∙ ap₂ (λ a b. rows_moves s a w v b z k m) (let f : p ≡ p + 0 * w = omega arith in f) (let f : r ≡ r + 0 * z = omega arith in f)
rows_split s p w v r z k (suc i) m zero e = absurd (omega arith)
rows_split s p w v r z k (suc i) m (suc n) e =
    ap (λ ms. row_moves s p v r k ++ ms) (rows_split s (p + w) w v (r + z) z k i m n (omega arith) ∙ ap₂ (λ a b. rows_moves s (p + w) w v (r + z) z k i ++ rows_moves s a w v b z k m)
    (let f : p + w + i * w ≡ p + suc i * w = omega arith in f) (let f : r + z + i * z ≡ r + suc i * z = omega arith in f))
    ∙ sym (append_assoc (row_moves s p v r k) (rows_moves s (p + w) w v (r + z) z k i) (rows_moves s (p + suc i * w) w v (r + suc i * z) z k m))

-- Some rows are moved, and some of the first pointers of the next one.
pub rows_some : (S M R : Segments) (s p w v r z k i n : ℕ) → i < n → Moves S M (rows_moves s p w v r z k i) → MovesSome M R (row_moves s (p + i * w) v (r + i * z) k) → MovesSome S R (rows_moves s p w v r z k n)
rows_some S M R s p w v r z k i n l f g =
    let ms = rows_moves s p w v r z k i in
    let others = rows_moves s (p + i * w + w) w v (r + i * z + z) z k (n - i - 1) in
    let next = row_moves s (p + i * w) v (r + i * z) k in
    record {
      done = ms ++ g.done;
      left = g.left ++ others;
      all = rows_split s p w v r z k i (suc (n - i - 1)) n (omega arith) ∙ ap (λ xs. ms ++ (xs ++ others)) g.all ∙ ap (λ xs. ms ++ xs) (append_assoc g.done g.left others) ∙ sym (append_assoc ms g.done (g.left ++ others));
      moves = moves_both S M R ms g.done f g.moves;
    }

-- Rows without pointers.
pub no_moves : (s p w v r z n : ℕ) → rows_moves s p w v r z 0 n ≡ []
no_moves s p w v r z zero = refl
no_moves s p w v r z (suc n) = no_moves s (p + w) w v (r + z) z n
