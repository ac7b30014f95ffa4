-- Words of one row copied over those of another, if the rows are split in two between them.
use Rattle.std.proofs.Common.{◌≡◌, ℕ, zero, suc, ◌-◌, ◌<◌, ◌≤◌, List, [], ◌∷◌, ◌++◌, length, get_or, set, refl, sym, ap, ap₂, ◌∙◌, arith, subst}
use Rattle.std.proofs.lemmas.List.{get_or_append_left, get_or-append_right, length-append, length-set}
use Rattle.capnp_format.specs.Bytes.{words_of, message}
use Rattle.capnp_format.specs.Segments.{segment, words_at}
use Rattle.capnp_arena.specs.Row.{allocated, capacity, shown, capacity_at}
use Rattle.capnp_arena_traits.specs.Written.{with_segment, with_words, with_copied}
use Rattle.capnp_arena.specs.declared.arena.allocator.Segment.{Ghosts}
use Rattle.capnp_arena.specs.declared.arena.row.Row.{Row}
use Rattle.capnp_arena.specs.Bounds.{HasBounds}
use Rattle.capnp_arena.proofs.BoundsLemmas.{bounded_same}
use Rattle.capnp_arena.proofs.RowsLemmas.{row_changed, row_is, row_old, room_same}

-- an element replaced in either part
set_front : {A : Type 0} (front back : List A) (i : ℕ) (x : A) → i < length front → set front i x ++ back ≡ set (front ++ back) i x
set_front [] back i x l = absurd (omega arith)
set_front (y ∷ front) back zero x l = refl
set_front (y ∷ front) back (suc i) x l = ap (λ ys. y ∷ ys) (set_front front back i x (omega arith))

set_back : {A : Type 0} (front back : List A) (x : A) → front ++ set back 0 x ≡ set (front ++ back) (length front) x
set_back [] back x = refl
set_back (y ∷ front) back x = ap (λ ys. y ∷ ys) (set_back front back x)

-- The rows are split in two before the row at j.
pub record IsCut {R : Type 0} (rows front back : List R) (j : ℕ) : Type 0 where
  pub parts : rows ≡ front ++ back
  pub long : length front ≡ j
  pub there : j < length rows

-- an element of either part
in_front : {R : Type 0} {rows front back : List R} {j : ℕ} (i : ℕ) (r : R) → IsCut rows front back j → i < j → r ≡ get_or front i r → r ≡ get_or rows i r
in_front {front = front} {back = back} i r cut l e = e ∙ sym (get_or_append_left front back r i (omega (arith, cut.long))) ∙ ap (λ xs. get_or xs i r) (sym cut.parts)

in_back : {R : Type 0} {rows front back : List R} {j : ℕ} (r : R) → IsCut rows front back j → r ≡ get_or back 0 r → r ≡ get_or rows j r
in_back {front = front} {back = back} {j = j} r cut e =
    e ∙ ap (λ k. get_or back k r) (let none : 0 ≡ j - j = omega arith in none) ∙ sym (get_or-append_right front back j j r cut.long (omega arith)) ∙ ap (λ xs. get_or xs j r) (sym cut.parts)

module _ {S : Type 0} (g : Ghosts S) where
  -- a place within a row of either part
  pub room_front : (rows front back : List (Row S g)) (j i k : ℕ) (r : Row S g) → IsCut rows front back j → i < j → r ≡ get_or front i r → k ≤ length (segment (message (shown g rows)) i) → k ≤ (get_or front i r).used
  room_front rows front back j i k r cut l e m =
      let there : i < length rows = omega (arith, cut.there) in
      omega (arith, m, row_old g rows i r there (in_front i r cut l e), ap (λ (q : Row S g). q.used) e)

  pub room_back : (rows front back : List (Row S g)) (j k : ℕ) (r : Row S g) → IsCut rows front back j → r ≡ get_or back 0 r → k ≤ length (segment (message (shown g rows)) j) → k ≤ (get_or back 0 r).used
  room_back rows front back j k r cut e m = omega (arith, m, row_old g rows j r cut.there (in_back r cut e), ap (λ (q : Row S g). q.used) e)

  -- words are copied from the row at i, and the row at j is another one after that
  copied_row : (rows : List (Row S g)) (i j : ℕ) (q r new : Row S g) (p at n : ℕ) → i < length rows → j < length rows → q ≡ get_or rows i q → r ≡ get_or rows j r →
      words_of (allocated g new) ≡ with_copied (words_of (allocated g r)) at (words_of (allocated g q)) p n → message (shown g (set rows j new)) ≡ with_words (message (shown g rows)) j at (words_at (message (shown g rows)) i p n)
  copied_row rows i j q r new p at n l m e f h =
      row_changed g rows j new
      ∙ ap (with_segment (message (shown g rows)) j) (h ∙ ap₂ (λ xs ys. with_copied xs at ys p n) (sym (row_is g rows j r m f)) (sym (row_is g rows i q l e)))

  -- from a row of the front to the first row after it
  pub copied_back : (rows front back : List (Row S g)) (i j : ℕ) (q r new : Row S g) (p at n : ℕ) → IsCut rows front back j → i < j → q ≡ get_or front i q → r ≡ get_or back 0 r →
      words_of (allocated g new) ≡ with_copied (words_of (allocated g (get_or back 0 r))) at (words_of (allocated g (get_or front i q))) p n →
      message (shown g (front ++ set back 0 new)) ≡ with_words (message (shown g rows)) j at (words_at (message (shown g rows)) i p n)
  copied_back rows front back i j q r new p at n cut l e f h =
      ap (λ xs. message (shown g xs)) (set_back front back new ∙ ap₂ (λ xs k. set xs k new) (sym cut.parts) cut.long)
      ∙ copied_row rows i j q r new p at n (omega (arith, cut.there)) cut.there (in_front i q cut l e) (in_back r cut f)
      (h ∙ ap₂ (λ (x y : Row S g). with_copied (words_of (allocated g x)) at (words_of (allocated g y)) p n) (sym f) (sym e))

  pub kept_back : (rows front back : List (Row S g)) (j : ℕ) (r new : Row S g) → IsCut rows front back j → r ≡ get_or back 0 r → capacity g new ≡ capacity g (get_or back 0 r) →
      capacity_at g (front ++ set back 0 new) ≡ capacity_at g rows
  kept_back rows front back j r new cut f h =
      ap (capacity_at g) (set_back front back new ∙ ap₂ (λ xs k. set xs k new) (sym cut.parts) cut.long) ∙ room_same g rows j r new (in_back r cut f) (h ∙ ap (capacity g) (sym f))

  -- from the first row after the front to a row of the front
  pub copied_front : (rows front back : List (Row S g)) (i j : ℕ) (q r new : Row S g) (p at n : ℕ) → IsCut rows front back i → j < i → q ≡ get_or back 0 q → r ≡ get_or front j r →
      words_of (allocated g new) ≡ with_copied (words_of (allocated g (get_or front j r))) at (words_of (allocated g (get_or back 0 q))) p n →
      message (shown g (set front j new ++ back)) ≡ with_words (message (shown g rows)) j at (words_at (message (shown g rows)) i p n)
  copied_front rows front back i j q r new p at n cut l e f h =
      ap (λ xs. message (shown g xs)) (set_front front back j new (omega (arith, cut.long)) ∙ ap (λ xs. set xs j new) (sym cut.parts))
      ∙ copied_row rows i j q r new p at n cut.there (omega (arith, cut.there)) (in_back q cut e) (in_front j r cut l f)
      (h ∙ ap₂ (λ (x y : Row S g). with_copied (words_of (allocated g x)) at (words_of (allocated g y)) p n) (sym f) (sym e))

  pub kept_front : (rows front back : List (Row S g)) (i j : ℕ) (r new : Row S g) → IsCut rows front back i → j < i → r ≡ get_or front j r → capacity g new ≡ capacity g (get_or front j r) →
      capacity_at g (set front j new ++ back) ≡ capacity_at g rows
  kept_front rows front back i j r new cut l f h =
      ap (capacity_at g) (set_front front back j new (omega (arith, cut.long)) ∙ ap (λ xs. set xs j new) (sym cut.parts)) ∙ room_same g rows j r new (in_front j r cut l f) (h ∙ ap (capacity g) (sym f))

  -- and the bounds of all rows stay
  pub bounded_back : (rows front back : List (Row S g)) (j : ℕ) (r new : Row S g) → IsCut rows front back j → r ≡ get_or back 0 r → capacity g new ≡ capacity g (get_or back 0 r) → new.used ≡ (get_or back 0 r).used →
      new.bound ≡ (get_or back 0 r).bound → HasBounds g rows → HasBounds g (front ++ set back 0 new)
  bounded_back rows front back j r new cut f h used bound b =
      subst (HasBounds g) (sym (set_back front back new ∙ ap₂ (λ xs k. set xs k new) (sym cut.parts) cut.long))
      (bounded_same g rows j r new (in_back r cut f) (h ∙ ap (capacity g) (sym f)) (used ∙ ap (λ (q : Row S g). q.used) (sym f)) (bound ∙ ap (λ (q : Row S g). q.bound) (sym f)) b)

  pub bounded_front : (rows front back : List (Row S g)) (i j : ℕ) (r new : Row S g) → IsCut rows front back i → j < i → r ≡ get_or front j r → capacity g new ≡ capacity g (get_or front j r) → new.used ≡ (get_or front j r).used →
      new.bound ≡ (get_or front j r).bound → HasBounds g rows → HasBounds g (set front j new ++ back)
  bounded_front rows front back i j r new cut l f h used bound b =
      subst (HasBounds g) (sym (set_front front back j new (omega (arith, cut.long)) ∙ ap (λ xs. set xs j new) (sym cut.parts)))
      (bounded_same g rows j r new (in_front j r cut l f) (h ∙ ap (capacity g) (sym f)) (used ∙ ap (λ (q : Row S g). q.used) (sym f)) (bound ∙ ap (λ (q : Row S g). q.bound) (sym f)) b)

  -- and the number of rows stays
  pub many_back : (rows front back : List (Row S g)) (j : ℕ) (new : Row S g) → IsCut rows front back j → length (front ++ set back 0 new) ≡ length rows
  many_back rows front back j new cut = ap length (set_back front back new ∙ ap₂ (λ xs k. set xs k new) (sym cut.parts) cut.long) ∙ length-set rows j new

  pub many_front : (rows front back : List (Row S g)) (i j : ℕ) (new : Row S g) → IsCut rows front back i → j < i → length (set front j new ++ back) ≡ length rows
  many_front rows front back i j new cut l = ap length (set_front front back j new (omega (arith, cut.long)) ∙ ap (λ xs. set xs j new) (sym cut.parts)) ∙ length-set rows j new

pub back_there : {R : Type 0} (rows front back : List R) (j : ℕ) → IsCut rows front back j → 0 < length back
back_there rows front back j cut = omega (arith, ap length cut.parts, length-append front back, cut.long, cut.there)
