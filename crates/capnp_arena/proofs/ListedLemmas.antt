-- All rows, if the first is kept apart: the first changed, or one of the others.
use Rattle.std.proofs.Common.{◌≡◌, ℕ, Bool, true, false, zero, suc, ◌+◌, ◌-◌, ◌<◌, ◌≤◌, List, [], ◌∷◌, length, replicate, slice_get, Option, Some, None, IsNone, IfSome, ◌++◌, refl, sym, ap, ◌∙◌, arith, subst}
use Rattle.capnp_format.specs.Bytes.{words_of, message}
use Rattle.capnp_format.specs.Segments.{segment}
use Rattle.capnp_arena.specs.Rewritten.{RewritesRows, RewritesList}
use Rattle.capnp_arena.specs.Row.{allocated, capacity, capacity_at, with_first, most_others, shown}
use Rattle.capnp_arena.specs.Bounds.{HasBounds, view_of_rows}
use Rattle.capnp_arena_traits.specs.Taking.{IsFirstFit, IsFull}
use Rattle.capnp_arena_traits.specs.Written.{extended, with_segment}
use Rattle.capnp_arena.specs.declared.arena.allocator.Segment.{Ghosts}
use Rattle.capnp_arena.specs.declared.arena.row.Row.{Row}
pub use Rattle.capnp_arena.specs.WithBytesLemmas.{first_kept, other_kept}
use Rattle.std.specs.Global.{Vec}
use Rattle.std.specs.Vec.{with_items}
use Rattle.std.proofs.lemmas.List.{with_items_is, length-append}
use Rattle.capnp_arena_traits.specs.Allocations.{max_segments, max_segment_words}
use Rattle.capnp_arena.proofs.BoundsLemmas.{bounded_pushed}
use Rattle.capnp_arena.proofs.RowsLemmas.{row_words}

module _ {S : Type 0} (g : Ghosts S) where
  -- the words of the first row are at most those of segment 0
  pub first_words : (t : Bool) (first : Row S g) (others : List (Row S g)) (id : ℕ) → id ≡ 0 → id < length (with_first g t first others) → segment (message (shown g (with_first g t first others))) id ≡ words_of (allocated g first)
  first_words false first others id e l = absurd (omega arith)
  first_words true first others zero e l = refl
  first_words true first others (suc id) e l = absurd (omega arith)

  pub first_there : (t : Bool) (first : Row S g) (others : List (Row S g)) (id p : ℕ) → p < length (segment (message (shown g (with_first g t first others))) id) → id < length (with_first g t first others)
  first_there false first others zero p l = absurd (omega arith)
  first_there false first others (suc id) p l = absurd (omega arith)
  first_there true first others zero p l = omega arith
  first_there true first [] (suc zero) p l = absurd (omega arith)
  first_there true first [] (suc (suc id)) p l = absurd (omega arith)
  first_there true first (r ∷ others) (suc id) p l = omega (arith, first_there true r others id p l)

  pub first_used : (t : Bool) (first : Row S g) (others : List (Row S g)) (id : ℕ) → id ≡ 0 → id < length (with_first g t first others) → length (segment (message (shown g (with_first g t first others))) id) ≡ first.used
  first_used t first others id e l = ap length (first_words t first others id e l) ∙ row_words g first

  pub first_room : (t : Bool) (first : Row S g) (others : List (Row S g)) (id : ℕ) → id ≡ 0 → id < length (with_first g t first others) → capacity_at g (with_first g t first others) id ≡ capacity g first
  first_room false first others id e l = absurd (omega arith)
  first_room true first others zero e l = refl
  first_room true first others (suc id) e l = absurd (omega arith)

  pub first_changed : (t : Bool) (old new : Row S g) (others : List (Row S g)) (id : ℕ) → id ≡ 0 → message (shown g (with_first g t new others)) ≡ with_segment (message (shown g (with_first g t old others))) id (words_of (allocated g new))
  first_changed false old new others id e = refl
  first_changed true old new others zero e = refl
  first_changed true old new others (suc id) e = absurd (omega arith)

  pub first_written : (f : List ℕ → List ℕ) (t : Bool) (old new : Row S g) (others : List (Row S g)) (id : ℕ) → id ≡ 0 → id < length (with_first g t old others) → words_of (allocated g new) ≡ f (words_of (allocated g old)) →
      message (shown g (with_first g t new others)) ≡ with_segment (message (shown g (with_first g t old others))) id (f (segment (message (shown g (with_first g t old others))) id))
  first_written f t old new others id e l h =
      first_changed t old new others id e ∙ ap (with_segment (message (shown g (with_first g t old others))) id) (h ∙ ap f (sym (first_words t old others id e l)))

  -- what is inside segment 0 is inside the first row
  pub first_inside : (t : Bool) (first : Row S g) (others : List (Row S g)) (id n : ℕ) → id ≡ 0 → id < length (with_first g t first others) → n ≤ length (segment (message (shown g (with_first g t first others))) id) → n ≤ first.used
  first_inside t first others id n e l h = subst (λ m. n ≤ m) (first_used t first others id e l) h

  -- another row is there; its number among the others is one less
  pub other_there : (t : Bool) (first : Row S g) (others : List (Row S g)) (id : ℕ) → 0 < id → id < length (with_first g t first others) → id - 1 < length others
  other_there false first others id some l = absurd (omega arith)
  other_there true first others id some l = omega arith

  pub other_shown : (t : Bool) (first : Row S g) (others : List (Row S g)) (id : ℕ) → 0 < id → id < length (with_first g t first others) → slice_get (shown g (with_first g t first others)) id ≡ slice_get (shown g others) (id - 1)
  other_shown false first others id some l = absurd (omega (arith, l))
  other_shown true first others zero some l = absurd (omega (arith, some))
  other_shown true first others (suc id) some l = ap (slice_get (shown g others)) (let same : id ≡ suc id - 1 = omega arith in same)

  pub other_words : (t : Bool) (first : Row S g) (others : List (Row S g)) (id : ℕ) → length others ≤ most_others t → 0 < id → segment (message (shown g (with_first g t first others))) id ≡ segment (message (shown g others)) (id - 1)
  other_words t first others zero few some = absurd (omega arith)
  other_words false first [] (suc id) few some = refl
  other_words false first (r ∷ others) (suc id) few some = absurd (omega arith)
  other_words true first others (suc id) few some = ap (segment (message (shown g others))) (let same : id ≡ suc id - 1 = omega arith in same)

  pub other_room : (t : Bool) (first : Row S g) (others : List (Row S g)) (id : ℕ) → length others ≤ most_others t → 0 < id → capacity_at g (with_first g t first others) id ≡ capacity_at g others (id - 1)
  other_room t first others zero few some = absurd (omega arith)
  other_room false first [] (suc id) few some = refl
  other_room false first (r ∷ others) (suc id) few some = absurd (omega arith)
  other_room true first others (suc id) few some = ap (capacity_at g others) (let same : id ≡ suc id - 1 = omega arith in same)

  pub other_inside : (t : Bool) (first : Row S g) (others : List (Row S g)) (id n : ℕ) → length others ≤ most_others t → 0 < id → n ≤ length (segment (message (shown g (with_first g t first others))) id) →
      n ≤ length (segment (message (shown g others)) (id - 1))
  other_inside t first others id n few some h = subst (λ m. n ≤ m) (ap length (other_words t first others id few some)) h

  pub other_changed : (t : Bool) (first : Row S g) (old new : List (Row S g)) (id : ℕ) (ws : List ℕ) → 0 < id → message (shown g new) ≡ with_segment (message (shown g old)) (id - 1) ws →
      message (shown g (with_first g t first new)) ≡ with_segment (message (shown g (with_first g t first old))) id ws
  other_changed t first old new zero ws some e = absurd (omega arith)
  other_changed false first old new (suc id) ws some e = refl
  other_changed true first old new (suc id) ws some e =
      ap (λ M. words_of (allocated g first) ∷ M) (e ∙ ap (λ k. with_segment (message (shown g old)) k ws) (let same : suc id - 1 ≡ id = omega arith in same))

  pub others_kept : (t : Bool) (first : Row S g) (v : Vec (Row S g)) (old new : List (Row S g)) → old ≡ v.items → length new ≡ length old → capacity_at g new ≡ capacity_at g old →
      capacity_at g (with_first g t first (with_items v new).items) ≡ capacity_at g (with_first g t first v.items)
  others_kept t first v old new is many e =
      other_kept g t first v.items (with_items v new).items (ap (capacity_at g) (with_items_is v new (omega (arith, v.ok.0, many, ap length is))) ∙ e ∙ ap (capacity_at g) is)

  -- another row is overwritten
  pub others_written : (t : Bool) (first : Row S g) (v : Vec (Row S g)) (old new : List (Row S g)) (id : ℕ) (f : List ℕ → List ℕ) → length v.items ≤ most_others t → old ≡ v.items → length new ≡ length old → 0 < id →
      message (shown g new) ≡ with_segment (message (shown g old)) (id - 1) (f (segment (message (shown g old)) (id - 1))) →
      message (shown g (with_first g t first (with_items v new).items)) ≡ with_segment (message (shown g (with_first g t first v.items))) id (f (segment (message (shown g (with_first g t first v.items))) id))
  others_written t first v old new id f few is many some e =
      let items = with_items_is v new (omega (arith, v.ok.0, many, ap length is)) in
      other_changed t first v.items (with_items v new).items id (f (segment (message (shown g v.items)) (id - 1))) some
      (ap (λ xs. message (shown g xs)) items ∙ e ∙ ap (λ xs. with_segment (message (shown g xs)) (id - 1) (f (segment (message (shown g xs)) (id - 1)))) is)
      ∙ ap (λ ws. with_segment (message (shown g (with_first g t first v.items))) id (f ws)) (sym (other_words t first v.items id few some))

  -- another row is rewritten
  pub others_rewritten : (t : Bool) (first : Row S g) (v : Vec (Row S g)) (old new : List (Row S g)) (id : ℕ) (f : List ℕ → List ℕ) → length v.items ≤ most_others t → old ≡ v.items → 0 < id →
      RewritesList g old new (with_segment (message (shown g old)) (id - 1) (f (segment (message (shown g old)) (id - 1)))) →
      RewritesRows g (with_first g t first v.items) (with_first g t first (with_items v new).items) (with_segment (message (shown g (with_first g t first v.items))) id (f (segment (message (shown g (with_first g t first v.items))) id)))
  others_rewritten t first v old new id f few is some h = record { words = others_written t first v old new id f few is h.kept.many some h.words; room = others_kept t first v old new is h.kept.many h.kept.room }

  -- the bounds of others that are overwritten
  pub others_bounded : (v : Vec (Row S g)) (old new : List (Row S g)) → old ≡ v.items → length new ≡ length old → (HasBounds g old → HasBounds g new) → HasBounds g v.items → HasBounds g (with_items v new).items
  others_bounded v old new is many kept h =
      subst (HasBounds g) (sym (with_items_is v new (omega (arith, v.ok.0, many, ap length is)))) (kept (subst (HasBounds g) (sym is) h))

  pub others_few : (v : Vec (Row S g)) (old new : List (Row S g)) (most : ℕ) → old ≡ v.items → length new ≡ length old → length v.items ≤ most → length (with_items v new).items ≤ most
  others_few v old new most is many few = omega (arith, ap length (with_items_is v new (omega (arith, v.ok.0, many, ap length is))), many, ap length is, few)

  -- words allocated in another row, if it has room
  pub others_allocated : (t : Bool) (first : Row S g) (v : Vec (Row S g)) (old new : List (Row S g)) (id amount : ℕ) (at : Option ℕ) → length v.items ≤ most_others t → old ≡ v.items → length new ≡ length old → 0 < id →
      IfSome at (λ p. (p ≡ length (segment (message (shown g old)) (id - 1))) × (message (shown g new) ≡ extended (message (shown g old)) (id - 1) (replicate amount 0))) →
      IfSome at (λ p. (p ≡ length (segment (message (shown g (with_first g t first v.items))) id)) × (message (shown g (with_first g t first (with_items v new).items)) ≡ extended (message (shown g (with_first g t first v.items))) id (replicate amount 0)))
  others_allocated t first v old new id amount None few is many some h = tt
  others_allocated t first v old new id amount (Some p) few is many some h =
      let same : segment (message (shown g old)) (id - 1) ≡ segment (message (shown g (with_first g t first v.items))) id = ap (λ xs. segment (message (shown g xs)) (id - 1)) is ∙ sym (other_words t first v.items id few some) in
      (h.0 ∙ ap length same, others_written t first v old new id (λ xs. xs ++ replicate amount 0) few is many some h.1)

  pub others_same : (t : Bool) (first : Row S g) (v : Vec (Row S g)) (old new : List (Row S g)) → old ≡ v.items → length new ≡ length old → message (shown g new) ≡ message (shown g old) →
      message (shown g (with_first g t first (with_items v new).items)) ≡ message (shown g (with_first g t first v.items))
  others_same false first v old new is many e = refl
  others_same true first v old new is many e =
      ap (λ M. words_of (allocated g first) ∷ M) (ap (λ xs. message (shown g xs)) (with_items_is v new (omega (arith, v.ok.0, many, ap length is))) ∙ e ∙ ap (λ xs. message (shown g xs)) is)

  -- the first row that has room
  pub fit_first : (t : Bool) (first : Row S g) (others : List (Row S g)) (amount : ℕ) → t ≡ true → first.used + amount ≤ capacity g first → IsFirstFit (view_of_rows g (with_first g t first others)) amount 0
  fit_first false first others amount e room = cc
  fit_first true first others amount e room = (omega arith, omega (arith, room, row_words g first), λ j below. absurd (omega (arith, below)))

  pub fit_other : (t : Bool) (first : Row S g) (others : List (Row S g)) (amount k : ℕ) → t ≡ true → (first.used + amount ≤ capacity g first → ⊥) → IsFirstFit (view_of_rows g others) amount k →
      IsFirstFit (view_of_rows g (with_first g t first others)) amount (k + 1)
  fit_other false first others amount k e none fit = cc
  fit_other true first others amount k e none fit = subst (IsFirstFit (view_of_rows g (first ∷ others)) amount) (let next : suc k ≡ k + 1 = omega arith in next) (omega (arith, fit.0), fit.1, before)
    where
      before : (j : ℕ) → j < suc k → capacity_at g (first ∷ others) j < length (segment (message (shown g (first ∷ others))) j) + amount
      before zero below = let less : capacity g first < first.used + amount = omega (arith, none) in omega (arith, less, row_words g first)
      before (suc j) below = fit.2 j (omega (arith, below))

  pub full_others : (t : Bool) (first : Row S g) (others : List (Row S g)) (amount : ℕ) → (first.used + amount ≤ capacity g first → ⊥) → IsFull (view_of_rows g others) amount → IsFull (view_of_rows g (with_first g t first others)) amount
  full_others false first others amount none full k l = absurd (omega (arith, l))
  full_others true first others amount none full zero l = let less : capacity g first < first.used + amount = omega (arith, none) in omega (arith, less, row_words g first)
  full_others true first others amount none full (suc k) l = full k (omega (arith, l))

  -- if there is no first row, there is no row
  pub full_none : (t : Bool) (first : Row S g) (others : List (Row S g)) (amount : ℕ) → t ≡ false → IsFull (view_of_rows g (with_first g t first others)) amount
  full_none false first others amount e k l = absurd (omega (arith, l))
  full_none true first others amount e k l = cc

  -- an upper limit of the number of rows
  pub listed_few : (t : Bool) (first : Row S g) (others : List (Row S g)) → length others ≤ most_others t → length (with_first g t first others) ≤ max_segments
  listed_few false first others few = omega arith
  listed_few true first others few = omega (arith, few)

  -- a row is kept after the others, or returned
  pub others_pushed : (t : Bool) (first row : Row S g) (old new : List (Row S g)) (back : Option (Row S g)) {P : Type 0} (Q : Row S g → Type 0) → t ≡ true → length (with_first g t first old) < max_segments →
      (IsNone back → (new ≡ old ++ row ∷ []) × P) → IfSome back (λ r. (r ≡ row) × (new ≡ old) × Q r) → row.bound ≡ max_segment_words → length old ≤ most_others t → HasBounds g old → (length new ≤ most_others t) × HasBounds g new
  others_pushed false first row old new back Q e many kept given bound few h = cc
  others_pushed true first row old new (Some r) Q e many kept given bound few h = (omega (arith, ap length given.1, few), subst (HasBounds g) (sym given.1) h)
  others_pushed true first row old new None Q e many kept given bound few h =
      (omega (arith, many, ap length (kept refl).0, length-append old (row ∷ [])), subst (HasBounds g) (sym (kept refl).0) (bounded_pushed g old row bound h))

pub ruleset listing = (first_words, first_used, first_room, first_changed, first_kept, other_words, other_room, other_changed, other_kept)
