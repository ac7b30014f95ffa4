-- The bounds of an arena's rows: rows that are overwritten, filled or added at the end, and a bound
-- that is lowered.
use Rattle.std.proofs.Common.{◌≡◌, ℕ, Bool, true, false, IsTrue, zero, suc, inl, inr, ◌+◌, ◌-◌, ◌<◌, ◌≤◌, List, [], ◌∷◌, ◌++◌, length, get_or, set, refl, sym, ap, ◌∙◌, arith, subst}
use Rattle.std.proofs.lemmas.Bool.{cases_lt}
use Rattle.std.proofs.lemmas.List.{length-map, length-set, map-append, map-set}
use Rattle.capnp_format.specs.Bytes.{words_of, message}
use Rattle.capnp_format.specs.Segments.{segment}
use Rattle.capnp_arena_traits.specs.Allocations.{max_segment_words}
use Rattle.capnp_arena_traits.specs.Written.{with_segment}
use Rattle.capnp_arena.specs.Rewritten.{RewritesRow, RewritesList}
use Rattle.capnp_arena.specs.Row.{allocated, capacity, capacity_at, shown}
use Rattle.capnp_arena.specs.LendingLemmas.{each_same}
use Rattle.capnp_arena.specs.Bounds.{IsBoundAt, IsBounded, HasBounds, HaveNoRoom, room, rooms, bounds}
use Rattle.capnp_arena.specs.declared.arena.allocator.Segment.{Ghosts}
use Rattle.capnp_arena.specs.declared.arena.row.Row.{Row}
use Rattle.capnp_arena.proofs.RangeLemmas.{bounded_less, bounded_more, bounded_again}
use Rattle.capnp_arena.proofs.RowsLemmas.{row_words, row_over, segment_row, room_row, room_same}

module _ {S : Type 0} (g : Ghosts S) where
  -- a row with no more room than before, and the same bound
  room_less : (rows : List (Row S g)) (i : ℕ) (old new : Row S g) → old ≡ get_or rows i old → room g new ≤ room g old → (k : ℕ) → get_or (rooms g (set rows i new)) k 0 ≤ get_or (rooms g rows) k 0
  room_less [] i old new e less k = omega arith
  room_less (q ∷ rows) zero old new e less zero = omega (arith, less, ap (room g) e)
  room_less (q ∷ rows) zero old new e less (suc k) = omega arith
  room_less (q ∷ rows) (suc i) old new e less zero = omega arith
  room_less (q ∷ rows) (suc i) old new e less (suc k) = room_less rows i old new e less k

  pub length_rooms : (rows : List (Row S g)) → length (rooms g rows) ≡ length rows
  length_rooms rows = length-map rows (room g)

  bounded_set : (rows : List (Row S g)) (i : ℕ) (old new : Row S g) → old ≡ get_or rows i old → room g new ≤ room g old → new.bound ≡ old.bound → HasBounds g rows → HasBounds g (set rows i new)
  bounded_set rows i old new e less same h =
      let shorter : length (rooms g (set rows i new)) ≡ length (rooms g rows) = omega (arith, length-map (set rows i new) (room g), length-map rows (room g), length-set rows i new) in
      subst (IsBounded (rooms g (set rows i new))) (sym (each_same g (λ (q : Row S g). q.bound) rows i old new e same))
      (bounded_less (rooms g rows) (rooms g (set rows i new)) (bounds g rows) h shorter (room_less rows i old new e less))

  -- an overwritten row
  pub bounded_same : (rows : List (Row S g)) (i : ℕ) (old new : Row S g) → old ≡ get_or rows i old → capacity g new ≡ capacity g old → new.used ≡ old.used → new.bound ≡ old.bound → HasBounds g rows → HasBounds g (set rows i new)
  bounded_same rows i old new e size used same h = bounded_set rows i old new e (omega (arith, size, used)) same h

  -- words allocated in a row
  pub bounded_taken : (rows : List (Row S g)) (i amount : ℕ) (old new : Row S g) → old ≡ get_or rows i old → capacity g new ≡ capacity g old → new.used ≡ old.used + amount → new.bound ≡ old.bound → HasBounds g rows → HasBounds g (set rows i new)
  bounded_taken rows i amount old new e size used same h = bounded_set rows i old new e (omega (arith, size, used)) same h

  -- another row in place of the row number i, of the same size and with as many words allocated
  pub bounded_over : (rows : List (Row S g)) (i : ℕ) (old new : Row S g) → old ≡ get_or rows i old → capacity g new ≡ capacity g (get_or rows i old) → new.used ≡ (get_or rows i old).used → new.bound ≡ (get_or rows i old).bound →
      HasBounds g rows → HasBounds g (set rows i new)
  bounded_over rows i old new e size used same h =
      bounded_same rows i old new e (size ∙ ap (capacity g) (sym e)) (used ∙ ap (λ (q : Row S g). q.used) (sym e)) (same ∙ ap (λ (q : Row S g). q.bound) (sym e)) h

  pub bounded_grown : (rows : List (Row S g)) (i amount : ℕ) (old new : Row S g) → old ≡ get_or rows i old → capacity g new ≡ capacity g (get_or rows i old) → new.used ≡ (get_or rows i old).used + amount →
      new.bound ≡ (get_or rows i old).bound → HasBounds g rows → HasBounds g (set rows i new)
  bounded_grown rows i amount old new e size used same h =
      bounded_taken rows i amount old new e (size ∙ ap (capacity g) (sym e)) (used ∙ ap (λ (q : Row S g). q.used + amount) (sym e)) (same ∙ ap (λ (q : Row S g). q.bound) (sym e)) h

  -- a rewritten row, by its number
  pub list_over : (f : List ℕ → List ℕ) (rows : List (Row S g)) (i : ℕ) (old new : Row S g) → i < length rows → old ≡ get_or rows i old → RewritesRow g (get_or rows i old) new (f (words_of (allocated g (get_or rows i old)))) →
      RewritesList g rows (set rows i new) (with_segment (message (shown g rows)) i (f (segment (message (shown g rows)) i)))
  list_over f rows i old new l e h = record {
    words = row_over g f rows i old new l h.words;
    kept = record {
      room = room_same g rows i old new e (h.capacity ∙ ap (capacity g) (sym e));
      many = length-set rows i new;
      bounded = bounded_over rows i old new e h.capacity h.used h.bound;
    };
  }

  -- a row after the others
  rooms_small : (rows : List (Row S g)) (k : ℕ) → get_or (rooms g rows) k 0 ≤ max_segment_words
  rooms_small [] k = omega arith
  rooms_small (r ∷ rows) zero = omega (arith, r.clear.1)
  rooms_small (r ∷ rows) (suc k) = rooms_small rows k

  pub bounded_pushed : (rows : List (Row S g)) (r : Row S g) → r.bound ≡ max_segment_words → HasBounds g rows → HasBounds g (rows ++ r ∷ [])
  bounded_pushed rows r same h =
      let many : length (rooms g rows) ≡ length (bounds g rows) = omega (arith, length-map rows (room g), length-map rows (λ (q : Row S g). q.bound)) in
      let more_rooms = map-append (room g) rows (r ∷ []) in
      let more_bounds = map-append (λ (q : Row S g). q.bound) rows (r ∷ []) in
      let great : (k : ℕ) → get_or (rooms g rows ++ room g r ∷ []) k 0 ≤ r.bound = λ k. omega (arith, rooms_small (rows ++ r ∷ []) k, same, ap (λ xs. get_or xs k 0) more_rooms) in
      subst (IsBounded (rooms g (rows ++ r ∷ []))) (sym more_bounds)
      (subst (λ xs. IsBounded xs (bounds g rows ++ r.bound ∷ [])) (sym more_rooms) (bounded_more (rooms g rows) (bounds g rows) (room g r) r.bound h many great))

  -- a row with only its bound changed
  pub bounded_lowered : (rows : List (Row S g)) (i : ℕ) (old new : Row S g) → i < length rows → old ≡ get_or rows i old → room g new ≡ room g old →
      IsBoundAt (rooms g rows) i new.bound → HasBounds g rows → HasBounds g (set rows i new)
  bounded_lowered rows i old new there e same great h =
      let many : length (rooms g rows) ≡ length (bounds g rows) = omega (arith, length-map rows (room g), length-map rows (λ (q : Row S g). q.bound)) in
      subst (IsBounded (rooms g (set rows i new))) (sym (map-set (λ (q : Row S g). q.bound) rows i new))
      (subst (λ xs. IsBounded xs (set (bounds g rows) i new.bound)) (sym (each_same g (room g) rows i old new e same))
      (bounded_again (rooms g rows) (bounds g rows) i new.bound h many (omega (arith, there, length-map rows (room g))) great))

  -- the bound and the room of a row, by its number
  pub bound_at : (rows : List (Row S g)) (i j : ℕ) (d : Row S g) → i < length rows → j ≡ i → get_or (bounds g rows) j 0 ≡ (get_or rows i d).bound
  bound_at [] i j d l e = absurd (omega arith)
  bound_at (r ∷ rows) zero zero d l e = refl
  bound_at (r ∷ rows) zero (suc j) d l e = absurd (omega arith)
  bound_at (r ∷ rows) (suc i) zero d l e = absurd (omega arith)
  bound_at (r ∷ rows) (suc i) (suc j) d l e = bound_at rows i j d (omega arith) (omega arith)

  pub room_at : (rows : List (Row S g)) (i j : ℕ) (d : Row S g) → i < length rows → j ≡ i → get_or (rooms g rows) j 0 ≡ room g (get_or rows i d)
  room_at [] i j d l e = absurd (omega arith)
  room_at (r ∷ rows) zero zero d l e = refl
  room_at (r ∷ rows) zero (suc j) d l e = absurd (omega arith)
  room_at (r ∷ rows) (suc i) zero d l e = absurd (omega arith)
  room_at (r ∷ rows) (suc i) (suc j) d l e = room_at rows i j d (omega arith) (omega arith)

  -- the room of a row, by the words that it holds
  pub room_left : (rows : List (Row S g)) (i : ℕ) → get_or (rooms g rows) i 0 ≡ capacity_at g rows i - length (segment (message (shown g rows)) i)
  room_left [] zero = refl
  room_left [] (suc i) = refl
  room_left (r ∷ rows) zero = ap (λ n. capacity g r - n) (sym (row_words g r))
  room_left (r ∷ rows) (suc i) = room_left rows i

  -- row k has no room for `amount` more words
  abbrev pub IsTooFull : List (Row S g) → ℕ → ℕ → Type 0
  IsTooFull rows amount k = capacity_at g rows k < length (segment (message (shown g rows)) k) + amount

  -- rows before and after `from` without room
  pub passed_on : (rows old : List (Row S g)) (from at amount : ℕ) → shown g rows ≡ shown g old → capacity_at g rows ≡ capacity_at g old → ((k : ℕ) → k < from → IsTooFull old amount k) →
      HaveNoRoom (rooms g rows) from at amount → (k : ℕ) → k < at → IsTooFull old amount k
  passed_on rows old from at amount same size before behind k l =
      elim (cases_lt k from) [
        | inl below ↦ before k below
        | inr above ↦
            omega (arith, behind k above l, room_left rows k, ap (λ (f : ℕ → ℕ). f k) size, ap (λ B. length (segment (message B) k)) same)
      ]

  -- what one of the rows says about its room holds for the rows before the call
  pub room_as_before : (rows old : List (Row S g)) (i : ℕ) (d : Row S g) → shown g rows ≡ shown g old → capacity_at g rows ≡ capacity_at g old → i < length rows →
      (length (segment (message (shown g old)) i) ≡ (get_or rows i d).used) × (capacity_at g old i ≡ capacity g (get_or rows i d))
  room_as_before rows old i d same size there = (
    sym (ap (λ B. length (segment (message B) i)) same) ∙ ap length (segment_row g rows i d there) ∙ row_words g (get_or rows i d),
    sym (ap (λ (f : ℕ → ℕ). f i) size) ∙ room_row g rows i d there,
  )

  -- a row that says that it has no room has none
  pub too_full : (old : List (Row S g)) (i k amount used size : ℕ) (fits : Bool) → length (segment (message (shown g old)) i) ≡ used → capacity_at g old i ≡ size → (used + amount ≤ size → IsTrue fits) → fits ≡ false → k ≡ i → IsTooFull old amount k
  too_full old i k amount used size fits e f roomy none at =
      elim (cases_lt size (used + amount)) [
        | inl less ↦ subst (IsTooFull old amount) (sym at) (omega (arith, e, f, less))
        | inr enough ↦ let both : true ≡ false = sym (roomy enough) ∙ none in cc
      ]
