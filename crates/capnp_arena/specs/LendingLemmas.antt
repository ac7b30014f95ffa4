-- Lemmas on what rows hold after the allocated words of one were lent for writing. They are among
-- the definitions because a trait's law may cite nothing else.
use Rattle.std.specs.Prelude.{ℕ, List, [], ◌∷◌, ◌*◌, ◌/◌, ◌≡◌, ◌≤◌, ◌-◌, ◌++◌, length, map, take, drop}
use Rattle.std.specs.Prelude.{slice_get, slice_set, Option, Some, None}
use Rattle.std.proofs.Common.{zero, suc, refl, sym, ap, subst, ◌∙◌, arith, get_or, set, take_at}
use Rattle.std.proofs.Common.{length-take, length-set}
use Rattle.std.proofs.lemmas.Grind.{common_steps}
use Rattle.std.specs.Global.{Vec}
use Rattle.capnp_arena_traits.specs.Written.{with_front}
use Rattle.capnp_arena.specs.Bounds.{IsBounded, HasBounds, room, rooms, bounds}
use Rattle.capnp_arena.specs.Row.{allocated, capacity, capacity_at, shown, with_allocated}
use Rattle.capnp_arena.specs.Row.{with_found, with_row}
use Rattle.capnp_arena.specs.ClearLemmas.{length-with_front}
use Rattle.capnp_arena.specs.declared.arena.row.Row.{Row}
use Rattle.capnp_arena.specs.declared.arena.allocator.Segment.{Ghosts}

-- n elements, followed by a list without its first n, are that list with them written over its
-- first n.
pub front_written : (n : ℕ) (xs ws : List ℕ) → length ws ≡ n → ws ++ drop n xs ≡ with_front n xs ws
front_written n xs ws e = grind (arith, common_steps)

-- The first n elements are those that were written over them.
pub front_taken : (n : ℕ) (xs ws : List ℕ) → length ws ≡ n → take n (with_front n xs ws) ≡ ws
front_taken n xs ws e = ap (take n) (sym (front_written n xs ws e)) ∙ take_at ws (drop n xs) n e

module _ {S : Type 0} (g : Ghosts S) where
  -- The length of a row's allocated bytes is that of its used words.
  pub allocated_whole : (r : Row S g) → length (allocated g r) ≡ 8 * r.used
  allocated_whole r = omega (arith, length-take (8 * r.used) (g.ready r.segment), r.clear.0)

  -- Replacing a row by one with the same f leaves f of each row unchanged.
  pub each_same : {A : Type 0} (f : Row S g → A) (rows : List (Row S g)) (i : ℕ)
      (old new : Row S g) → old ≡ get_or rows i old → f new ≡ f old →
      map f (set rows i new) ≡ map f rows
  each_same f [] i old new e same = refl
  each_same f (q ∷ rows) zero old new e same = ap (λ x. x ∷ map f rows) (same ∙ ap f e)
  each_same f (q ∷ rows) (suc i) old new e same = ap (λ xs. f q ∷ xs) (each_same f rows i old new e same)

  -- Replacing a row by one of the same capacity leaves the capacity of each row unchanged.
  pub room_same : (rows : List (Row S g)) (i : ℕ) (old new : Row S g) → old ≡ get_or rows i old →
      capacity g new ≡ capacity g old → capacity_at g (set rows i new) ≡ capacity_at g rows
  room_same rows i old new e same =
      let at : List ℕ → ℕ → ℕ = λ xs k. get_or xs k 0 in
      ap at (each_same (capacity g) rows i old new e same)

  ready_over : (r : Row S g) (ws : List ℕ) →
      g.ready (with_allocated g r ws).segment ≡ with_front (8 * r.used) (g.ready r.segment) ws
  ready_over r ws =
      g.holds r.segment (with_front (8 * r.used) (g.ready r.segment) ws)
      (length-with_front (8 * r.used) (g.ready r.segment) ws r.clear.0)

  -- If bytes are written over the allocated words of a row, and are as many, they are then its
  -- allocated words.
  pub over : (r : Row S g) (ws : List ℕ) → length ws ≡ length (allocated g r) →
      allocated g (with_allocated g r ws) ≡ ws
  over r ws l =
      ap (take (8 * r.used)) (ready_over r ws) ∙ front_taken (8 * r.used) (g.ready r.segment) ws
      (l ∙ allocated_whole r)

  -- The capacity of a row doesn't depend on its allocated words.
  pub same_capacity : (r : Row S g) (ws : List ℕ) → capacity g (with_allocated g r ws) ≡ capacity g r
  same_capacity r ws =
      ap (λ n. n / 8) (g.as_long r.segment (with_front (8 * r.used) (g.ready r.segment) ws)
      (length-with_front (8 * r.used) (g.ready r.segment) ws r.clear.0))

  shown_set : (rows : List (Row S g)) (i : ℕ) (r : Row S g) →
      shown g (slice_set rows i r) ≡ slice_set (shown g rows) i (allocated g r)
  shown_set [] i r = refl
  shown_set (q ∷ rows) zero r = refl
  shown_set (q ∷ rows) (suc i) r = ap (λ B. allocated g q ∷ B) (shown_set rows i r)

  shown_found : (rows : List (Row S g)) (i : ℕ) (r : Row S g) → slice_get rows i ≡ Some r →
      slice_get (shown g rows) i ≡ Some (allocated g r)
  shown_found [] i r e = cc
  shown_found (q ∷ rows) zero r e = let same : q ≡ r = cc in ap (λ x. Some (allocated g x)) same
  shown_found (q ∷ rows) (suc i) r e = shown_found rows i r e

  shown_none : (rows : List (Row S g)) (i : ℕ) → slice_get rows i ≡ None →
      slice_get (shown g rows) i ≡ None
  shown_none [] i e = refl
  shown_none (q ∷ rows) zero e = cc
  shown_none (q ∷ rows) (suc i) e = shown_none rows i e

  -- A row that is found at an index is the element there.
  pub found_at : (rows : List (Row S g)) (i : ℕ) (r : Row S g) → slice_get rows i ≡ Some r →
      r ≡ get_or rows i r
  found_at [] i r e = cc
  found_at (q ∷ rows) zero r e = cc
  found_at (q ∷ rows) (suc i) r e = found_at rows i r e

  -- Rewriting the allocated words of row id changes those of its segment, and no other segment.
  pub with_row_shown : (v : Vec (Row S g)) (id : ℕ) (old ws : List ℕ) →
      slice_get (shown g v.items) id ≡ Some old → length ws ≡ length old →
      shown g (with_row g v id ws).items ≡ slice_set (shown g v.items) id ws
  with_row_shown v id old ws e l = go (slice_get v.items id) refl
    where
      go : (found : Option (Row S g)) → slice_get v.items id ≡ found →
          shown g (with_found g v id ws found).items ≡ slice_set (shown g v.items) id ws
      go (Some r) is =
          let at : slice_get (shown g v.items) id ≡ Some (allocated g r) = shown_found v.items id r is in
          let same : old ≡ allocated g r = cc in
          shown_set v.items id (with_allocated g r ws) ∙ ap (slice_set (shown g v.items) id)
          (over r ws (l ∙ ap length same))
      go None is = let none : slice_get (shown g v.items) id ≡ None = shown_none v.items id is in cc

  -- Rewriting the allocated words of a row leaves each segment its capacity.
  pub with_row_capacity : (v : Vec (Row S g)) (id : ℕ) (ws : List ℕ) →
      capacity_at g (with_row g v id ws).items ≡ capacity_at g v.items
  with_row_capacity v id ws = go (slice_get v.items id) refl
    where
      go : (found : Option (Row S g)) → slice_get v.items id ≡ found →
          capacity_at g (with_found g v id ws found).items ≡ capacity_at g v.items
      go (Some r) is =
          room_same v.items id r (with_allocated g r ws) (found_at v.items id r is)
          (same_capacity r ws)
      go None is = refl

  -- Rewriting the allocated words of a row leaves the number of rows at most `most`.
  pub few_with_row : (v : Vec (Row S g)) (id : ℕ) (ws : List ℕ) (most : ℕ) → length v.items ≤ most →
      length (with_row g v id ws).items ≤ most
  few_with_row v id ws most few = go (slice_get v.items id)
    where
      go : (r : Option (Row S g)) → length (with_found g v id ws r).items ≤ most
      go (Some q) = omega (arith, few, length-set v.items id (with_allocated g q ws))
      go None = few

  -- Rewriting the allocated words of a row keeps the bounds.
  pub bounded_with_row : (v : Vec (Row S g)) (id : ℕ) (ws : List ℕ) → HasBounds g v.items →
      HasBounds g (with_row g v id ws).items
  bounded_with_row v id ws h = go (slice_get v.items id) refl
    where
      go : (found : Option (Row S g)) → slice_get v.items id ≡ found →
          HasBounds g (with_found g v id ws found).items
      go (Some r) is =
          let at = found_at v.items id r is in
          let same_rooms =
          each_same (room g) v.items id r (with_allocated g r ws) at
          (ap (λ n. n - r.used) (same_capacity r ws)) in
          let same_bounds =
          each_same (λ (q : Row S g). q.bound) v.items id r (with_allocated g r ws) at refl in
          subst (λ xs. IsBounded xs (bounds g (with_found g v id ws (Some r)).items)) (sym same_rooms)
          (subst (IsBounded (rooms g v.items)) (sym same_bounds) h)
      go None is = h
