-- Lemmas on an arena whose allocated words of one segment are replaced. They are among the
-- definitions because a trait's law may cite nothing else.
use Rattle.std.specs.Prelude.{ℕ, Bool, true, false, List, ◌∷◌, ◌≡◌, length, map, slice_get, slice_set, Some}
use Rattle.std.proofs.Common.{zero, suc, refl, ap, ◌∙◌, get_or}
use Rattle.capnp_arena.specs.Kept.{arena_rows, listed_with_bytes, apart_with_bytes}
use Rattle.capnp_arena.specs.LendingLemmas.{over, same_capacity, with_row_shown, with_row_capacity}
use Rattle.capnp_arena.specs.Row.{allocated, capacity, capacity_at, with_first, shown, with_allocated, with_row}
use Rattle.capnp_arena.specs.Rows.{all, with_bytes_apart}
use Rattle.capnp_arena.specs.declared.arena.row.Row.{Row}
use Rattle.capnp_arena.specs.declared.arena.rows.Rows.{Rows}
use Rattle.capnp_arena.specs.declared.arena.listed.Listed.{Listed}
use Rattle.capnp_arena.specs.declared.arena.allocator.Segment.{Ghosts}

module _ {S : Type 0} (g : Ghosts S) where
  -- Replacing the first row by one of the same capacity leaves the capacity of each row unchanged.
  pub first_kept : (t : Bool) (old new : Row S g) (others : List (Row S g)) →
      capacity g new ≡ capacity g old →
      capacity_at g (with_first g t new others) ≡ capacity_at g (with_first g t old others)
  first_kept false old new others e = refl
  first_kept true old new others e = ap (λ c k. get_or (c ∷ map (capacity g) others) k 0) e

  -- Replacing the other rows by ones of the same capacities leaves the capacity of each row
  -- unchanged.
  pub other_kept : (t : Bool) (first : Row S g) (old new : List (Row S g)) →
      capacity_at g new ≡ capacity_at g old →
      capacity_at g (with_first g t first new) ≡ capacity_at g (with_first g t first old)
  other_kept false first old new e = refl
  other_kept true first old new e = λ i k. at k i
    where
      at : (k : ℕ) → capacity_at g (first ∷ new) k ≡ capacity_at g (first ∷ old) k
      at zero = refl
      at (suc k) = ap (λ (f : ℕ → ℕ). f k) e

  -- If the first row is apart, rewriting the allocated words of row id changes those of its
  -- segment, and no other segment.
  pub with_bytes_shown : (b : Rows S g) (id : ℕ) (old ws : List ℕ) →
      slice_get (shown g (all g b)) id ≡ Some old → length ws ≡ length old →
      shown g (all g (with_bytes_apart g b id ws)) ≡ slice_set (shown g (all g b)) id ws
  with_bytes_shown b zero old ws e l = go b.there e
    where
      go : (t : Bool) → slice_get (shown g (with_first g t b.first b.others.items)) 0 ≡ Some old →
          shown g (with_first g t (with_allocated g b.first ws) b.others.items)
          ≡ slice_set (shown g (with_first g t b.first b.others.items)) 0 ws
      go false is = cc
      go true is = let same : old ≡ allocated g b.first = cc in
          ap (λ x. x ∷ shown g b.others.items) (over g b.first ws (l ∙ ap length same))
  with_bytes_shown b (suc k) old ws e l = go b.there e
    where
      go : (t : Bool) → slice_get (shown g (with_first g t b.first b.others.items)) (suc k)
          ≡ Some old → shown g (with_first g t b.first (with_row g b.others k ws).items)
          ≡ slice_set (shown g (with_first g t b.first b.others.items)) (suc k) ws
      go false is = cc
      go true is = ap (λ B. allocated g b.first ∷ B) (with_row_shown g b.others k old ws is l)

  -- If the first row is apart, rewriting the allocated words of a row leaves each segment its
  -- capacity.
  pub with_bytes_capacity : (b : Rows S g) (id : ℕ) (ws : List ℕ) →
      capacity_at g (all g (with_bytes_apart g b id ws)) ≡ capacity_at g (all g b)
  with_bytes_capacity b zero ws =
      first_kept b.there b.first (with_allocated g b.first ws) b.others.items
      (same_capacity g b.first ws)
  with_bytes_capacity b (suc k) ws =
      other_kept b.there b.first b.others.items (with_row g b.others k ws).items
      (with_row_capacity g b.others k ws)

  -- Rewriting the allocated words of row id changes those of its segment, and no other segment.
  pub kept_shown : (f : Bool) (v : Listed S g) (b : Rows S g) (id : ℕ) (old ws : List ℕ) →
      slice_get (shown g (arena_rows g f v b)) id ≡ Some old → length ws ≡ length old →
      shown g (arena_rows g f (listed_with_bytes g f v id ws) (apart_with_bytes g f b id ws))
      ≡ slice_set (shown g (arena_rows g f v b)) id ws
  kept_shown false v b id old ws e l = with_row_shown g v.rows id old ws e l
  kept_shown true v b id old ws e l = with_bytes_shown b id old ws e l

  -- Rewriting the allocated words of a row leaves each segment its capacity.
  pub kept_capacity : (f : Bool) (v : Listed S g) (b : Rows S g) (id : ℕ) (ws : List ℕ) →
      capacity_at g (arena_rows g f (listed_with_bytes g f v id ws) (apart_with_bytes g f b id ws))
      ≡ capacity_at g (arena_rows g f v b)
  kept_capacity false v b id ws = with_row_capacity g v.rows id ws
  kept_capacity true v b id ws = with_bytes_capacity b id ws
