-- Lemmas on the room of segments. They are among the definitions because a trait's law may cite
-- nothing else.
use Rattle.std.specs.Prelude.{ℕ, Bool, List, [], ◌∷◌, ◌^◌, ◌≡◌, ◌<◌, ◌≤◌, length}
use Rattle.std.proofs.Common.{zero, suc, ap, arith}
use Rattle.capnp_format.specs.Bytes.{message}
use Rattle.capnp_format.specs.Segments.{Segments, segment}
use Rattle.capnp_format.proofs.WordsOf.{words}
use Rattle.capnp_arena_traits.specs.View.{view_of}
use Rattle.capnp_arena.specs.Row.{allocated, capacity_at, shown}
use Rattle.capnp_arena.specs.LendingLemmas.{allocated_whole}
use Rattle.capnp_arena.specs.declared.arena.row.Row.{Row}
use Rattle.capnp_arena.specs.declared.arena.allocator.Segment.{Ghosts}

-- A view with equal room is the same view.
pub same_room : (words : Segments) (new old : ℕ → ℕ) (refusals : ℕ) (offers : ℕ → ℕ → Bool) →
    new ≡ old → view_of words new refusals offers ≡ view_of words old refusals offers
same_room words new old refusals offers e = ap (λ (room : ℕ → ℕ). view_of words room refusals offers) e

module _ {S : Type 0} (g : Ghosts S) where
  -- The allocated words of a segment are at most its capacity.
  pub rows_within : (rows : List (Row S g)) (id : ℕ) →
      length (segment (message (shown g rows)) id) ≤ capacity_at g rows id
  rows_within [] zero = omega arith
  rows_within [] (suc id) = omega arith
  rows_within (r ∷ rows) zero = omega (arith, words (allocated g r), allocated_whole g r, r.clear.0)
  rows_within (r ∷ rows) (suc id) = rows_within rows id

  -- The capacity of a segment is below 2^29 words.
  pub rows_small : (rows : List (Row S g)) (id : ℕ) → capacity_at g rows id < 2 ^ 29
  rows_small [] zero = omega arith
  rows_small [] (suc id) = omega arith
  rows_small (r ∷ rows) zero = omega (arith, r.clear.1)
  rows_small (r ∷ rows) (suc id) = rows_small rows id
