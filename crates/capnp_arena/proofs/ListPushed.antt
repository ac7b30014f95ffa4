-- Rows in a list, and whether a row was added after them.
use Rattle.std.proofs.Common.{◌≡◌, ◌<◌, ◌≤◌, List, [], ◌∷◌, length, Option, Some, None, IsNone, IfSome, ◌++◌, refl, sym, ap, arith, subst}
use Rattle.std.proofs.lemmas.List.{length-append}
use Rattle.capnp_arena_traits.specs.Allocations.{max_segments, max_segment_words}
use Rattle.capnp_arena.specs.Bounds.{HasBounds}
use Rattle.capnp_arena.specs.declared.arena.allocator.Segment.{Ghosts}
use Rattle.capnp_arena.specs.declared.arena.row.Row.{Row}
use Rattle.capnp_arena.proofs.BoundsLemmas.{bounded_pushed}

module _ {S : Type 0} (g : Ghosts S) where
  pub list_pushed : (row : Row S g) (old new : List (Row S g)) (back : Option (Row S g)) {P : Type 0} (Q : Row S g → Type 0) → length old < max_segments →
      (IsNone back → (new ≡ old ++ row ∷ []) × P) → IfSome back (λ r. (r ≡ row) × (new ≡ old) × Q r) → row.bound ≡ max_segment_words → HasBounds g old → (length new ≤ max_segments) × HasBounds g new
  list_pushed row old new (Some r) Q many kept given bound h = (omega (arith, ap length given.1, many), subst (HasBounds g) (sym given.1) h)
  list_pushed row old new None Q many kept given bound h =
      (omega (arith, many, ap length (kept refl).0, length-append old (row ∷ [])), subst (HasBounds g) (sym (kept refl).0) (bounded_pushed g old row bound h))
