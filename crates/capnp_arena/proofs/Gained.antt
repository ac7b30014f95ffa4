-- A row that is added after others is one more of them.
use Rattle.std.proofs.Common.{◌≡◌, ℕ, Bool, true, false, List, [], ◌∷◌, ◌++◌, ◌/◌, length, ap, ◌∙◌}
use Rattle.std.proofs.lemmas.Bool.{false≢true}
use Rattle.capnp_arena.specs.Row.{GainsRow, allocated, capacity_at, shown, with_first}
use Rattle.capnp_arena.specs.declared.arena.allocator.Segment.{Ghosts}
use Rattle.capnp_arena.specs.declared.arena.row.Row.{Row}
use Rattle.capnp_arena.proofs.TakingLemmas.{shown_pushed, room_pushed, room_below}

module _ {S : Type 0} (g : Ghosts S) where
  pub gained : (old new : List (Row S g)) (row : Row S g) (segment : S) → new ≡ old ++ row ∷ [] → allocated g row ≡ [] → row.segment ≡ segment → GainsRow g old new segment
  gained old new row segment is none of = record {
    shown_more = ap (shown g) is ∙ shown_pushed g old row ∙ ap (λ (bytes : List ℕ). shown g old ++ bytes ∷ []) none;
    room_there = ap (λ rows. capacity_at g rows (length old)) is ∙ room_pushed g old row ∙ ap (λ (s : S). length (g.content s) / 8) of;
    room_below = λ k below. ap (λ rows. capacity_at g rows k) is ∙ room_below g old row k below;
  }

  -- a row after the others, if there is a first row
  pub gained_behind : (t : Bool) (first row : Row S g) (old new : List (Row S g)) (segment : S) → t ≡ true → new ≡ old ++ row ∷ [] → allocated g row ≡ [] → row.segment ≡ segment → GainsRow g (with_first g t first old) (with_first g t first new) segment
  gained_behind false first row old new segment e is none of = absurd (false≢true e)
  gained_behind true first row old new segment e is none of = gained (first ∷ old) (first ∷ new) row segment (ap (λ rows. first ∷ rows) is) none of
