-- The segments of a builder arena, by their rows.
use Rattle.std.specs.Prelude.{ℕ, Bool, true, false, List, ◌*◌, ◌/◌, ◌≡◌, ◌<◌, ◌-◌, ◌++◌, ◌∷◌}
use Rattle.std.specs.Prelude.{[], length, take, map, slice_index_or, slice_get, Option, Some, None}
use Rattle.std.specs.Vec.{with_item}
use Rattle.std.specs.Global.{Vec}
use Rattle.capnp_arena_traits.specs.Allocations.{max_segments}
use Rattle.capnp_arena_traits.specs.Written.{with_front}
use Rattle.capnp_arena.specs.ClearLemmas.{clear_behind}
use Rattle.capnp_arena.specs.declared.arena.row.Row.{Row}
use Rattle.capnp_arena.specs.declared.arena.allocator.Segment.{Ghosts}

-- How many rows there can be in addition to the first: none if the first isn't there.
abbrev pub most_others : Bool → ℕ
most_others false = 0
most_others true = max_segments - 1

module _ {S : Type 0} (g : Ghosts S) where
  -- The bytes of the allocated words of a row.
  abbrev pub allocated : Row S g → List ℕ
  allocated r = take (8 * r.used) (g.ready r.segment)

  -- How many words a row can hold.
  abbrev pub capacity : Row S g → ℕ
  capacity r = length (g.content r.segment) / 8

  -- The first row, if it is there, and the others.
  abbrev pub with_first : Bool → Row S g → List (Row S g) → List (Row S g)
  with_first false first others = []
  with_first true first others = first ∷ others

  -- The bytes of the allocated words of each segment.
  abbrev pub shown : List (Row S g) → List (List ℕ)
  shown rows = map allocated rows

  -- How many words each segment can hold; 0 if there is none.
  abbrev pub capacity_at : List (Row S g) → ℕ → ℕ
  capacity_at rows id = slice_index_or (map capacity rows) id 0

  -- From old to new one row is added after the others, of this segment and with no word allocated.
  -- The capacity of the others stays.
  pub record GainsRow (old new : List (Row S g)) (segment : S) : Type 0 where
    pub shown_more : shown new ≡ shown old ++ [] ∷ []
    pub room_there : capacity_at new (length old) ≡ length (g.content segment) / 8
    pub room_below : (k : ℕ) → k < length old → capacity_at new k ≡ capacity_at old k

  -- The row with the bytes ws over its allocated words.
  abbrev pub with_allocated : Row S g → List ℕ → Row S g
  with_allocated r ws =
      record r {
        segment = g.with_ready r.segment (with_front (8 * r.used) (g.ready r.segment) ws);
        clear = clear_behind g r ws;
      }

  -- The rows, with the bytes ws over the allocated words of row id, if there is one.
  abbrev pub with_found : Vec (Row S g) → ℕ → List ℕ → Option (Row S g) → Vec (Row S g)
  with_found v id ws (Some r) = with_item v id (with_allocated r ws)
  with_found v id ws None = v

  abbrev pub with_row : Vec (Row S g) → ℕ → List ℕ → Vec (Row S g)
  with_row v id ws = with_found v id ws (slice_get v.items id)
