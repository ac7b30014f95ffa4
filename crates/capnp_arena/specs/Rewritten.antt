-- What is left of a row, and of all rows, when words of one were written.
use Rattle.std.specs.Prelude.{ℕ, List, ◌≡◌, length}
use Rattle.capnp_format.specs.Bytes.{words_of, message}
use Rattle.capnp_format.specs.Segments.{Segments}
use Rattle.capnp_arena.specs.Bounds.{HasBounds}
use Rattle.capnp_arena.specs.Row.{allocated, capacity, capacity_at, shown}
use Rattle.capnp_arena.specs.declared.arena.row.Row.{Row}
use Rattle.capnp_arena.specs.declared.arena.allocator.Segment.{Ghosts}

module _ {S : Type 0} (g : Ghosts S) where
  -- From old to new the allocated words of a row become ws, which has the same number of words. Its
  -- capacity stays.
  pub record RewritesRow (old new : Row S g) (ws : List ℕ) : Type 0 where
    pub words : words_of (allocated g new) ≡ ws
    pub used : new.used ≡ old.used
    pub bound : new.bound ≡ old.bound
    pub capacity : capacity g new ≡ capacity g old

  -- From old to new the words of all rows become those of the message M. The capacity of each row
  -- stays.
  pub record RewritesRows (old new : List (Row S g)) (M : Segments) : Type 0 where
    pub words : message (shown g new) ≡ M
    pub room : capacity_at g new ≡ capacity_at g old

  -- From old to new a list keeps its number of rows, the capacity of each, and valid bounds.
  pub record KeepsList (old new : List (Row S g)) : Type 0 where
    pub room : capacity_at g new ≡ capacity_at g old
    pub many : length new ≡ length old
    pub bounded : HasBounds g old → HasBounds g new

  -- From old to new the words of the rows in a list become those of the message M, and nothing else
  -- of the rows changes.
  pub record RewritesList (old new : List (Row S g)) (M : Segments) : Type 0 where
    pub words : message (shown g new) ≡ M
    pub kept : KeepsList old new
