-- The rows that an arena keeps: the first one apart, or all in a list.
use Rattle.std.specs.Prelude.{ℕ, Bool, true, false, List}
use Rattle.capnp_arena.specs.Rows.{all, with_bytes_apart}
use Rattle.capnp_arena.specs.Listed.{with_bytes_listed}
use Rattle.capnp_arena.specs.declared.arena.row.Row.{Row}
use Rattle.capnp_arena.specs.declared.arena.rows.Rows.{Rows}
use Rattle.capnp_arena.specs.declared.arena.listed.Listed.{Listed}
use Rattle.capnp_arena.specs.declared.arena.allocator.Segment.{Ghosts}

module _ {S : Type 0} (g : Ghosts S) where
  -- All rows, whether the first is apart or all are in a list.
  abbrev pub arena_rows : Bool → Listed S g → Rows S g → List (Row S g)
  arena_rows false v b = v.rows.items
  arena_rows true v b = all g b

  abbrev pub listed_with_bytes : Bool → Listed S g → ℕ → List ℕ → Listed S g
  listed_with_bytes false v id ws = with_bytes_listed g v id ws
  listed_with_bytes true v id ws = v

  abbrev pub apart_with_bytes : Bool → Rows S g → ℕ → List ℕ → Rows S g
  apart_with_bytes false b id ws = b
  apart_with_bytes true b id ws = with_bytes_apart g b id ws
