-- All rows of a builder arena whose first row is apart.
use Rattle.std.specs.Prelude.{ℕ, List, zero, suc}
use Rattle.capnp_arena.specs.LendingLemmas.{bounded_with_row, few_with_row}
use Rattle.capnp_arena.specs.Row.{most_others, with_allocated, with_first, with_row}
use Rattle.capnp_arena.specs.declared.arena.row.Row.{Row}
use Rattle.capnp_arena.specs.declared.arena.rows.Rows.{Rows}
use Rattle.capnp_arena.specs.declared.arena.allocator.Segment.{Ghosts}

module _ {S : Type 0} (g : Ghosts S) where
  abbrev pub all : Rows S g → List (Row S g)
  all b = with_first g b.there b.first b.others.items

  -- The rows, with the bytes ws over the allocated words of row id, if there is one.
  abbrev pub with_bytes_apart : Rows S g → ℕ → List ℕ → Rows S g
  with_bytes_apart b zero ws = record b { first = with_allocated g b.first ws }
  with_bytes_apart b (suc k) ws =
      record b {
        others = with_row g b.others k ws;
        few = few_with_row g b.others k ws (most_others b.there) b.few;
        bounded = bounded_with_row g b.others k ws b.bounded;
      }
