-- The rows of a builder arena that are all in a list.
use Rattle.std.specs.Prelude.{ℕ, List}
use Rattle.capnp_arena_traits.specs.Allocations.{max_segments}
use Rattle.capnp_arena.specs.LendingLemmas.{bounded_with_row, few_with_row}
use Rattle.capnp_arena.specs.Row.{with_row}
use Rattle.capnp_arena.specs.declared.arena.listed.Listed.{Listed}
use Rattle.capnp_arena.specs.declared.arena.allocator.Segment.{Ghosts}

module _ {S : Type 0} (g : Ghosts S) where
  -- The rows, with the bytes ws over the allocated words of row id, if there is one.
  abbrev pub with_bytes_listed : Listed S g → ℕ → List ℕ → Listed S g
  with_bytes_listed v id ws =
      record v {
        rows = with_row g v.rows id ws;
        few = few_with_row g v.rows id ws max_segments v.few;
        bounded = bounded_with_row g v.rows id ws v.bounded;
      }
