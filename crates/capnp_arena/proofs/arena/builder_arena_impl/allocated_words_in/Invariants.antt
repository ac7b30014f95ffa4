use Rattle.std.proofs.Common.{◌≡◌, ◌≤◌, ◌*◌, take}
use Rattle.capnp_arena_traits.specs.Allocations.{max_segment_words}
use Rattle.capnp_arena_traits.specs.Checks.{total_words}
use Rattle.capnp_arena.specs.Row.{shown}
use Rattle.capnp_arena.proofs.arena.builder_arena_impl.allocated_words_in.Given as goal

abbrev pub invariant-loop-row : goal.invariant-loop-row
invariant-loop-row g l = record {
  counted : l.words ≡ total_words (take l.row-index (shown g.S.Segment l.rows));
  bounded : l.words ≤ max_segment_words * l.row-index;
}
