use Rattle.std.proofs.Common.{◌≡◌, ◌*◌, ◌^◌, ◌-◌, ◌≤◌, take, map}
use Rattle.capnp_arena_traits.specs.Checks.{total_words}
use Rattle.capnp_arena_traits.specs.Limits.{whole}
use Rattle.capnp_arena.proofs.Looked.{bytes_of}
use Rattle.capnp_layout_c.proofs.segments.SegmentsReaderArena.size_in_words.Given as goal

abbrev pub invariant-loop-segment : goal.invariant-loop-segment
invariant-loop-segment l =
    record {
      counted : l.words ≡ total_words (take l.segment-index (map whole (bytes_of l.segment-items)));
      bounded : l.words ≤ (2 ^ 32 - 1) * l.segment-index;
    }
