use Rattle.std.proofs.Common.{◌≡◌, ◌*◌, ◌^◌, ◌-◌, ◌≤◌, take}
use Rattle.capnp_arena_traits.specs.Checks.{total_words}
use Rattle.capnp_arena.proofs.arena.reader_arena_impl.ReaderArenaImpl.new.Given as goal

abbrev pub invariant-loop-id : goal.invariant-loop-id
invariant-loop-id g l =
    record {
      counted : l.words ≡ total_words (take l.id (g.S.ReaderSegments.segments l.segments));
      bounded : l.words ≤ (2 ^ 32 - 1) * l.id;
    }
