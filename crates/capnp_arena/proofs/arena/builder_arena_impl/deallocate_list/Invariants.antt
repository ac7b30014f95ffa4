use Rattle.std.proofs.Common.{vec_len, ◌≡◌}
use Rattle.capnp_arena.proofs.arena.builder_arena_impl.deallocate_list.Given as goal

abbrev pub invariant-loop-row : goal.invariant-loop-row
invariant-loop-row g l = record {
  refusals : g.A.Allocator.refusals l.allocator ≡ g.A.Allocator.refusals l.initial.allocator;
  offers : g.A.Allocator.offers l.allocator ≡ g.A.Allocator.offers l.initial.allocator;
}

abbrev pub decreases-loop-row : goal.decreases-loop-row
decreases-loop-row g l = vec_len l.rows
