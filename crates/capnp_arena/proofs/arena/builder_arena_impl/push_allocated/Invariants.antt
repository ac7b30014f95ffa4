use Rattle.std.proofs.Common.{◌≡◌, ◌++◌, List, ℕ, map, take}
use Rattle.std.specs.Borrow.{Bor}
use Rattle.capnp_arena.specs.Row.{shown}
use Rattle.capnp_arena.proofs.arena.builder_arena_impl.push_allocated.Given as goal

abbrev pub invariant-loop-row : goal.invariant-loop-row
invariant-loop-row g l =
    map (λ (s : Bor (List ℕ)). s.now) l.segments.items ≡ map (λ (s : Bor (List ℕ)). s.now) l.initial.segments.items ++ take l.row-index (shown g.S.Segment l.rows)
