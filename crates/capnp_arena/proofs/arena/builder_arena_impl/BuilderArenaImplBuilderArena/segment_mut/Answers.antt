use Rattle.std.proofs.Common.{◌<◌, length, sym, ◌∙◌, arith}
use Rattle.capnp_arena.specs.Kept.{arena_rows}
use Rattle.capnp_arena.proofs.KeptLemmas.{of_apart, of_listed}
use Rattle.capnp_arena.proofs.RowsLemmas.{length_shown}
use Rattle.capnp_arena.proofs.arena.builder_arena_impl.BuilderArenaImplBuilderArena.segment_mut.Goals as goal

pub allocated_mut-requires : goal.allocated_mut-requires
allocated_mut-requires g c =
    let seg = g.A.Segment.Segment in
    let f = g.A.Allocator.first_in_arena in
    let b = c.args.self.now in
    of_apart seg (λ rows. c.args.id < length rows) f b.listed b.apart (sym c.keeps_first_in_arena.ensures ∙ c.if-keeps_first_in_arena.true) (omega (arith, c.requires, length_shown seg (arena_rows seg f b.listed b.apart)))

pub allocated_mut-requires-else-keeps_first_in_arena : goal.allocated_mut-requires-else-keeps_first_in_arena
allocated_mut-requires-else-keeps_first_in_arena g c =
    let seg = g.A.Segment.Segment in
    let f = g.A.Allocator.first_in_arena in
    let b = c.args.self.now in
    of_listed seg (λ rows. c.args.id < length rows) f b.listed b.apart (sym c.keeps_first_in_arena.ensures ∙ c.if-keeps_first_in_arena.false) (omega (arith, c.requires, length_shown seg (arena_rows seg f b.listed b.apart)))
