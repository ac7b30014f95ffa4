use Rattle.std.proofs.Common.{◌+◌, ◌<◌, ◌≤◌, length, sym, subst, ◌∙◌, arith}
use Rattle.std.specs.Prelude.{IsSome, ◌↔◌}
use Rattle.capnp_format.specs.Bytes.{message}
use Rattle.capnp_format.specs.Segments.{segment}
use Rattle.capnp_arena_traits.proofs.MessageLemmas.{length-message}
use Rattle.capnp_arena.specs.Kept.{arena_rows}
use Rattle.capnp_arena.specs.Row.{capacity_at, shown}
use Rattle.capnp_arena.proofs.KeptLemmas.{kept_apart, kept_listed, of_apart, of_listed, grown_apart, grown_listed, written_apart, written_listed}
use Rattle.capnp_arena.proofs.RowsLemmas.{length_shown}
use Rattle.capnp_arena.proofs.arena.builder_arena_impl.BuilderArenaImplBuilderArena.allocate.Goals as goal

pub allocate-requires : goal.allocate-requires
allocate-requires g c =
    let seg = g.A.Segment.Segment in
    let f = g.A.Allocator.first_in_arena in
    let b = c.args.self.now in
    let rows = arena_rows seg f b.listed b.apart in
    of_apart seg (λ rows. c.args.id < length rows) f b.listed b.apart (sym c.keeps_first_in_arena.ensures ∙ c.if-keeps_first_in_arena.true) (omega (arith, c.requires, length-message (shown seg rows), length_shown seg rows))

pub returns-then-keeps_first_in_arena-clause-exactly : goal.returns-then-keeps_first_in_arena-clause-exactly
returns-then-keeps_first_in_arena-clause-exactly g c =
    let seg = g.A.Segment.Segment in
    let f = g.A.Allocator.first_in_arena in
    let b = c.args.self.now in
    subst (λ rows. IsSome c.allocate.result ↔ (length (segment (message (shown seg rows)) c.args.id) + c.args.amount ≤ capacity_at seg rows c.args.id)) (sym (kept_apart seg f b.listed b.apart (sym c.keeps_first_in_arena.ensures ∙ c.if-keeps_first_in_arena.true))) c.allocate.ensures.exactly

pub returns-then-keeps_first_in_arena-clause-taken : goal.returns-then-keeps_first_in_arena-clause-taken
returns-then-keeps_first_in_arena-clause-taken g c =
    let seg = g.A.Segment.Segment in
    let f = g.A.Allocator.first_in_arena in
    let b = c.args.self.now in
    grown_apart seg c.allocate.result c.args.id c.args.amount _ _ f b.listed b.apart c.allocate.new.self (sym c.keeps_first_in_arena.ensures ∙ c.if-keeps_first_in_arena.true) c.allocate.ensures.taken c.allocate.ensures.room

pub returns-then-keeps_first_in_arena-clause-none : goal.returns-then-keeps_first_in_arena-clause-none
returns-then-keeps_first_in_arena-clause-none g c none =
    let seg = g.A.Segment.Segment in
    let f = g.A.Allocator.first_in_arena in
    let b = c.args.self.now in
    written_apart seg (λ S. S) f b.listed b.apart c.allocate.new.self (sym c.keeps_first_in_arena.ensures ∙ c.if-keeps_first_in_arena.true) (c.allocate.ensures.none none) c.allocate.ensures.room

pub allocate-requires-else-keeps_first_in_arena : goal.allocate-requires-else-keeps_first_in_arena
allocate-requires-else-keeps_first_in_arena g c =
    let seg = g.A.Segment.Segment in
    let f = g.A.Allocator.first_in_arena in
    let b = c.args.self.now in
    let rows = arena_rows seg f b.listed b.apart in
    of_listed seg (λ rows. c.args.id < length rows) f b.listed b.apart (sym c.keeps_first_in_arena.ensures ∙ c.if-keeps_first_in_arena.false) (omega (arith, c.requires, length-message (shown seg rows), length_shown seg rows))

pub returns-else-keeps_first_in_arena-clause-exactly : goal.returns-else-keeps_first_in_arena-clause-exactly
returns-else-keeps_first_in_arena-clause-exactly g c =
    let seg = g.A.Segment.Segment in
    let f = g.A.Allocator.first_in_arena in
    let b = c.args.self.now in
    subst (λ rows. IsSome c.allocate-else-keeps_first_in_arena.result ↔ (length (segment (message (shown seg rows)) c.args.id) + c.args.amount ≤ capacity_at seg rows c.args.id)) (sym (kept_listed seg f b.listed b.apart (sym c.keeps_first_in_arena.ensures ∙ c.if-keeps_first_in_arena.false))) c.allocate-else-keeps_first_in_arena.ensures.exactly

pub returns-else-keeps_first_in_arena-clause-taken : goal.returns-else-keeps_first_in_arena-clause-taken
returns-else-keeps_first_in_arena-clause-taken g c =
    let seg = g.A.Segment.Segment in
    let f = g.A.Allocator.first_in_arena in
    let b = c.args.self.now in
    grown_listed seg c.allocate-else-keeps_first_in_arena.result c.args.id c.args.amount _ _ f b.listed c.allocate-else-keeps_first_in_arena.new.self b.apart (sym c.keeps_first_in_arena.ensures ∙ c.if-keeps_first_in_arena.false) c.allocate-else-keeps_first_in_arena.ensures.taken c.allocate-else-keeps_first_in_arena.ensures.room

pub returns-else-keeps_first_in_arena-clause-none : goal.returns-else-keeps_first_in_arena-clause-none
returns-else-keeps_first_in_arena-clause-none g c none =
    let seg = g.A.Segment.Segment in
    let f = g.A.Allocator.first_in_arena in
    let b = c.args.self.now in
    written_listed seg (λ S. S) f b.listed c.allocate-else-keeps_first_in_arena.new.self b.apart (sym c.keeps_first_in_arena.ensures ∙ c.if-keeps_first_in_arena.false) (c.allocate-else-keeps_first_in_arena.ensures.none none) c.allocate-else-keeps_first_in_arena.ensures.room
