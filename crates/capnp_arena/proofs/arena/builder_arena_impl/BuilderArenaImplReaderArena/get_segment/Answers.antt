use Rattle.std.proofs.Common.{arith, refl, sym}
use Rattle.std.proofs.lemmas.Bool.{false≢true}
use Rattle.capnp_arena_traits.proofs.MessageLemmas.{segment-message}
use Rattle.capnp_arena.specs.Row.{shown}
use Rattle.capnp_arena.specs.RoomLemmas.{rows_within, rows_small}
use Rattle.capnp_arena.specs.Kept.{arena_rows}
use Rattle.capnp_arena.proofs.RowsLemmas.{shown_whole}
use Rattle.capnp_arena.proofs.arena.builder_arena_impl.BuilderArenaImplReaderArena.get_segment.Goals as goal

pub returns-in-Some-clause-whole : goal.returns-in-Some-clause-whole
returns-in-Some-clause-whole g c = shown_whole g.A.Segment.Segment (arena_rows g.A.Segment.Segment g.A.Allocator.first_in_arena c.args.self.now.listed c.args.self.now.apart) c.args.id _ c.in-Some.ensures.bytes

pub returns-in-Some-clause-small : goal.returns-in-Some-clause-small
returns-in-Some-clause-small g c =
    let rows = arena_rows g.A.Segment.Segment g.A.Allocator.first_in_arena c.args.self.now.listed c.args.self.now.apart in
    omega (arith, shown_whole g.A.Segment.Segment rows c.args.id _ c.in-Some.ensures.bytes, rows_within g.A.Segment.Segment rows c.args.id, rows_small g.A.Segment.Segment rows c.args.id)

pub returns-in-Some-clause-words : goal.returns-in-Some-clause-words
returns-in-Some-clause-words g c =
    sym (segment-message (shown g.A.Segment.Segment (arena_rows g.A.Segment.Segment g.A.Allocator.first_in_arena c.args.self.now.listed c.args.self.now.apart)) c.args.id _ c.in-Some.ensures.bytes)

pub returns-in-Some-clause-there : goal.returns-in-Some-clause-there
returns-in-Some-clause-there g c = (λ _. c.in-Some.ensures.there.0 refl, λ _. refl)

pub returns-in-None-clause-there : goal.returns-in-None-clause-there
returns-in-None-clause-there g c = (λ some. absurd (false≢true some), λ less. absurd (false≢true (c.in-None.ensures.there.1 less)))
