use Rattle.std.proofs.Common.{◌<◌, length, sym, ◌∙◌}
use Rattle.capnp_format.specs.Bytes.{message}
use Rattle.capnp_format.specs.Segments.{segment}
use Rattle.capnp_arena_traits.specs.Written.{with_word}
use Rattle.capnp_arena.specs.Row.{shown}
use Rattle.capnp_arena.proofs.KeptLemmas.{of_apart, of_listed, written_apart, written_listed}
use Rattle.capnp_arena.proofs.arena.builder_arena_impl.BuilderArenaImplBuilderArena.put_word.Goals as goal

pub put_word-requires : goal.put_word-requires
put_word-requires g c =
    let seg = g.A.Segment.Segment in
    let f = g.A.Allocator.first_in_arena in
    let b = c.args.self.now in
    of_apart seg (λ rows. c.args.at < length (segment (message (shown seg rows)) c.args.id)) f b.listed b.apart (sym c.keeps_first_in_arena.ensures ∙ c.if-keeps_first_in_arena.true) c.requires

pub put_word-requires-else-keeps_first_in_arena : goal.put_word-requires-else-keeps_first_in_arena
put_word-requires-else-keeps_first_in_arena g c =
    let seg = g.A.Segment.Segment in
    let f = g.A.Allocator.first_in_arena in
    let b = c.args.self.now in
    of_listed seg (λ rows. c.args.at < length (segment (message (shown seg rows)) c.args.id)) f b.listed b.apart (sym c.keeps_first_in_arena.ensures ∙ c.if-keeps_first_in_arena.false) c.requires

pub returns-then-keeps_first_in_arena : goal.returns-then-keeps_first_in_arena
returns-then-keeps_first_in_arena g c =
    let seg = g.A.Segment.Segment in
    let f = g.A.Allocator.first_in_arena in
    let b = c.args.self.now in
    written_apart seg (λ S. with_word S c.args.id c.args.at c.args.word) f b.listed b.apart c.put_word.new.self (sym c.keeps_first_in_arena.ensures ∙ c.if-keeps_first_in_arena.true) c.put_word.ensures.words c.put_word.ensures.room

pub returns-else-keeps_first_in_arena : goal.returns-else-keeps_first_in_arena
returns-else-keeps_first_in_arena g c =
    let seg = g.A.Segment.Segment in
    let f = g.A.Allocator.first_in_arena in
    let b = c.args.self.now in
    written_listed seg (λ S. with_word S c.args.id c.args.at c.args.word) f b.listed c.put_word-else-keeps_first_in_arena.new.self b.apart (sym c.keeps_first_in_arena.ensures ∙ c.if-keeps_first_in_arena.false) c.put_word-else-keeps_first_in_arena.ensures.words c.put_word-else-keeps_first_in_arena.ensures.room
