use Rattle.std.proofs.Common.{arith}
use Rattle.capnp_format.specs.Bytes.{words_of}
use Rattle.capnp_arena_traits.specs.Written.{overwritten}
use Rattle.capnp_arena_traits.proofs.WordsLent.{lent_written, words_lent}
use Rattle.capnp_arena_traits.proofs.arena.writing.copy_words.Goals as goal

pub copy_words-requires-clause-room : goal.copy_words-requires-clause-room
copy_words-requires-clause-room g c =
    omega (arith, words_lent (g.A.BuilderArena.view c.args.arena.now).words (g.A.ReaderArena.segments c.args.arena.now) c.args.id c.segment_mut.result.now (g.met.A.BuilderArena.read c.args.arena.now) c.segment_mut.ensures.bytes, c.requires.inside)

pub returns-then-not-is_empty : goal.returns-then-not-is_empty
returns-then-not-is_empty g c =
    let a = c.args.arena.now in
    let id = c.args.id in
    let bs = c.segment_mut.result.now in
    let there = c.segment_mut.ensures.bytes in
    let ws = c.copy_words.new.bytes in
    let b = g.A.BuilderArena.with_bytes a id ws in
    lent_written (g.A.BuilderArena.view a) (g.A.BuilderArena.view b) (g.A.ReaderArena.segments a) (g.A.ReaderArena.segments b) id bs ws (λ xs. overwritten xs c.args.at (words_of c.args.from.now))
    (g.met.A.BuilderArena.with_bytes_view a id ws) (g.met.A.BuilderArena.read a) (g.met.A.BuilderArena.read b) there (g.met.A.BuilderArena.with_bytes_segments a id bs ws there c.copy_words.auto.bytes) c.copy_words.ensures
