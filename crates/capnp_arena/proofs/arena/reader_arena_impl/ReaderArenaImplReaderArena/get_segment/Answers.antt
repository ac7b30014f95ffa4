use Rattle.std.proofs.Common.{arith, refl}
use Rattle.std.proofs.lemmas.Bool.{false≢true}
use Rattle.capnp_arena_traits.proofs.MessageLemmas.{count-wholes, get-wholes, length-whole, length-wholes, words-wholes}
use Rattle.capnp_arena.proofs.arena.reader_arena_impl.ReaderArenaImplReaderArena.get_segment.Goals as goal

pub returns-in-Some-clause-words : goal.returns-in-Some-clause-words
returns-in-Some-clause-words g c =
    let B = g.S.ReaderSegments.segments c.args.self.now.segments in
    words-wholes B c.args.id c.in-Some.s.now c.in-Some.ensures.bytes

pub returns-in-Some-clause-whole : goal.returns-in-Some-clause-whole
returns-in-Some-clause-whole g c =
    let B = g.S.ReaderSegments.segments c.args.self.now.segments in
    length-wholes B c.args.id c.in-Some.s.now c.in-Some.ensures.bytes

pub returns-in-Some-clause-small : goal.returns-in-Some-clause-small
returns-in-Some-clause-small g c =
    omega (arith, c.args.self.now.small.1 c.args.id c.in-Some.s.now c.in-Some.ensures.bytes, length-whole c.in-Some.s.now)

pub returns-in-Some-clause-there : goal.returns-in-Some-clause-there
returns-in-Some-clause-there g c =
    let B = g.S.ReaderSegments.segments c.args.self.now.segments in
    (λ _. omega (arith, count-wholes B, c.in-Some.ensures.there.0 refl), λ _. refl)

pub returns-in-Some-clause-bytes : goal.returns-in-Some-clause-bytes
returns-in-Some-clause-bytes g c =
    let B = g.S.ReaderSegments.segments c.args.self.now.segments in
    get-wholes B c.args.id c.in-Some.s.now c.in-Some.ensures.bytes

pub returns-in-None-clause-there : goal.returns-in-None-clause-there
returns-in-None-clause-there g c =
    let B = g.S.ReaderSegments.segments c.args.self.now.segments in
    (λ some. absurd (false≢true some), λ less. absurd (false≢true (c.in-None.ensures.there.1 (omega (arith, count-wholes B, less)))))
