use Rattle.std.proofs.Common.{refl}
use Rattle.std.proofs.lemmas.Bool.{false≢true}
use Rattle.capnp_arena.proofs.Looked.{looked_bytes, looked_there, looked_beyond}
use Rattle.capnp_arena.proofs.arena.reader_segments.SegmentArrayReaderSegments.get_segment.Goals as goal

pub returns-in-Some-clause-there : goal.returns-in-Some-clause-there
returns-in-Some-clause-there c = (λ _. looked_there c.args.self.now.segments.now c.args.id c.in-Some.ensures.lookup.3.0, λ _. refl)

pub returns-in-Some-clause-bytes : goal.returns-in-Some-clause-bytes
returns-in-Some-clause-bytes c =
    rw c.without_null.ensures (looked_bytes c.args.self.now.segments.now c.args.id c.in-Some.s.now c.in-Some.ensures.lookup.3.0 c.in-Some.ensures.lookup.1)

pub returns-in-None-clause-there : goal.returns-in-None-clause-there
returns-in-None-clause-there c =
    (λ some. absurd (false≢true some), λ there. absurd (looked_beyond c.args.self.now.segments.now c.args.id c.in-None.ensures.lookup.3 there))
