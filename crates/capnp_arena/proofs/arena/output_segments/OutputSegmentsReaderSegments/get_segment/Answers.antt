use Rattle.std.proofs.Common.{◌≡◌, ◌<◌, true, false, length, slice_get, Some, refl}
use Rattle.std.proofs.lemmas.Bool.{false≢true}
use Rattle.capnp_arena.proofs.Looked.{looked_bytes, looked_there, looked_beyond, of_output}
use Rattle.capnp_arena.proofs.arena.output_segments.OutputSegmentsReaderSegments.get_segment.Goals as goal

pub returns-in-Some-clause-there : goal.returns-in-Some-clause-there
returns-in-Some-clause-there c =
    (λ _. of_output (λ bytes. c.args.id < length bytes) c.args.self.now c.in-MultiSegment.segments c.deref.result.now c.in-MultiSegment.is c.deref.ensures.value (looked_there c.deref.result.now c.args.id c.in-Some.ensures.lookup.3.0), λ _. refl)

pub returns-in-Some-clause-bytes : goal.returns-in-Some-clause-bytes
returns-in-Some-clause-bytes c =
    of_output (λ bytes. slice_get bytes c.args.id ≡ Some c.in-Some.s.now.now) c.args.self.now c.in-MultiSegment.segments c.deref.result.now c.in-MultiSegment.is c.deref.ensures.value (looked_bytes c.deref.result.now c.args.id c.in-Some.s.now c.in-Some.ensures.lookup.3.0 c.in-Some.ensures.lookup.1)

pub returns-in-None-clause-there : goal.returns-in-None-clause-there
returns-in-None-clause-there c =
    (λ some. absurd (false≢true some), of_output (λ bytes. c.args.id < length bytes → false ≡ true) c.args.self.now c.in-MultiSegment.segments c.deref.result.now c.in-MultiSegment.is c.deref.ensures.value (λ there. absurd (looked_beyond c.deref.result.now c.args.id c.in-None.ensures.lookup.3 there)))
