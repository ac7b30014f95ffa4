use Rattle.std.proofs.Common.{inr}
use Rattle.std.proofs.lemmas.Result.{IfErr-weaker, IfOk-weaker}
use Rattle.capnp_format.specs.Bytes.{message}
use Rattle.capnp_format.specs.Segments.{Segments}
use Rattle.capnp_framing.specs.Flat.{parts}
use Rattle.capnp_canonical.proofs.frames.size_frame.Goals as goal

pub returns-clause-size : goal.returns-clause-size
returns-clause-size c =
    let S : Segments =
    message (parts c.in_ok-segments.segments.count c.in_ok-segments.segments.table.now c.in_ok-segments.segments.words.now) in
    IfOk-weaker c.size.result _ _ (λ o is. (S, c.in_ok-segments.ensures.begins, is)) c.size.ensures.size

pub returns-clause-refused : goal.returns-clause-refused
returns-clause-refused c =
    let S : Segments =
    message (parts c.in_ok-segments.segments.count c.in_ok-segments.segments.table.now c.in_ok-segments.segments.words.now) in
    IfErr-weaker c.size.result _ _ (λ r no. inr (S, c.in_ok-segments.ensures.begins, no)) c.size.ensures.refused
