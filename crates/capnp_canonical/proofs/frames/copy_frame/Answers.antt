use Rattle.std.proofs.Common.{inr}
use Rattle.std.proofs.lemmas.Result.{IfErr-weaker}
use Rattle.capnp_format.specs.Bytes.{message}
use Rattle.capnp_format.specs.Segments.{Segments}
use Rattle.capnp_framing.specs.Flat.{parts}
use Rattle.capnp_canonical.proofs.CallLemmas.{fills_weaker, frame_granted, of_framed}
use Rattle.capnp_canonical.proofs.frames.copy_frame.Goals as goal

pub returns-clause-copied : goal.returns-clause-copied
returns-clause-copied c =
    let S : Segments =
    message (parts c.in_ok-segments.segments.count c.in_ok-segments.segments.table.now c.in_ok-segments.segments.words.now) in
    fills_weaker (λ bytes is. (S, c.in_ok-segments.ensures.begins, is)) c.copy.ensures.copied

pub returns-clause-refused : goal.returns-clause-refused
returns-clause-refused c =
    let S : Segments =
    message (parts c.in_ok-segments.segments.count c.in_ok-segments.segments.table.now c.in_ok-segments.segments.words.now) in
    IfErr-weaker c.copy.result _ _ (λ r no. inr (S, c.in_ok-segments.ensures.begins, no)) c.copy.ensures.refused

pub returns-in_err-segments-clause-lent : goal.returns-in_err-segments-clause-lent
returns-in_err-segments-clause-lent c = λ small. absurd (frame_granted c.in_err-segments.ensures.refused small)

pub returns-clause-lent : goal.returns-clause-lent
returns-clause-lent c = λ small. c.copy.ensures.lent (of_framed c.in_ok-segments.ensures.begins small)
