use Rattle.std.proofs.Common.{inr}
use Rattle.std.proofs.lemmas.Result.{IfErr-weaker, IfOk-weaker}
use Rattle.capnp_format.specs.Bytes.{message}
use Rattle.capnp_format.specs.Segments.{Segments}
use Rattle.capnp_framing.specs.Flat.{parts}
use Rattle.capnp_canonical.proofs.frames.check_frame.Goals as goal

pub returns-clause-found : goal.returns-clause-found
returns-clause-found c =
    let S : Segments =
    message (parts c.in_ok-segments.segments.count c.in_ok-segments.segments.table.now c.in_ok-segments.segments.words.now) in
    IfOk-weaker c.check.result _ _ (λ o is. (S, c.in_ok-segments.ensures.begins, is)) c.check.ensures.found

pub returns-clause-refused : goal.returns-clause-refused
returns-clause-refused c =
    let S : Segments =
    message (parts c.in_ok-segments.segments.count c.in_ok-segments.segments.table.now c.in_ok-segments.segments.words.now) in
    IfErr-weaker c.check.result _ _ (λ r no. inr (S, c.in_ok-segments.ensures.begins, no)) c.check.ensures.refused
