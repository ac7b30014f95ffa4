use Rattle.std.proofs.Common.{Err, Ok, ap}
use Rattle.capnp_format.specs.Bytes.{message}
use Rattle.capnp_messages.specs.Check.{whole_result}
use Rattle.capnp_messages.proofs.CheckedLemmas.{whole_if, whole_tells}
use Rattle.callers.proofs.Copied.{is_tested}
use Rattle.callers.proofs.AgreedLemmas.{tested_within}
use Rattle.callers.proofs.theorem.is_canonical.Goals as goal

pub returns-in-Ok-clause-exactly : goal.returns-in-Ok-clause-exactly
returns-in-Ok-clause-exactly g c =
    let exactly = rw c.new-source.ensures.words at c.in-Ok.ensures.exactly in
    let within = rw (c.new-source.ensures.words, c.new-source.ensures.nesting) at c.in-Ok.ensures.within in
    (whole_tells _ _ c.in-Ok.fault c.is_none.result c.is_none.ensures exactly within).0

pub returns-in-Ok-clause-within : goal.returns-in-Ok-clause-within
returns-in-Ok-clause-within g c =
    let exactly = rw c.new-source.ensures.words at c.in-Ok.ensures.exactly in
    let within = rw (c.new-source.ensures.words, c.new-source.ensures.nesting) at c.in-Ok.ensures.within in
    tested_within (message (g.S.ReaderSegments.segments c.args.segments)) c.args.limits (Ok c.is_none.result)
    (whole_tells _ _ c.in-Ok.fault c.is_none.result c.is_none.ensures exactly within).1

pub returns-in-Ok-clause-computed : goal.returns-in-Ok-clause-computed
returns-in-Ok-clause-computed g c =
    let computed = rw (c.new-source.ensures.words, c.new-source.ensures.nesting) at c.in-Ok.ensures.computed in
    whole_if (message (g.S.ReaderSegments.segments c.args.segments)) c.args.limits c.in-Ok.fault c.is_none.result computed c.is_none.ensures

pub returns-clause-answered : goal.returns-clause-answered
returns-clause-answered g c = λ can.
    is_tested (message (g.S.ReaderSegments.segments c.args.segments)) c.args.limits (Err c.in-Err.kind) can
    (rw (c.new-source.ensures.words, c.new-source.ensures.nesting) at c.in-Err.ensures.refused)

pub returns-clause-computed : goal.returns-clause-computed
returns-clause-computed g c =
    let computed = rw (c.new-source.ensures.words, c.new-source.ensures.nesting) at c.in-Err.ensures.computed in
    ap whole_result computed

pub returns-clause-refused : goal.returns-clause-refused
returns-clause-refused g c = rw (c.new-source.ensures.words, c.new-source.ensures.nesting) at c.in-Err.ensures.refused
