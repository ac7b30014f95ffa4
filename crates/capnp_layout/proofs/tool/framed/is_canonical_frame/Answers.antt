use Rattle.std.proofs.Common.{inl, inr, refl, subst}
use Rattle.std.proofs.lemmas.Result.{err_from_is_err_and}
use Rattle.capnp_format.specs.Segments.{Segments}
use Rattle.capnp_messages.specs.Messages.{RefusesCheck}
use Rattle.capnp_messages.proofs.AnsweredLemmas.{check_alone, check_refused}
use Rattle.capnp_messages.proofs.CheckedLemmas.{whole_tells}
use Rattle.capnp_layout.proofs.FrameCommands.{frame_not_refused, one_message}
use Rattle.capnp_layout.proofs.tool.framed.is_canonical_frame.Goals as goal

pub returns-in_err-frame-clause-answered : goal.returns-in_err-frame-clause-answered
returns-in_err-frame-clause-answered c = λ (S, holds, tested). absurd (frame_not_refused holds c.in_err-frame.ensures.refused)

pub returns-in_err-frame-clause-refused : goal.returns-in_err-frame-clause-refused
returns-in_err-frame-clause-refused c =
    let p = err_from_is_err_and c.from_residual.result c.from_residual.ensures.1 in
    rw (p.1, p.2) (inl c.in_err-frame.ensures.refused)

pub returns-in-Err-clause-answered : goal.returns-in-Err-clause-answered
returns-in-Err-clause-answered c = λ (S, holds, tested).
    let refused = subst (λ (T : Segments). RefusesCheck T c.args.options c.in-Err.kind) (one_message c.in_ok-frame.ensures.holds holds) (rw (c.new-source.ensures.words, c.new-source.ensures.nesting) at c.in-Err.ensures.refused) in
    absurd (check_refused S c.args.options (tested (check_alone S c.args.options refused)) refused)

pub returns-in-Err-clause-refused : goal.returns-in-Err-clause-refused
returns-in-Err-clause-refused c = inr (_, c.in_ok-frame.ensures.holds, (c.in-Err.kind, refl, (rw (c.new-source.ensures.words, c.new-source.ensures.nesting) at c.in-Err.ensures.refused)))

pub returns-in-Ok-clause-tells : goal.returns-in-Ok-clause-tells
returns-in-Ok-clause-tells c =
    let exactly = rw c.new-source.ensures.words at c.in-Ok.ensures.exactly in
    let within = rw (c.new-source.ensures.words, c.new-source.ensures.nesting) at c.in-Ok.ensures.within in
    let (says, inside) = whole_tells _ _ c.in-Ok.fault c.is_none.result c.is_none.ensures exactly within in
    (_, c.in_ok-frame.ensures.holds, says, inside)
