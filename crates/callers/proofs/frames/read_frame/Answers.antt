use Rattle.callers.proofs.Framed.{is_no_fault, is_that_message}
use Rattle.callers.proofs.frames.read_frame.Goals as goal

pub returns-in-Some : goal.returns-in-Some
returns-in-Some c = λ S framed. is_that_message S _ c.args.bytes.now framed (rw c.in-Some.is at c.in_ok-segments.ensures.read)

pub returns-in_err-segments : goal.returns-in_err-segments
returns-in_err-segments c = λ S framed. absurd (is_no_fault S c.args.bytes.now _ framed c.in_err-segments.ensures.refused)
