use Rattle.callers.proofs.Framed.{is_frame, means_there, none_refused}
use Rattle.callers.proofs.frames.write_and_read_frame.Goals as goal

pub returns-clause-same : goal.returns-clause-same
returns-clause-same g c =
    means_there c.read_frame.result _ _ (c.read_frame.ensures _
    (is_frame _ c.bytes.result.now _ c.in_ok-write_frame.ensures.framed c.in_ok-write_frame.ensures.written c.bytes.ensures))

pub returns-clause-refused : goal.returns-clause-refused
returns-clause-refused g c =
    none_refused c.read_frame.result _ _ (c.read_frame.ensures _
    (is_frame _ c.bytes.result.now _ c.in_ok-write_frame.ensures.framed c.in_ok-write_frame.ensures.written c.bytes.ensures))
