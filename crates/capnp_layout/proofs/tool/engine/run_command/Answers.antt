use Rattle.capnp_layout.proofs.RunLemmas.{named_run, uncounted_run}
use Rattle.capnp_layout.proofs.tool.engine.run_command.Goals as goal

pub returns-in-Canon : goal.returns-in-Canon
returns-in-Canon g c = named_run _ _ _ c.in-Canon.is c.answer_canon.ensures

pub returns-in-FramedCanon : goal.returns-in-FramedCanon
returns-in-FramedCanon g c = named_run _ _ _ c.in-FramedCanon.is c.answer_canon-in-FramedCanon.ensures

pub returns-in-Check : goal.returns-in-Check
returns-in-Check g c = uncounted_run _ _ _ _ c.in-Check.is c.answer_check.ensures

pub returns-in-Size : goal.returns-in-Size
returns-in-Size g c = uncounted_run _ _ _ _ c.in-Size.is c.answer_size.ensures

pub returns-in-Frame : goal.returns-in-Frame
returns-in-Frame g c = uncounted_run _ _ _ _ c.in-Frame.is c.answer_frame.ensures

pub returns-in-Unframe : goal.returns-in-Unframe
returns-in-Unframe g c = uncounted_run _ _ _ _ c.in-Unframe.is c.answer_unframe.ensures

pub returns-in-FramedCheck : goal.returns-in-FramedCheck
returns-in-FramedCheck g c = uncounted_run _ _ _ _ c.in-FramedCheck.is c.answer_framed_check.ensures
