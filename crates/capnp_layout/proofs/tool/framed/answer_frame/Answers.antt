use Rattle.std.proofs.Common.{inr, refl}
use Rattle.capnp_layout.proofs.FrameCommands.{count_not_refused}
use Rattle.capnp_layout.proofs.RunLemmas.{refused_run}
use Rattle.capnp_layout.proofs.tool.framed.answer_frame.Goals as goal

pub returns : goal.returns
returns g c =
    refused_run _ _ _ c.in-Err.refusal c.answer_refusal.ensures.either c.answer_refusal.ensures.written c.answer_refusal.ensures.works c.answer_refusal.ensures.failed
    (inr (c.in-Err.ensures.refused, refl)) (λ small has. absurd (count_not_refused small has c.in-Err.ensures.refused))
