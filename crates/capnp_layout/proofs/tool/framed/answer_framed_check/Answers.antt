use Rattle.std.proofs.Common.{inr, refl, rules, IsOk}
use Rattle.capnp_layout.proofs.RunLemmas.{refused_run}
use Rattle.capnp_layout.proofs.tool.framed.answer_framed_check.Goals as goal

pub returns : goal.returns
returns g c =
    refused_run _ _ _ c.in-Err.refusal c.answer_refusal.ensures.either c.answer_refusal.ensures.written c.answer_refusal.ensures.works c.answer_refusal.ensures.failed
    (inr (c.in-Err.ensures.refused, refl))
    (λ _ has. (let answered : IsOk c.is_canonical_frame.result = c.is_canonical_frame.ensures.answered has in absurd (search rules)))
