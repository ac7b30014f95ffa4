use Rattle.std.proofs.Common.{inr, refl, rules, IsOk}
use Rattle.capnp_layout.specs.declared.tool.refusal.Refusal.TheVariants.{Layout}
use Rattle.capnp_layout.proofs.RunLemmas.{refused_run}
use Rattle.capnp_layout.proofs.tool.engine.answer_check.Goals as goal

pub returns-in-Err : goal.returns-in-Err
returns-in-Err g c =
    refused_run _ _ _ (Layout c.in-Err.kind) c.answer_refusal.ensures.either c.answer_refusal.ensures.written c.answer_refusal.ensures.works c.answer_refusal.ensures.failed
    (inr ((c.in-Err.kind, refl, c.in-Err.ensures.refused), refl))
    (λ small canonical. (let answered : IsOk c.is_canonical.result = c.is_canonical.ensures.answered small canonical in absurd (search rules)))
