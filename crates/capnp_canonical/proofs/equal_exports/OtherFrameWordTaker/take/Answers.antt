use Rattle.std.proofs.Common.{inr}
use Rattle.std.proofs.lemmas.Result.{IfErr-weaker, IfOk-weaker}
use Rattle.capnp_canonical.proofs.equal_exports.OtherFrameWordTaker.take.Goals as goal

pub returns-in-Ok : goal.returns-in-Ok
returns-in-Ok c = record {
  same = IfOk-weaker c.lend_words.result _ _ (λ same it. (_, c.in-Ok.ensures.begins, it)) c.lend_words.ensures.taken;
  refused = IfErr-weaker c.lend_words.result _ _ (λ r no. inr (_, c.in-Ok.ensures.begins, no)) c.lend_words.ensures.refused;
}
