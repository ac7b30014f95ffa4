use Rattle.std.proofs.Common.{List, ℕ, inr, subst}
use Rattle.std.proofs.lemmas.Result.{IfErr-weaker, IfOk-weaker}
use Rattle.capnp_format.specs.Bytes.{message}
use Rattle.capnp_messages.specs.declared.messages.command.Command.TheVariants.{Canon}
use Rattle.capnp_messages.specs.declared.messages.command.Form.TheVariants.{Flat}
use Rattle.capnp_canonical.specs.Calls.{RefusesMeaning, limits_of}
use Rattle.capnp_canonical.specs.Taking.{IsBeside}
use Rattle.capnp_canonical.proofs.equal_exports.OtherSegmentsWordTaker.take.Goals as goal

pub returns-in-Ok : goal.returns-in-Ok
returns-in-Ok c =
    let limits = limits_of c.args.self.now.limits.nesting c.args.self.now.limits.words in
    record {
      same = IfOk-weaker c.lend_words.result _ _ (λ same it. (c.in-Ok.ensures.whole.0, c.in-Ok.ensures.whole.1, subst (λ (B : List (List ℕ)). IsBeside limits c.args.words.now same (message B)) c.in-Ok.ensures.segments it)) c.lend_words.ensures.taken;
      refused = IfErr-weaker c.lend_words.result _ _ (λ r no. inr (c.in-Ok.ensures.whole.0, c.in-Ok.ensures.whole.1, subst (λ (B : List (List ℕ)). RefusesMeaning (Canon Flat) limits (message B) r) c.in-Ok.ensures.segments no)) c.lend_words.ensures.refused;
    }
