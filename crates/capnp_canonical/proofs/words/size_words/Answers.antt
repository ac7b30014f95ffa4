use Rattle.std.proofs.Common.{List, ℕ, inr, subst}
use Rattle.std.proofs.lemmas.Result.{IfErr-weaker, IfOk-weaker}
use Rattle.capnp_format.specs.Bytes.{message}
use Rattle.capnp_messages.specs.Messages.{HasSizeOf}
use Rattle.capnp_messages.specs.declared.messages.command.Command.TheVariants.{Size}
use Rattle.capnp_canonical.specs.Calls.{RefusesMeaning, limits_of}
use Rattle.capnp_canonical.proofs.words.size_words.Goals as goal

pub returns-clause-size : goal.returns-clause-size
returns-clause-size c =
    let limits = limits_of c.args.limits.nesting c.args.limits.words in
    IfOk-weaker c.size.result _ _ (λ o is. (c.in_ok-message.ensures.whole, subst (λ (B : List (List ℕ)). HasSizeOf (message B) limits o.word_count o.cap_count) c.in_ok-message.ensures.segments is)) c.size.ensures.size

pub returns-clause-refused : goal.returns-clause-refused
returns-clause-refused c =
    let limits = limits_of c.args.limits.nesting c.args.limits.words in
    IfErr-weaker c.size.result _ _ (λ r no. inr (c.in_ok-message.ensures.whole, subst (λ (B : List (List ℕ)). RefusesMeaning Size limits (message B) r) c.in_ok-message.ensures.segments no)) c.size.ensures.refused
