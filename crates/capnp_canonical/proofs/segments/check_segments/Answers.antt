use Rattle.std.proofs.Common.{List, ℕ, inr, subst}
use Rattle.std.proofs.lemmas.Result.{IfErr-weaker, IfOk-weaker}
use Rattle.capnp_format.specs.Bytes.{message}
use Rattle.capnp_messages.specs.declared.messages.command.Command.TheVariants.{Check}
use Rattle.capnp_canonical.specs.Calls.{RefusesMeaning, TestFinds, limits_of}
use Rattle.capnp_canonical.proofs.segments.check_segments.Goals as goal

pub returns-clause-found : goal.returns-clause-found
returns-clause-found c =
    let limits = limits_of c.args.limits.nesting c.args.limits.words in
    IfOk-weaker c.check.result _ _ (λ o is. (c.in_ok-lent.ensures.whole.0, c.in_ok-lent.ensures.whole.1, subst (λ (B : List (List ℕ)). TestFinds limits o (message B)) c.in_ok-lent.ensures.segments is)) c.check.ensures.found

pub returns-clause-refused : goal.returns-clause-refused
returns-clause-refused c =
    let limits = limits_of c.args.limits.nesting c.args.limits.words in
    IfErr-weaker c.check.result _ _ (λ r no. inr (c.in_ok-lent.ensures.whole.0, c.in_ok-lent.ensures.whole.1, subst (λ (B : List (List ℕ)). RefusesMeaning Check limits (message B) r) c.in_ok-lent.ensures.segments no)) c.check.ensures.refused
