use Rattle.std.proofs.Common.{List, ℕ, inr, subst, sym}
use Rattle.std.proofs.lemmas.Result.{IfErr-weaker}
use Rattle.capnp_format.specs.Bytes.{message}
use Rattle.capnp_messages.specs.declared.messages.command.Command.TheVariants.{Canon}
use Rattle.capnp_messages.specs.declared.messages.command.Form.TheVariants.{Flat}
use Rattle.capnp_canonical.specs.Calls.{RefusesMeaning, limits_of}
use Rattle.capnp_messages.specs.SmallCopies.{NeedsNoHeap}
use Rattle.capnp_canonical.proofs.CallLemmas.{lent_granted}
use Rattle.capnp_canonical.proofs.digests.digest_segments_after.Goals as goal

pub returns-clause-refused : goal.returns-clause-refused
returns-clause-refused c =
    let limits = limits_of c.args.limits.nesting c.args.limits.words in
    IfErr-weaker c.lend_words.result _ _ (λ r no.
    inr (c.in_ok-lent.ensures.whole.0, c.in_ok-lent.ensures.whole.1, subst (λ (B : List (List ℕ)). RefusesMeaning (Canon Flat) limits (message B) r) c.in_ok-lent.ensures.segments no)) c.lend_words.ensures.refused

pub returns-in_err-lent-clause-lent : goal.returns-in_err-lent-clause-lent
returns-in_err-lent-clause-lent c = λ small. absurd (lent_granted c.args.segments.now c.in_err-lent.ensures.refused small)

pub returns-clause-lent : goal.returns-clause-lent
returns-clause-lent c = λ (whole, few, small).
    let limits = limits_of c.args.limits.nesting c.args.limits.words in
    c.lend_words.ensures.lent (subst (λ (B : List (List ℕ)). NeedsNoHeap limits (message B)) (sym c.in_ok-lent.ensures.segments) small)
