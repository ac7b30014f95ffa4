use Rattle.std.proofs.Common.{List, ℕ, inr, length, subst, sym}
use Rattle.std.proofs.lemmas.Result.{IfErr-weaker}
use Rattle.capnp_format.specs.Bytes.{message}
use Rattle.capnp_messages.specs.declared.messages.command.Form.TheVariants.{Flat}
use Rattle.capnp_canonical.specs.Calls.{IsCopyOf, RefusesRoom, limits_of}
use Rattle.capnp_canonical.proofs.CallLemmas.{fills_weaker, words_granted}
use Rattle.capnp_messages.specs.SmallCopies.{NeedsNoHeap}
use Rattle.capnp_canonical.proofs.words.copy_words.Goals as goal

pub returns-clause-copied : goal.returns-clause-copied
returns-clause-copied c =
    let limits = limits_of c.args.limits.nesting c.args.limits.words in
    fills_weaker (λ bytes is. (c.in_ok-message.ensures.whole, subst (λ (B : List (List ℕ)). IsCopyOf Flat limits (message B) bytes) c.in_ok-message.ensures.segments is)) c.copy.ensures.copied

pub returns-clause-refused : goal.returns-clause-refused
returns-clause-refused c =
    let limits = limits_of c.args.limits.nesting c.args.limits.words in
    IfErr-weaker c.copy.result _ _ (λ r no.
    inr (c.in_ok-message.ensures.whole, subst (λ (B : List (List ℕ)). RefusesRoom Flat limits (length c.args.to.now) (message B) r) c.in_ok-message.ensures.segments no)) c.copy.ensures.refused

pub returns-in_err-message-clause-lent : goal.returns-in_err-message-clause-lent
returns-in_err-message-clause-lent c = λ small. absurd (words_granted c.args.words.now c.in_err-message.ensures.refused small)

pub returns-clause-lent : goal.returns-clause-lent
returns-clause-lent c = λ (one, small).
    let limits = limits_of c.args.limits.nesting c.args.limits.words in
    c.copy.ensures.lent (subst (λ (B : List (List ℕ)). NeedsNoHeap limits (message B)) (sym c.in_ok-message.ensures.segments) small)
