use Rattle.std.proofs.Common.{List, ℕ, inr, length, subst, sym}
use Rattle.std.proofs.lemmas.Result.{IfErr-weaker}
use Rattle.capnp_format.specs.Bytes.{message}
use Rattle.capnp_canonical.specs.Calls.{IsCopyOf, RefusesRoom, limits_of}
use Rattle.capnp_canonical.proofs.CallLemmas.{fills_weaker, lent_granted}
use Rattle.capnp_messages.specs.SmallCopies.{NeedsNoHeap}
use Rattle.capnp_canonical.proofs.segments.copy_segments.Goals as goal

pub returns-clause-copied : goal.returns-clause-copied
returns-clause-copied c =
    let limits = limits_of c.args.limits.nesting c.args.limits.words in
    fills_weaker (λ bytes is. (c.in_ok-lent.ensures.whole.0, c.in_ok-lent.ensures.whole.1, subst (λ (B : List (List ℕ)). IsCopyOf c.args.form limits (message B) bytes) c.in_ok-lent.ensures.segments is)) c.copy.ensures.copied

pub returns-clause-refused : goal.returns-clause-refused
returns-clause-refused c =
    let limits = limits_of c.args.limits.nesting c.args.limits.words in
    IfErr-weaker c.copy.result _ _ (λ r no.
    inr (c.in_ok-lent.ensures.whole.0, c.in_ok-lent.ensures.whole.1, subst (λ (B : List (List ℕ)). RefusesRoom c.args.form limits (length c.args.to.now) (message B) r) c.in_ok-lent.ensures.segments no)) c.copy.ensures.refused

pub returns-in_err-lent-clause-lent : goal.returns-in_err-lent-clause-lent
returns-in_err-lent-clause-lent c = λ small. absurd (lent_granted c.args.segments.now c.in_err-lent.ensures.refused small)

pub returns-clause-lent : goal.returns-clause-lent
returns-clause-lent c = λ (whole, few, small).
    let limits = limits_of c.args.limits.nesting c.args.limits.words in
    c.copy.ensures.lent (subst (λ (B : List (List ℕ)). NeedsNoHeap limits (message B)) (sym c.in_ok-lent.ensures.segments) small)
