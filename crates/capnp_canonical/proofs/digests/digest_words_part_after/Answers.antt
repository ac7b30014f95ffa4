use Rattle.std.proofs.Common.{List, ℕ, inr, subst, sym}
use Rattle.std.proofs.lemmas.Result.{IfErr-weaker}
use Rattle.capnp_format.specs.Bytes.{message}
use Rattle.capnp_canonical.specs.Calls.{limits_of}
use Rattle.capnp_canonical.specs.Parts.{RefusesPartOf}
use Rattle.capnp_messages.specs.SmallCopies.{PartNeedsNoHeap}
use Rattle.capnp_canonical.proofs.CallLemmas.{words_granted}
use Rattle.capnp_canonical.proofs.digests.digest_words_part_after.Goals as goal

pub returns-clause-refused : goal.returns-clause-refused
returns-clause-refused c =
    let limits = limits_of c.args.limits.nesting c.args.limits.words in
    IfErr-weaker c.lend_part_words.result _ _ (λ r no.
    inr (c.in_ok-message.ensures.whole, subst (λ (B : List (List ℕ)). RefusesPartOf limits c.args.path.now (message B) r) c.in_ok-message.ensures.segments no)) c.lend_part_words.ensures.refused

pub returns-in_err-message-clause-lent : goal.returns-in_err-message-clause-lent
returns-in_err-message-clause-lent c = λ small. absurd (words_granted c.args.words.now c.in_err-message.ensures.refused small)

pub returns-clause-lent : goal.returns-clause-lent
returns-clause-lent c = λ (one, small).
    let limits = limits_of c.args.limits.nesting c.args.limits.words in
    c.lend_part_words.ensures.lent (subst (λ (B : List (List ℕ)). PartNeedsNoHeap limits c.args.path.now (message B)) (sym c.in_ok-message.ensures.segments) small)
