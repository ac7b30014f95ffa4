use Rattle.std.proofs.Common.{List, ℕ, inr, refl, subst}
use Rattle.std.proofs.lemmas.Result.{IfErr-weaker, IfOk-weaker}
use Rattle.capnp_format.specs.Bytes.{message}
use Rattle.capnp_messages.specs.declared.messages.command.Form.TheVariants.{Flat}
use Rattle.capnp_canonical.specs.Calls.{IsCopyOf, limits_of}
use Rattle.capnp_format.specs.Canonical.{encoding, trim}
use Rattle.capnp_framing.specs.Frames.{bytes_of_words}
use Rattle.capnp_canonical.proofs.equal_exports.equal_segments.Goals as goal

pub returns-clause-same : goal.returns-clause-same
returns-clause-same c =
    let (t, value, few, compared) = c.in_ok-lend_words.ensures.taken in
    let words = bytes_of_words (encoding (trim t)) in
    let limits = limits_of c.args.limits.nesting c.args.limits.words in
    let there = subst (λ (B : List (List ℕ)). IsCopyOf Flat limits (message B) words) c.in_ok-first.ensures.segments (t, value, few, refl) in
    IfOk-weaker c.in_ok-lend_words.field-0 _ _ (λ same it. (words, (c.in_ok-first.ensures.whole.0, c.in_ok-first.ensures.whole.1, there), it)) compared.same

pub returns-clause-refused : goal.returns-clause-refused
returns-clause-refused c =
    let (t, value, few, compared) = c.in_ok-lend_words.ensures.taken in
    let words = bytes_of_words (encoding (trim t)) in
    let limits = limits_of c.args.limits.nesting c.args.limits.words in
    let there = subst (λ (B : List (List ℕ)). IsCopyOf Flat limits (message B) words) c.in_ok-first.ensures.segments (t, value, few, refl) in
    IfErr-weaker c.in_ok-lend_words.field-0 _ _ (λ r no. inr (words, (c.in_ok-first.ensures.whole.0, c.in_ok-first.ensures.whole.1, there), no)) compared.refused
