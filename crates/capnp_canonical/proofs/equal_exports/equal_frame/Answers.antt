use Rattle.std.proofs.Common.{inr, refl}
use Rattle.std.proofs.lemmas.Result.{IfErr-weaker, IfOk-weaker}
use Rattle.capnp_format.specs.Canonical.{encoding, trim}
use Rattle.capnp_framing.specs.Frames.{bytes_of_words}
use Rattle.capnp_canonical.proofs.equal_exports.equal_frame.Goals as goal

pub returns-clause-same : goal.returns-clause-same
returns-clause-same c =
    let (t, value, few, compared) = c.in_ok-lend_words.ensures.taken in
    let words = bytes_of_words (encoding (trim t)) in
    IfOk-weaker c.in_ok-lend_words.field-0 _ _ (λ same it. (words, (_, c.in_ok-first.ensures.begins, (t, value, few, refl)), it)) compared.same

pub returns-clause-refused : goal.returns-clause-refused
returns-clause-refused c =
    let (t, value, few, compared) = c.in_ok-lend_words.ensures.taken in
    IfErr-weaker c.in_ok-lend_words.field-0 _ _ (λ r no. inr (bytes_of_words (encoding (trim t)), (_, c.in_ok-first.ensures.begins, (t, value, few, refl)), no)) compared.refused
