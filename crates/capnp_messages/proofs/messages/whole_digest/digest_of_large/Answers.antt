use Rattle.std.proofs.Common.{◌∙◌, ap}
use Rattle.capnp_framing.specs.Frames.{bytes_of_words}
use Rattle.capnp_messages.proofs.DigestLemmas.{digest_is}
use Rattle.capnp_messages.proofs.messages.whole_digest.digest_of_large.Goals as goal

pub returns-in-Some-clause-digest : goal.returns-in-Some-clause-digest
returns-in-Some-clause-digest g c =
    let (t, value, is) = c.in-Some.ensures.words in
    digest_is t value c.in-Some.ensures.short (c.in-Some.ensures.whole ∙ ap bytes_of_words is) c.digest.ensures
