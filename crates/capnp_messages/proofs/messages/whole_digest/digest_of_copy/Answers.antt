use Rattle.std.proofs.Common.{◌∙◌}
use Rattle.capnp_format.specs.Canonical.{encoding, trim}
use Rattle.capnp_messages.proofs.CanonicalizeLemmas.{value_if}
use Rattle.capnp_messages.proofs.DigestLemmas.{digest_is}
use Rattle.capnp_messages.proofs.messages.whole_digest.digest_of_copy.Goals as goal

pub returns-in-Ok-clause-digest : goal.returns-in-Ok-clause-digest
returns-in-Ok-clause-digest g c =
    let (t, value, is_made) = c.in-Ok.ensures.copied in
    digest_is t (value_if value) c.canonical_bytes.ensures.short (c.canonical_bytes.ensures.bytes (encoding (trim t)) is_made) c.digest-digest.ensures

pub returns-in-Ok-clause-kept : goal.returns-in-Ok-clause-kept
returns-in-Ok-clause-kept g c = c.into_allocator.ensures.refusals ∙ c.in-Ok.ensures.tries.granted

pub returns-in-Err-clause-refused : goal.returns-in-Err-clause-refused
returns-in-Err-clause-refused g c = c.in-Err.ensures.refused
