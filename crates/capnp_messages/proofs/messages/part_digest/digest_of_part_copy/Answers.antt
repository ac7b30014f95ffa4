use Rattle.std.proofs.Common.{◌∙◌}
use Rattle.capnp_format.specs.Canonical.{encoding, trim}
use Rattle.capnp_messages.proofs.DigestLemmas.{part_digest_is}
use Rattle.capnp_messages.proofs.messages.part_digest.digest_of_part_copy.Goals as goal

pub returns-in-Ok-clause-digest : goal.returns-in-Ok-clause-digest
returns-in-Ok-clause-digest g c =
    let (t, value, is_made) = c.in-Ok.ensures.copied in
    part_digest_is t value c.canonical_bytes.ensures.short (c.canonical_bytes.ensures.bytes (encoding (trim t)) is_made) c.digest-digest.ensures

pub returns-in-Ok-clause-kept : goal.returns-in-Ok-clause-kept
returns-in-Ok-clause-kept g c =
    let (r, m, leads, tries) = c.in-Ok.ensures.tries in
    c.into_allocator.ensures.refusals ∙ tries.granted
