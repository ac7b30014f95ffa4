use Rattle.std.proofs.lemmas.Bool.{OnFalse_at, OnTrue_at}
use Rattle.std.proofs.Common.{◌≤◌, arith, inr, length, refl, rules}
use Rattle.capnp_format.specs.Canonical.{encoding, trim}
use Rattle.capnp_messages.proofs.DigestLemmas.{part_digest_is}
use Rattle.capnp_messages.proofs.SmallCopyLemmas.{part_fits, part_is_not_refused}
use Rattle.capnp_messages.proofs.messages.part_digest.digest_of_part.Goals as goal

pub returns-clause-refused : goal.returns-clause-refused
returns-clause-refused g c = inr (c.in-Err.ensures.refused, refl)

pub returns-then-fits-clause-digest : goal.returns-then-fits-clause-digest
returns-then-fits-clause-digest g c =
    let (t, value, is_made) = OnTrue_at c.if-fits.true c.in-Ok.ensures.copied in
    part_digest_is t value c.canonical_bytes.ensures.short (c.canonical_bytes.ensures.bytes (encoding (trim t)) is_made) c.digest.ensures

pub returns-clause-lent : goal.returns-clause-lent
returns-clause-lent g c = λ small. absurd (part_is_not_refused c.in-Err.kind small c.in-Err.ensures.refused)

pub returns-in-Ok-clause-lent : goal.returns-in-Ok-clause-lent
returns-in-Ok-clause-lent g c = λ small.
    let sure = c.canonicalize_part_into.ensures.sure refl (rw c.new-made.ensures.allocator (c.new.ensures.grants 64 (omega arith) (let long : 512 ≤ length c.as_mut_slice.result.now = search rules in long))) in
    absurd (part_fits small (OnFalse_at c.if-fits.false (rw c.in-Ok.is at sure)))
