use Rattle.std.proofs.Common.{refl}
use Rattle.capnp_format.specs.Canonical.{encoding, trim}
use Rattle.capnp_messages.proofs.CanonLemmas.{or_memory}
use Rattle.capnp_canonical.proofs.CallLemmas.{fit_segment}
use Rattle.capnp_canonical.proofs.taking.lend_part_from_heap.Goals as goal

pub returns-in-Err-clause-refused : goal.returns-in-Err-clause-refused
returns-in-Err-clause-refused g c = (c.in-Err.kind, refl, or_memory c.in-Err.ensures.refused)

pub returns-in-Ok-clause-taken : goal.returns-in-Ok-clause-taken
returns-in-Ok-clause-taken g c =
    let (t, value, is_made) = c.in-Ok.ensures.copied in
    let bytes = c.canonical_bytes.ensures.bytes (encoding (trim t)) is_made in
    let few = fit_segment (encoding (trim t)) bytes c.canonical_bytes.ensures.short in
    (t, value, few, rw bytes at c.take.ensures)
