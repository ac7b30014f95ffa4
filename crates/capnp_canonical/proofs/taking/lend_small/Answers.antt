use Rattle.std.proofs.Common.{◌≤◌, arith, inr, length, refl, rules}
use Rattle.std.proofs.lemmas.Bool.{OnFalse_at, OnTrue_at}
use Rattle.capnp_format.specs.Canonical.{encoding, trim}
use Rattle.capnp_messages.proofs.SmallCopyLemmas.{copy_fits, copy_is_not_refused}
use Rattle.capnp_canonical.proofs.CallLemmas.{fit_segment}
use Rattle.capnp_canonical.proofs.taking.lend_small.Goals as goal

pub returns-clause-refused : goal.returns-clause-refused
returns-clause-refused g c = (c.in-Err.kind, refl, inr c.in-Err.ensures.refused)

pub returns-then-fits-clause-taken : goal.returns-then-fits-clause-taken
returns-then-fits-clause-taken g c =
    let (t, value, is_made) = OnTrue_at c.if-fits.true c.in-Ok.ensures.copied in
    let bytes = c.canonical_bytes.ensures.bytes (encoding (trim t)) is_made in
    let few = fit_segment (encoding (trim t)) bytes c.canonical_bytes.ensures.short in
    (t, value, few, rw bytes at c.take.ensures)

pub returns-clause-lent : goal.returns-clause-lent
returns-clause-lent g c = λ small. absurd (copy_is_not_refused c.in-Err.kind small c.in-Err.ensures.refused)

pub returns-in-Ok-clause-lent : goal.returns-in-Ok-clause-lent
returns-in-Ok-clause-lent g c = λ small.
    let sure = c.canonicalize_into.ensures.sure refl (rw c.new-made.ensures.allocator (c.new.ensures.grants 64 (omega arith) (let long : 512 ≤ length c.as_mut_slice.result.now = search rules in long))) in
    absurd (copy_fits small (OnFalse_at c.if-fits.false (rw c.in-Ok.is at sure)))
