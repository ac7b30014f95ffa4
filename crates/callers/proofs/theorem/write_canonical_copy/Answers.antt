use Rattle.std.proofs.Common.{inl, refl, ap}
use Rattle.capnp_format.specs.Bytes.{message}
use Rattle.capnp_messages.specs.declared.messages.canonical_error.CanonicalError.TheVariants.{Layout}
use Rattle.capnp_messages.proofs.AnsweredLemmas.{copy_lacks_memory}
use Rattle.callers.proofs.theorem.write_canonical_copy.Goals as goal

pub returns-in-Err-clause-exactly_where : goal.returns-in-Err-clause-exactly_where
returns-in-Err-clause-exactly_where g c = λ has.
    (let lacks = copy_lacks_memory (message (g.S.ReaderSegments.segments c.args.segments)) c.args.limits has c.in-Err.ensures.refused in
    inl (ap Layout lacks.0, lacks.1))

pub returns-in-Err-clause-refused : goal.returns-in-Err-clause-refused
returns-in-Err-clause-refused g c = inl (_, refl, c.in-Err.ensures.refused, refl)
