use Rattle.std.proofs.Common.{inl, inr}
use Rattle.capnp_format.specs.Bytes.{message}
use Rattle.callers.proofs.AgreedLemmas.{two_same}
use Rattle.callers.proofs.theorem.have_same_canonical_copy.Goals as goal

pub returns-in-Ok-make_canonical_copy-clause-exactly_what : goal.returns-in-Ok-make_canonical_copy-clause-exactly_what
returns-in-Ok-make_canonical_copy-clause-exactly_what g c =
    two_same (message (g.S.ReaderSegments.segments c.args.first)) (message (g.R.ReaderSegments.segments c.args.second)) c.args.limits c.have_same_bytes.result _ _
    c.in-Ok.ensures.exactly_what c.in-Ok-make_canonical_copy.ensures.exactly_what c.have_same_bytes.ensures

pub returns-in-Err-clause-refused : goal.returns-in-Err-clause-refused
returns-in-Err-clause-refused g c = inl c.in-Err.ensures.refused

pub returns-clause-refused : goal.returns-clause-refused
returns-clause-refused g c = inr c.in-Err-make_canonical_copy.ensures.refused
