use Rattle.std.proofs.lemmas.Int.{to_z-of_z}
use mir.Syntax.{w32}
use Rattle.capnp_canonical.specs.Calls.{limits_of}
use Rattle.capnp_canonical.proofs.CallLemmas.{check_granted, test_told, where_lent}
use Rattle.capnp_canonical.proofs.segment_exports.capnp_canonical_segments_check.Goals as goal

pub returns-in-Ok-clause-done : goal.returns-in-Ok-clause-done
returns-in-Ok-clause-done c = λ done.
    let (whole, small, finds) = rw (to_z-of_z w32 c.args.nesting c.ranges.nesting) at c.in-Ok.ensures.found in
    (whole, small, test_told (limits_of c.args.nesting c.args.words) _ c.of.result c.in-Ok.found c.is_none.result c.is_none.ensures c.of.ensures.fault c.of.ensures.none finds)

pub returns-in-Err-clause-refused : goal.returns-in-Err-clause-refused
returns-in-Err-clause-refused c = λ some.
    let refused = rw (to_z-of_z w32 c.args.nesting c.ranges.nesting) at c.in-Err.ensures.refused in
    (c.in-Err.refusal, c.number.ensures.number, refused)

pub returns-in-Err-clause-granted : goal.returns-in-Err-clause-granted
returns-in-Err-clause-granted c = λ can.
    let limits = limits_of c.args.nesting c.args.words in
    let refused = rw (to_z-of_z w32 c.args.nesting c.ranges.nesting) at c.in-Err.ensures.refused in
    absurd (where_lent c.args.segments.now (check_granted limits _) refused can)
