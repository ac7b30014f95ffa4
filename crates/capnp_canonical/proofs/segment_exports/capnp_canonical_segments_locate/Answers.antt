use Rattle.std.proofs.Common.{◌≡◌, refl}
use Rattle.std.proofs.lemmas.Int.{to_z-of_z}
use mir.Syntax.{w32}
use Rattle.capnp_canonical.proofs.CallLemmas.{lent_granted}
use Rattle.capnp_canonical.proofs.StoringLemmas.{answer_is, done_of, none_of, refused_of}
use Rattle.capnp_canonical.proofs.segment_exports.capnp_canonical_segments_locate.Goals as goal

pub returns-clause-done : goal.returns-clause-done
returns-clause-done c =
    done_of _ c.store.ensures (rw (to_z-of_z w32 c.args.nesting c.ranges.nesting) at c.locate_in_segments-found.ensures.found)

pub returns-clause-refused : goal.returns-clause-refused
returns-clause-refused c =
    refused_of c.store.ensures c.locate_in_segments-found.ensures.refused

pub returns-clause-none : goal.returns-clause-none
returns-clause-none c = none_of c.store.ensures

pub returns-clause-granted : goal.returns-clause-granted
returns-clause-granted c = λ can.
    answer_is (λ n. n ≡ 0) c.store.ensures c.locate_in_segments-found.ensures.refused refl (λ r refused. absurd (lent_granted c.args.segments.now refused can))
