use Rattle.std.proofs.Common.{◌≡◌, refl}
use Rattle.std.proofs.lemmas.Int.{to_z-of_z}
use mir.Syntax.{w32}
use Rattle.capnp_canonical.specs.Calls.{limits_of}
use Rattle.capnp_canonical.proofs.CallLemmas.{where_framed}
use Rattle.capnp_canonical.proofs.PartLemmas.{part_size_granted}
use Rattle.capnp_canonical.proofs.StoringLemmas.{answer_is, done_of, no_size_of, refused_of}
use Rattle.capnp_canonical.proofs.part_exports.capnp_canonical_size_at.Goals as goal

pub returns-clause-done : goal.returns-clause-done
returns-clause-done c =
    done_of _ c.store_size.ensures (rw (to_z-of_z w32 c.args.nesting c.ranges.nesting) at c.size_frame_part-size.ensures.size)

pub returns-clause-refused : goal.returns-clause-refused
returns-clause-refused c =
    refused_of c.store_size.ensures (rw (to_z-of_z w32 c.args.nesting c.ranges.nesting) at c.size_frame_part-size.ensures.refused)

pub returns-clause-none : goal.returns-clause-none
returns-clause-none c = no_size_of c.store_size.ensures

pub returns-clause-granted : goal.returns-clause-granted
returns-clause-granted c = λ can.
    let limits = limits_of c.args.nesting c.args.words in
    answer_is (λ n. n ≡ 0) c.store_size.ensures (rw (to_z-of_z w32 c.args.nesting c.ranges.nesting) at c.size_frame_part-size.ensures.refused) refl (λ r refused. absurd (where_framed (λ S words. part_size_granted limits c.args.path.now S) refused can))
