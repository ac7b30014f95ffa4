use Rattle.std.proofs.Common.{◌≡◌, ◌⊎◌, inl, inr, refl}
use Rattle.std.proofs.lemmas.Int.{to_z-of_z}
use mir.Syntax.{w32}
use Rattle.capnp_format.specs.Bytes.{message}
use Rattle.capnp_canonical.specs.Calls.{lent_bytes, limits_of}
use Rattle.capnp_canonical.proofs.CallLemmas.{where_lent}
use Rattle.capnp_canonical.proofs.PartLemmas.{part_out_of_memory}
use Rattle.capnp_canonical.proofs.StoringLemmas.{answer_is, answer_zero, done_of, none_of, refused_of}
use Rattle.capnp_canonical.proofs.prefix_exports.capnp_canonical_segments_digest_with_at.Goals as goal

pub returns-clause-done : goal.returns-clause-done
returns-clause-done c =
    done_of _ c.store.ensures (rw (to_z-of_z w32 c.args.nesting c.ranges.nesting) at c.digest_segments_part_after-made.ensures.digest)

pub returns-clause-refused : goal.returns-clause-refused
returns-clause-refused c =
    refused_of c.store.ensures (rw (to_z-of_z w32 c.args.nesting c.ranges.nesting) at c.digest_segments_part_after-made.ensures.refused)

pub returns-clause-none : goal.returns-clause-none
returns-clause-none c = none_of c.store.ensures

pub returns-clause-granted : goal.returns-clause-granted
returns-clause-granted c = λ can.
    let limits = limits_of c.args.nesting c.args.words in
    answer_is (λ n. (n ≡ 0) ⊎ (n ≡ 32)) c.store.ensures (rw (to_z-of_z w32 c.args.nesting c.ranges.nesting) at c.digest_segments_part_after-made.ensures.refused) (inl refl) (λ r refused. inr (where_lent c.args.segments.now (part_out_of_memory limits c.args.path.now (message (lent_bytes c.args.segments.now))) refused can))

pub returns-clause-lent : goal.returns-clause-lent
returns-clause-lent c = λ small.
    answer_zero c.store.ensures ((rw (to_z-of_z w32 c.args.nesting c.ranges.nesting) at c.digest_segments_part_after-made.ensures.lent) small)
