use Rattle.std.proofs.Common.{◌≡◌, ◌⊎◌, inl, inr, refl}
use Rattle.std.proofs.lemmas.Int.{to_z-of_z}
use mir.Syntax.{w32}
use Rattle.capnp_messages.specs.declared.messages.command.Form.TheVariants.{Framed}
use Rattle.capnp_canonical.specs.Calls.{IsGranted, limits_of}
use Rattle.capnp_canonical.proofs.CallLemmas.{room_granted, where_lent, no_room_is}
use Rattle.capnp_canonical.proofs.StoringLemmas.{answer_is, filled_of, room_of}
use Rattle.capnp_canonical.proofs.segment_exports.capnp_canonical_segments_copy.Goals as goal

pub returns-clause-done : goal.returns-clause-done
returns-clause-done c =
    filled_of c.store_written.ensures (rw (to_z-of_z w32 c.args.nesting c.ranges.nesting) at c.copy_segments-copied.ensures.copied)

pub returns-clause-refused : goal.returns-clause-refused
returns-clause-refused c =
    room_of c.store_written.ensures (rw (to_z-of_z w32 c.args.nesting c.ranges.nesting) at c.copy_segments-copied.ensures.refused)

pub returns-clause-granted : goal.returns-clause-granted
returns-clause-granted c = λ can.
    let limits = limits_of c.args.nesting c.args.words in
    answer_is IsGranted c.store_written.ensures (rw (to_z-of_z w32 c.args.nesting c.ranges.nesting) at c.copy_segments-copied.ensures.refused) (inl refl) (λ r refused. where_lent c.args.segments.now (room_granted Framed limits _ _) refused can)

pub returns-clause-lent : goal.returns-clause-lent
returns-clause-lent c = λ small.
    answer_is (λ n. (n ≡ 0) ⊎ (n ≡ 1)) c.store_written.ensures ((rw (to_z-of_z w32 c.args.nesting c.ranges.nesting) at c.copy_segments-copied.ensures.lent) small) (inl refl) (λ r full. inr (no_room_is full))
