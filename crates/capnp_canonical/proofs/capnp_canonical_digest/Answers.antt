use Rattle.std.proofs.Common.{◌≡◌, ◌⊎◌, inl, inr, refl}
use Rattle.std.proofs.lemmas.Int.{to_z-of_z}
use mir.Syntax.{w32}
use Rattle.capnp_messages.specs.declared.messages.command.Form.TheVariants.{Flat}
use Rattle.capnp_canonical.specs.Calls.{limits_of}
use Rattle.capnp_canonical.proofs.CallLemmas.{meaning_granted, where_framed}
use Rattle.capnp_canonical.proofs.StoringLemmas.{answer_is, answer_zero, done_of, none_of, refused_of}
use Rattle.capnp_canonical.proofs.capnp_canonical_digest.Goals as goal

pub returns-clause-done : goal.returns-clause-done
returns-clause-done c =
    done_of _ c.store.ensures (rw (to_z-of_z w32 c.args.nesting c.ranges.nesting) at c.digest_frame_after-made.ensures.digest)

pub returns-clause-refused : goal.returns-clause-refused
returns-clause-refused c =
    refused_of c.store.ensures (rw (to_z-of_z w32 c.args.nesting c.ranges.nesting) at c.digest_frame_after-made.ensures.refused)

pub returns-clause-none : goal.returns-clause-none
returns-clause-none c = none_of c.store.ensures

pub returns-clause-granted : goal.returns-clause-granted
returns-clause-granted c = λ can.
    let limits = limits_of c.args.nesting c.args.words in
    answer_is (λ n. (n ≡ 0) ⊎ (n ≡ 32)) c.store.ensures (rw (to_z-of_z w32 c.args.nesting c.ranges.nesting) at c.digest_frame_after-made.ensures.refused) (inl refl) (λ r refused. inr (where_framed (λ S words. meaning_granted Flat limits S) refused can))

pub returns-clause-lent : goal.returns-clause-lent
returns-clause-lent c = λ small.
    answer_zero c.store.ensures ((rw (to_z-of_z w32 c.args.nesting c.ranges.nesting) at c.digest_frame_after-made.ensures.lent) small)
