use Rattle.std.proofs.Common.{◌≡◌, ◌⊎◌, ◌∷◌, [], inl, inr, refl}
use Rattle.std.proofs.lemmas.Int.{to_z-of_z}
use mir.Syntax.{w32}
use Rattle.capnp_format.specs.Bytes.{message}
use Rattle.capnp_canonical.specs.Calls.{IsGranted, limits_of}
use Rattle.capnp_canonical.proofs.CallLemmas.{where_words, no_room_is}
use Rattle.capnp_canonical.proofs.PartLemmas.{part_room_granted}
use Rattle.capnp_canonical.proofs.StoringLemmas.{answer_is, filled_of, room_of}
use Rattle.capnp_canonical.proofs.part_exports.capnp_canonical_words_copy_at.Goals as goal

pub returns-clause-done : goal.returns-clause-done
returns-clause-done c =
    filled_of c.store_written.ensures (rw (to_z-of_z w32 c.args.nesting c.ranges.nesting) at c.copy_words_part-copied.ensures.copied)

pub returns-clause-refused : goal.returns-clause-refused
returns-clause-refused c =
    room_of c.store_written.ensures (rw (to_z-of_z w32 c.args.nesting c.ranges.nesting) at c.copy_words_part-copied.ensures.refused)

pub returns-clause-granted : goal.returns-clause-granted
returns-clause-granted c = λ can.
    let limits = limits_of c.args.nesting c.args.words in
    answer_is IsGranted c.store_written.ensures (rw (to_z-of_z w32 c.args.nesting c.ranges.nesting) at c.copy_words_part-copied.ensures.refused) (inl refl) (λ r refused. where_words c.args.bytes.now (part_room_granted limits c.args.path.now _ (message (c.args.bytes.now ∷ []))) refused can)

pub returns-clause-lent : goal.returns-clause-lent
returns-clause-lent c = λ small.
    answer_is (λ n. (n ≡ 0) ⊎ (n ≡ 1)) c.store_written.ensures ((rw (to_z-of_z w32 c.args.nesting c.ranges.nesting) at c.copy_words_part-copied.ensures.lent) small) (inl refl) (λ r full. inr (no_room_is full))
