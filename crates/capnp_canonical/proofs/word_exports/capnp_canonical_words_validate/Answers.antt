use Rattle.std.proofs.Common.{◌≡◌, ◌∷◌, [], refl}
use Rattle.std.proofs.lemmas.Int.{to_z-of_z}
use mir.Syntax.{w32}
use Rattle.capnp_format.specs.Bytes.{message}
use Rattle.capnp_canonical.specs.Calls.{limits_of}
use Rattle.capnp_canonical.proofs.CallLemmas.{where_words}
use Rattle.capnp_canonical.proofs.ExtentLemmas.{extent_granted}
use Rattle.capnp_canonical.proofs.StoringLemmas.{answer_is, done_of, none_of, refused_of}
use Rattle.capnp_canonical.proofs.word_exports.capnp_canonical_words_validate.Goals as goal

pub returns-clause-done : goal.returns-clause-done
returns-clause-done c =
    done_of _ c.store.ensures (rw (to_z-of_z w32 c.args.nesting c.ranges.nesting) at c.validate_words-found.ensures.extent)

pub returns-clause-refused : goal.returns-clause-refused
returns-clause-refused c =
    refused_of c.store.ensures (rw (to_z-of_z w32 c.args.nesting c.ranges.nesting) at c.validate_words-found.ensures.refused)

pub returns-clause-none : goal.returns-clause-none
returns-clause-none c = none_of c.store.ensures

pub returns-clause-granted : goal.returns-clause-granted
returns-clause-granted c = λ can.
    let limits = limits_of c.args.nesting c.args.words in
    answer_is (λ n. n ≡ 0) c.store.ensures (rw (to_z-of_z w32 c.args.nesting c.ranges.nesting) at c.validate_words-found.ensures.refused) refl (λ r refused. absurd (where_words c.args.bytes.now (extent_granted limits (message (c.args.bytes.now ∷ []))) refused can))
