use Rattle.std.proofs.Common.{arith, map}
use Rattle.capnp_arena_traits.specs.Limits.{whole}
use Rattle.capnp_messages.proofs.TryLemmas.{total-message}
use Rattle.capnp_messages.proofs.messages.whole_digest.digest.Goals as goal

pub returns-else-size_in_words-clause-lent : goal.returns-else-size_in_words-clause-lent
returns-else-size_in_words-clause-lent g c = λ (few, small).
    absurd (omega (arith, few, c.if-size_in_words.false, c.size_in_words.ensures, total-message (map whole (g.S.ReaderSegments.segments c.args.source.now.segments))))
