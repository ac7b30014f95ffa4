use Rattle.std.proofs.Common.{ap, arith, map}
use Rattle.capnp_arena_traits.specs.Limits.{whole}
use Rattle.capnp_framing.specs.Reading.{total}
use Rattle.capnp_messages.proofs.TryLemmas.{total-message}
use Rattle.capnp_canonical.proofs.taking.lend_words.Goals as goal

pub returns-clause-lent : goal.returns-clause-lent
returns-clause-lent g c = λ (few, small).
    let counted = total-message (map whole (g.S.ReaderSegments.segments c.new-source.result.segments)) in
    absurd (omega (arith, few, c.if-size_in_words.false, c.size_in_words.ensures, counted, ap total c.new-source.ensures.words))
