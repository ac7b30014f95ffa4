use Rattle.std.proofs.Common.{ℕ, ◌+◌, ap, ◌∙◌, subst, arith, length}
use Rattle.capnp_format.specs.Bytes.{message}
use Rattle.capnp_format.specs.Canonical.{trim, word_count}
use Rattle.capnp_format.specs.Segments.{Segments, segment}
use Rattle.capnp_format.proofs.Levels.{one_value}
use Rattle.capnp_pointers.specs.Source.{levels}
use Rattle.capnp_messages.proofs.AnsweredLemmas.{copy_lacks_memory}
use Rattle.capnp_messages.proofs.CanonicalizeLemmas.{value_if}
use Rattle.capnp_framing.specs.Reading.{total}
use Rattle.capnp_messages.specs.Tries.{IsRoomFor}
use Rattle.callers.proofs.Copied.{asked_no_more}
use Rattle.callers.proofs.Evenness.{canonical_long}
use Rattle.callers.proofs.theorem.make_canonical_copy.Goals as goal

pub returns-in-Ok-clause-exactly_what : goal.returns-in-Ok-clause-exactly_what
returns-in-Ok-clause-exactly_what g c =
    let (t, is, words) = rw (c.new-source.ensures.words, c.new-source.ensures.nesting) at c.in-Ok.ensures.copied in
    let value = value_if is in
    let long = canonical_long (message (g.S.ReaderSegments.segments c.args.segments)) (levels c.args.limits.nesting_limit) 0 0 t value.cost value.means in
    let same = ap (λ (M : Segments). length (segment M 0)) words in
    (t, value, omega (arith, same, long, c.first_segment_is_short.ensures), words)

pub returns-in-Ok-clause-asked : goal.returns-in-Ok-clause-asked
returns-in-Ok-clause-asked g c =
    let S = message (g.S.ReaderSegments.segments c.args.segments) in
    let (u, is, made) = rw (c.new-source.ensures.words, c.new-source.ensures.nesting) at c.in-Ok.ensures.copied in
    let first = rw c.new-source.ensures.words at c.in-Ok.ensures.tries in
    let other = value_if {limits = c.args.limits} is in
    let long = ap (λ (M : Segments). length (segment M 0)) made in
    let n : ℕ = levels c.args.limits.nesting_limit in (
      first.room,
      first.asked,
      λ t value.
          let one = ap (λ v. word_count (trim v)) (one_value S n n 0 0 u t other.cost value.cost other.means value.means).0 in
          asked_no_more S first.room (subst (λ i. IsRoomFor (total S) i first.room) (long ∙ canonical_long S n 0 0 u other.cost other.means ∙ ap (λ i. 1 + i) one) first.least),
    )

pub returns-clause-exactly_where : goal.returns-clause-exactly_where
returns-clause-exactly_where g c = λ has.
    copy_lacks_memory (message (g.S.ReaderSegments.segments c.args.segments)) c.args.limits has (rw (c.new-source.ensures.words, c.new-source.ensures.nesting) at c.in-Err.ensures.refused)

pub returns-clause-refused : goal.returns-clause-refused
returns-clause-refused g c = rw (c.new-source.ensures.words, c.new-source.ensures.nesting) at c.in-Err.ensures.refused
