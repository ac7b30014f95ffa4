use Rattle.std.proofs.Common.{arith, ◌≡◌, true, false}
use Rattle.capnp_arena_traits.proofs.MessageLemmas.{message_wholes, total-more}
use Rattle.capnp_arena.proofs.arena.reader_arena_impl.ReaderArenaImpl.new.Goals as goal
use Rattle.capnp_arena.proofs.arena.reader_arena_impl.ReaderArenaImpl.new.Goals.{in-Some, in_default}

pub loop-id-preserved : goal.loop-id-preserved
loop-id-preserved g c =
    let B = g.S.ReaderSegments.segments c.args.segments in
    elim c.match-get_segment.branch [
      | in-Some w ↦
          let more = total-more B c.loop-id.id w.in-Some.segment.now w.in-Some.ensures.bytes in
          let small = c.requires.1 c.loop-id.id w.in-Some.segment.now w.in-Some.ensures.bytes in
          record { counted = omega (arith, more, c.loop-id.invariant.counted, w.words-is); bounded = omega (arith, small, c.loop-id.invariant.bounded, w.words-is) }
      | in_default w ↦ let none : false ≡ true = w.in_default.ensures.there.1 (omega (arith, c.len-id-end.ensures, c.loop-id-test.true)) in absurd cc
    ]

pub returns-clause-words : goal.returns-clause-words
returns-clause-words g c = message_wholes (g.S.ReaderSegments.segments c.args.segments)
