use Rattle.std.proofs.Common.{rules, ◌+◌, ◌<◌, ◌++◌, ℕ, List, [], length, drop, sym, ap, ◌∙◌, subst, arith, take_all}
use Rattle.std.specs.List.{All}
use Rattle.std.proofs.lemmas.List.Elements.{All-more}
use Rattle.capnp_format.specs.Bytes.{message}
use Rattle.capnp_format.specs.Segments.{Segments}
use Rattle.capnp_framing.specs.Frames.{AreSegmentWords, bytes_of_words, contents}
use Rattle.capnp_arena_traits.proofs.MessageLemmas.{length-message}
use Rattle.capnp_framing.proofs.TableLemmas.{contents-drop}
use Rattle.capnp_framing.proofs.WritingLemmas.{left_over_less}
use Rattle.capnp_framing.proofs.framing.writing.write_all_segments.Goals as goal

pub loop-i-preserved : goal.loop-i-preserved
loop-i-preserved g c =
    let bytes : List (List ℕ) = g.S.ReaderSegments.segments c.args.segments.now in
    let S : Segments = message bytes in
    let inside : c.loop-i.i < length S = omega (arith, length-message bytes, c.requires.number, c.loop-i-test.true) in
    let same = c.segment_words.ensures.words in
    record {
      left_over = left_over_less (contents (drop (c.loop-i.i + 1) S)) (record { left_over = c.loop-i.invariant.left_over; appended = c.in_ok-write_words.ensures.writes.written })
          (contents-drop S c.loop-i.i inside ∙ ap (λ ws. bytes_of_words ws ++ contents (drop (c.loop-i.i + 1) S)) (sym same));
      small = All-more AreSegmentWords S c.loop-i.i [] inside c.loop-i.invariant.small (subst AreSegmentWords same c.write_words.ensures.words);
      works = search rules;
    }

pub returns-clause-words : goal.returns-clause-words
returns-clause-words g c =
    let bytes : List (List ℕ) = g.S.ReaderSegments.segments c.args.segments.now in
    subst (λ (S : Segments). All AreSegmentWords S) (take_all c.loop-i.i (message bytes) (omega (arith, length-message bytes, c.requires.number, c.loop-i-test.false))) c.loop-i.invariant.small
