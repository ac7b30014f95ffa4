use Rattle.std.proofs.Common.{rules, ◌≡◌, ◌+◌, ◌<◌, ◌++◌, ◌∙◌, ◌∷◌, [], ℕ, List, length, drop, sym, ap, arith}
use Rattle.capnp_layout.specs.Answers.{digits_of}
use Rattle.capnp_layout.specs.Commands.{segment_lines}
use Rattle.capnp_format.specs.Bytes.{message, words_of}
use Rattle.capnp_format.specs.Segments.{Segments, segment}
use Rattle.capnp_arena_traits.proofs.MessageLemmas.{length-message}
use Rattle.capnp_framing.proofs.WritingLemmas.{left_over_less, left_over_end}
use Rattle.capnp_layout.proofs.FrameLines.{lines-drop, lines-end}
use Rattle.capnp_layout.proofs.tool.frames.write_segment_lines.Goals as goal

pub loop-i-preserved : goal.loop-i-preserved
loop-i-preserved g c =
    let bytes : List (List ℕ) = g.S.ReaderSegments.segments c.args.segments.now in
    let S : Segments = message bytes in
    let inside : c.loop-i.i < length S = omega (arith, length-message bytes, c.loop-i-test.true) in
    let same : words_of c.segment_at.result.now ≡ segment S c.loop-i.i = c.segment_at.ensures.words (omega (arith, c.loop-i-test.true)) in
    record {
      left_over = left_over_less (segment_lines (drop (c.loop-i.i + 1) S)) (record { left_over = c.loop-i.invariant.left_over; appended = c.in_ok-write_hex_line.ensures.written })
          (lines-drop S c.loop-i.i inside ∙ ap (λ (ws : List ℕ). (digits_of ws ++ 10 ∷ []) ++ segment_lines (drop (c.loop-i.i + 1) S)) (sym same));
      works = search rules;
    }

pub returns : goal.returns
returns g c =
    let bytes : List (List ℕ) = g.S.ReaderSegments.segments c.args.segments.now in
    record {
      written =
          left_over_end (g.W.Output.contents c.args.output.now) (g.W.Output.contents c.loop-i.output) _ _ c.loop-i.invariant.left_over
          (lines-end (message bytes) c.loop-i.i (omega (arith, length-message bytes)));
      works = search rules;
      fails = search rules;
    }
