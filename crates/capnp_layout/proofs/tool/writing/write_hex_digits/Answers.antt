use Rattle.std.proofs.Common.{rules, ◌+◌, ℕ, ◌<◌, ◌≤◌, length, arith, ap, sym, ◌∙◌, ◌++◌, drop, List}
use Rattle.capnp_format.specs.Bytes.{words_of}
use Rattle.capnp_format.proofs.WordsOf.{words}
use Rattle.capnp_layout.specs.Answers.{word_digits, digits_of}
use Rattle.capnp_framing.proofs.WritingLemmas.{left_over_less, left_over_end}
use Rattle.capnp_layout.proofs.WritingLemmas.{digits-drop, digits-end}
use Rattle.capnp_layout.proofs.tool.writing.write_hex_digits.Goals as goal

pub loop-at-preserved : goal.loop-at-preserved
loop-at-preserved g c =
    let ws : List ℕ = words_of c.args.segment.now in
    let inside : c.loop-at.at < length ws = omega (arith, words c.args.segment.now) in
    record {
      left_over = left_over_less _ (record { left_over = c.loop-at.invariant.left_over; appended = c.in_ok-write_word_digits.ensures.written }) (digits-drop ws c.loop-at.at inside ∙ ap (λ (w : ℕ). word_digits w ++ digits_of (drop (c.loop-at.at + 1) ws)) (sym c.word_at.ensures));
      works = search rules;
    }

pub returns : goal.returns
returns g c =
    let all : length (words_of c.args.segment.now) ≤ c.loop-at.at = omega (arith, words c.args.segment.now) in
    record {
      written = left_over_end (g.W.Output.contents c.args.output.now) (g.W.Output.contents c.loop-at.output) _ _ c.loop-at.invariant.left_over (digits-end (words_of c.args.segment.now) c.loop-at.at all);
      works = search rules;
      fails = search rules;
    }
