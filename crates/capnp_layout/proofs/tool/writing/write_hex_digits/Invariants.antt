use Rattle.std.proofs.Common.{◌≡◌, drop, false}
use Rattle.capnp_format.specs.Bytes.{words_of}
use Rattle.capnp_framing.proofs.WritingLemmas.{IsLeftOver}
use Rattle.capnp_layout.specs.Answers.{digits_of}
use Rattle.capnp_layout.proofs.tool.writing.write_hex_digits.Given as goal

abbrev pub invariant-loop-at : goal.invariant-loop-at
invariant-loop-at g l = record {
  left_over : IsLeftOver (g.W.Output.contents l.fn.output) (g.W.Output.contents l.output) (digits_of (words_of l.segment)) (digits_of (drop l.at (words_of l.segment)));
  works : g.W.Output.has_failed l.output ≡ false;
}
