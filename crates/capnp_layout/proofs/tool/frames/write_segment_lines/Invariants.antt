use Rattle.std.proofs.Common.{◌≡◌, drop, false}
use Rattle.capnp_format.specs.Bytes.{message}
use Rattle.capnp_framing.proofs.WritingLemmas.{IsLeftOver}
use Rattle.capnp_layout.specs.Commands.{segment_lines}
use Rattle.capnp_layout.proofs.tool.frames.write_segment_lines.Given as goal

abbrev pub invariant-loop-i : goal.invariant-loop-i
invariant-loop-i g l = record {
  left_over : IsLeftOver (g.W.Output.contents l.fn.output) (g.W.Output.contents l.output) (segment_lines (message (g.S.ReaderSegments.segments l.segments))) (segment_lines (drop l.i (message (g.S.ReaderSegments.segments l.segments))));
  works : g.W.Output.has_failed l.output ≡ false;
}
