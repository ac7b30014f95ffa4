use Rattle.std.proofs.Common.{◌≡◌, drop, false}
use Rattle.hex.specs.Hex.{encode_lower}
use Rattle.capnp_format.specs.Bytes.{message}
use Rattle.capnp_framing.specs.Frames.{contents}
use Rattle.capnp_framing.proofs.WritingLemmas.{IsLeftOver}
use Rattle.capnp_layout.proofs.tool.frames.write_all_segments.Given as goal

abbrev pub invariant-loop-i : goal.invariant-loop-i
invariant-loop-i g l = record {
  left_over : IsLeftOver (g.W.Output.contents l.fn.output) (g.W.Output.contents l.output) (encode_lower (contents (message (g.S.ReaderSegments.segments l.segments)))) (encode_lower (contents (drop l.i (message (g.S.ReaderSegments.segments l.segments)))));
  works : g.W.Output.has_failed l.output ≡ false;
}
