use Rattle.std.proofs.Common.{◌≡◌, false, take, drop}
use Rattle.std.specs.List.{All}
use Rattle.capnp_format.specs.Bytes.{message}
use Rattle.capnp_framing.specs.Frames.{AreSegmentWords, contents}
use Rattle.capnp_framing.proofs.WritingLemmas.{IsLeftOver}
use Rattle.capnp_framing.proofs.framing.writing.write_all_segments.Given as goal

abbrev pub invariant-loop-i : goal.invariant-loop-i
invariant-loop-i g l = record {
  left_over : IsLeftOver (g.W.Output.contents l.fn.output) (g.W.Output.contents l.output) (contents (message (g.S.ReaderSegments.segments l.segments))) (contents (drop l.i (message (g.S.ReaderSegments.segments l.segments))));
  small : All AreSegmentWords (take l.i (message (g.S.ReaderSegments.segments l.segments)));
  works : g.W.Output.has_failed l.output ≡ false;
}
