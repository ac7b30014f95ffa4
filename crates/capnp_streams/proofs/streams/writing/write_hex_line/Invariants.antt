use Rattle.std.proofs.Common.{◌≡◌, length, false}
use Rattle.hex.specs.Hex.{encode_lower}
use Rattle.capnp_framing.proofs.WritingLemmas.{IsLeftOver}
use Rattle.capnp_streams.proofs.streams.writing.write_hex_line.Given as goal

abbrev pub invariant-loop-rest : goal.invariant-loop-rest
invariant-loop-rest g l = record {
  left_over : IsLeftOver (g.W.Output.contents l.fn.output) (g.W.Output.contents l.output)
      (encode_lower l.fn.bytes) (encode_lower l.rest);
  works : g.W.Output.has_failed l.output ≡ false;
}

abbrev pub decreases-loop-rest : goal.decreases-loop-rest
decreases-loop-rest g l = length l.rest
