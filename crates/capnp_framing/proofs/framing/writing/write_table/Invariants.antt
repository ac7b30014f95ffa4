use Rattle.std.proofs.Common.{◌≡◌, ◌+◌, ◌-◌, ◌*◌, ◌++◌, false, drop, replicate}
use Rattle.std.specs.Int.{to_le_bytes, w32}
use Rattle.capnp_format.specs.Bytes.{message}
use Rattle.capnp_framing.specs.Frames.{lengths, padding_size}
use Rattle.capnp_framing.proofs.TableLemmas.{lengths_left}
use Rattle.capnp_framing.proofs.WritingLemmas.{IsLeftOver}
use Rattle.capnp_framing.proofs.framing.writing.write_table.Given as goal

abbrev pub invariant-loop-k : goal.invariant-loop-k
invariant-loop-k g l = record {
  left_over : IsLeftOver (g.W.Output.contents l.fn.output) (g.W.Output.contents l.output)
      (to_le_bytes w32 (l.count - 1) ++ (lengths (message (g.S.ReaderSegments.segments l.segments)) ++ replicate (padding_size l.count) 0))
      (lengths_left (drop (2 * l.k + 1) (message (g.S.ReaderSegments.segments l.segments))));
  works : g.W.Output.has_failed l.output ≡ false;
}
