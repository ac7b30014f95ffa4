use Rattle.std.proofs.Common.{◌≡◌, length, false}
use Rattle.capnp_framing.proofs.WritingLemmas.{IsLeftOver}
use Rattle.capnp_framing.proofs.devices.writing.write_all.Given as goal

abbrev pub invariant-loop-rest : goal.invariant-loop-rest
invariant-loop-rest g l = record {
  left_over : IsLeftOver (g.W.Output.contents l.fn.output) (g.W.Output.contents l.output) l.fn.from l.rest;
  works : g.W.Output.has_failed l.output ≡ false;
}

abbrev pub decreases-loop-rest : goal.decreases-loop-rest
decreases-loop-rest g l = length l.rest
