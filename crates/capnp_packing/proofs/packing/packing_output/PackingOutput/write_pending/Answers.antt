use Rattle.std.proofs.Common.{rules}
use Rattle.capnp_packing.proofs.PackingLemmas.{sent_more}
use Rattle.capnp_packing.proofs.packing.packing_output.PackingOutput.write_pending.Goals as goal

pub loop-self-preserved : goal.loop-self-preserved
loop-self-preserved g c = record {
  keeps = sent_more _ _ _ c.loop-self.self.pending c.loop-self.self.sent c.in-Ok.n c.loop-self.self.end (search rules) c.loop-self.invariant.keeps (rw c.subslice.ensures at c.in-Ok.ensures.bytes);
  failed = search rules;
}
