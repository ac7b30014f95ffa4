use Rattle.std.proofs.Common.{rules, arith}
use Rattle.capnp_framing.proofs.ReadingLemmas.{read_over}
use Rattle.capnp_framing.proofs.WholenessLemmas.{keeps_whole, keeps_whole_both}
use Rattle.capnp_framing.proofs.framing.reading.read_up_to.Goals as goal

pub loop-n-preserved : goal.loop-n-preserved
loop-n-preserved g c = record {
  within = omega (arith, c.in_ok-more.ensures.bound, c.read.auto.to, c.loop-n.auto.to, c.loop-n-test.true);
  read = read_over _ _ _ c.loop-n.n c.in_ok-more.more _ c.loop-n.to c.read.new.to (omega (arith, c.loop-n.auto.to, c.loop-n-test.true)) c.in_ok-more.ensures.bound c.loop-n.invariant.read c.in_ok-more.ensures.bytes.0;
  works = search rules;
  whole = keeps_whole_both _ _ _ c.loop-n.invariant.whole c.read.ensures.whole;
}

pub loop-n-init : goal.loop-n-init
loop-n-init g c = record { within = search rules; read = search rules; works = search rules; whole = keeps_whole _ }
