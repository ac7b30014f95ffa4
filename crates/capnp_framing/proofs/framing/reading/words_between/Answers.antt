use Rattle.std.proofs.Common.{arith}
use Rattle.capnp_framing.proofs.ReadingLemmas.{told_more}
use Rattle.capnp_framing.proofs.framing.reading.words_between.Goals as goal

pub loop-i-preserved : goal.loop-i-preserved
loop-i-preserved c = record {
  sum = omega (arith, c.loop-i.invariant.sum, c.number_at.ensures, told_more c.loop-i.i c.args.table.now);
  small = omega (arith, c.loop-i.invariant.small, c.ranges);
}
