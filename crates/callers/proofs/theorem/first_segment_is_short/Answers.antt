use Rattle.std.proofs.Common.{arith}
use Rattle.callers.proofs.theorem.first_segment_is_short.Goals as goal

pub returns : goal.returns
returns g c = omega (arith, g.met.A.BuilderArena.within c.args.made.now 0, g.met.A.BuilderArena.small c.args.made.now 0)
