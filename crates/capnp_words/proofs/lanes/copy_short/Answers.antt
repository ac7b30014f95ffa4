use Rattle.std.proofs.Common.{arith}
use Rattle.capnp_words.proofs.LaneLemmas.{copied_ends}
use Rattle.capnp_words.proofs.lanes.copy_short.Goals as goal

pub returns-then-n-ge32 : goal.returns-then-n-ge32
returns-then-n-ge32 c = copied_ends 32 c.args.from.now c.args.to.now c.requires.same (omega arith) (omega arith)

pub returns-then-n-ge16 : goal.returns-then-n-ge16
returns-then-n-ge16 c = copied_ends 16 c.args.from.now c.args.to.now c.requires.same (omega arith) (omega arith)

pub returns-then-n-ge8 : goal.returns-then-n-ge8
returns-then-n-ge8 c = copied_ends 8 c.args.from.now c.args.to.now c.requires.same (omega arith) (omega arith)
