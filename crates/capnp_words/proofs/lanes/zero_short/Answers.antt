use Rattle.std.proofs.Common.{arith}
use Rattle.capnp_words.proofs.LaneLemmas.{zeroed_ends}
use Rattle.capnp_words.proofs.lanes.zero_short.Goals as goal

pub returns-then-n-ge32 : goal.returns-then-n-ge32
returns-then-n-ge32 c = zeroed_ends 32 c.args.bytes.now (omega arith) (omega arith)

pub returns-then-n-ge16 : goal.returns-then-n-ge16
returns-then-n-ge16 c = zeroed_ends 16 c.args.bytes.now (omega arith) (omega arith)

pub returns-then-n-ge8 : goal.returns-then-n-ge8
returns-then-n-ge8 c = zeroed_ends 8 c.args.bytes.now (omega arith) (omega arith)
