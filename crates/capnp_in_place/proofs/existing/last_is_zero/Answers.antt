use Rattle.std.proofs.Common.{arith}
use Rattle.capnp_format.proofs.WordsOf.{words}
use Rattle.capnp_in_place.proofs.ByteLists.LastByte.{last_byte}
use Rattle.capnp_in_place.proofs.existing.last_is_zero.Goals as goal

pub returns-then-last-segment-clause-ends : goal.returns-then-last-segment-clause-ends
returns-then-last-segment-clause-ends c = λ there. last_byte c.args.start c.args.count c.args.segment.now (λ i. omega (arith, c.type_inv.segment i)) (omega arith) there

-- This case can't occur: the last byte is inside the words.
pub returns-else-last-segment-clause-ends : goal.returns-else-last-segment-clause-ends
returns-else-last-segment-clause-ends c = λ there. absurd (omega (arith, words c.args.segment.now))
