use Rattle.std.proofs.Common.{arith}
use Rattle.std.proofs.lemmas.List.{take_rest}
use Rattle.capnp_words.proofs.LaneLemmas.{zero_so_far, not_zero, zero_behind}
use Rattle.capnp_words.proofs.lanes.is_zero_by_words.Goals as goal

pub returns-then-not-is_word_zero : goal.returns-then-not-is_word_zero
returns-then-not-is_word_zero c = not_zero c.loop-at.at 8 c.args.bytes.now c.is_word_zero.ensures c.if-not-is_word_zero.true

pub loop-at-preserved : goal.loop-at-preserved
loop-at-preserved c = record {
  inside = omega arith;
  seen = zero_so_far c.loop-at.at 8 c.args.bytes.now c.loop-at.invariant.seen (c.is_word_zero.ensures.0 c.if-not-is_word_zero.false);
}

pub returns : goal.returns
returns c = zero_behind c.loop-at.at c.args.bytes.now c.loop-at.invariant.seen (take_rest c.args.bytes.now c.loop-at.at) c.is_zero_by_bytes.ensures
