use Rattle.std.proofs.Common.{◌/◌, ℕ, List, length, sym, ap, ◌∙◌, arith, take_all}
use Rattle.capnp_format.specs.Bytes.{words_of}
use Rattle.capnp_format.specs.Canonical.{used_words}
use Rattle.capnp_format.proofs.WordsOf.{words}
use Rattle.capnp_words.proofs.LaneLemmas.{used_before_block}
use Rattle.capnp_words.proofs.lanes.used_words_bound.Goals as goal

pub loop-end-init : goal.loop-end-init
loop-end-init c =
    let bs : List ℕ = c.args.bytes.now in
    record { within = omega arith; used = ap used_words (sym (take_all (length bs / 8) (words_of bs) (omega (arith, words bs)))) }

pub loop-end-preserved : goal.loop-end-preserved
loop-end-preserved c = record {
  within = omega (arith, c.loop-end.invariant.within);
  used = c.loop-end.invariant.used ∙ used_before_block c.loop-end.end c.args.bytes.now (omega arith) c.loop-end.invariant.within (c.is_block_zero.ensures.0 c.if-not-is_block_zero.false);
}
