use Rattle.std.proofs.Common.{◌≡◌, ◌∙◌, ◌+◌, ◌*◌, min, ap, arith}
use Rattle.std.proofs.lemmas.List.{length-set}
use Rattle.capnp_framing.specs.Reading.{words_told}
use Rattle.capnp_framing.proofs.FlatLemmas.{kept_more}
use Rattle.capnp_framing.proofs.framing.flat.segment_starts.Goals as goal

pub loop-k-preserved : goal.loop-k-preserved
loop-k-preserved c =
    let next : c.min.result ≡ min (32 * (c.loop-k.k + 1)) c.args.count = omega (arith, c.min.ensures) in
    let here : min (32 * c.loop-k.k) c.args.count ≡ 32 * c.loop-k.k = omega (arith, c.loop-k-test.true) in
    let told_here = ap (λ n. words_told n c.args.table.now) here in
    let told_next = ap (λ n. words_told n c.args.table.now) next in
    record {
      sum = omega (arith, c.loop-k.invariant.sum, c.words_between-sum.ensures.sum, told_here, told_next);
      small = omega (arith, c.loop-k.invariant.small, c.words_between-sum.ensures.small, next, here);
      long = length-set c.loop-k.starts c.loop-k.k c.loop-k.sum ∙ c.loop-k.invariant.long;
      kept = kept_more c.args.table.now c.loop-k.starts c.loop-k.k c.loop-k.sum (omega (arith, c.loop-k.invariant.long, c.loop-k.auto.k-end, c.loop-k-test.true, c.requires.few)) (c.loop-k.invariant.sum ∙ told_here) (omega (arith, c.loop-k.invariant.small, here)) c.loop-k.invariant.kept;
    }
