use Rattle.std.proofs.Common.{◌≡◌, ◌+◌, ◌-◌, ◌*◌, length, take, drop, sym, ◌∙◌, ap, arith, rules, length-take, length-drop}
use Rattle.capnp_packing.proofs.PackingLemmas.{zeros_more}
use Rattle.capnp_packing.proofs.packing.words.leading_zero_words.Goals as goal

pub loop-n-preserved : goal.loop-n-preserved
loop-n-preserved c =
    let n = c.loop-n.n in
    let size : (8 * c.loop-n.n + 8) - 8 * c.loop-n.n ≡ 8 = omega arith in
    let long : length (take 8 (drop (8 * c.loop-n.n) c.args.bytes.now)) ≡ 8 = omega (arith, length-take 8 (drop (8 * c.loop-n.n) c.args.bytes.now), length-drop (8 * c.loop-n.n) c.args.bytes.now, c.if-bytes-n.true) in
    record {
      within = search rules;
      zeros = zeros_more c.args.bytes.now _ c.loop-n.n (ap (λ k. take k (drop (8 * c.loop-n.n) c.args.bytes.now)) size) (sym c.tag_of.ensures ∙ c.if-tag_of-ne0.false) (ap (λ k. length (take k (drop (8 * c.loop-n.n) c.args.bytes.now))) size ∙ long) c.loop-n.invariant.zeros;
    }
