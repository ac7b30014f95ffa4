use Rattle.std.proofs.Common.{◌*◌, ap, arith}
use Rattle.std.proofs.lemmas.List.{take_rest}
use Rattle.std.specs.Int.RustNames.{count_ones}
use Rattle.capnp_canonical.proofs.PackedLemmas.{has_less, has_more, has_no_word, run_ends, run_full, run_goes}
use Rattle.capnp_canonical.proofs.packing.leading_words.Goals as goal

pub loop-n-preserved : goal.loop-n-preserved
loop-n-preserved c =
    let rest = take_rest c.args.bytes.now (8 * c.loop-n.n) in
    record {
      run = run_goes 255 c.args.least c.args.most c.loop-n.n _ c.args.bytes.now _ rest c.loop-n-test.true c.if-rest-lt8.false (ap count_ones c.tag_of-ones.ensures) c.if-ones-least.false c.if-most-ones.false c.loop-n.invariant.run;
      within = omega (arith, c.loop-n.invariant.within, c.if-rest-lt8.false);
    }

pub returns-after-loop-n : goal.returns-after-loop-n
returns-after-loop-n c = run_full 255 c.args.least c.args.most c.loop-n.n c.args.bytes.now c.loop-n-test.false c.loop-n.invariant.run

pub returns-then-rest-lt8 : goal.returns-then-rest-lt8
returns-then-rest-lt8 c = run_ends 255 c.args.least c.args.most c.loop-n.n c.args.bytes.now _ (take_rest c.args.bytes.now (8 * c.loop-n.n)) (has_no_word c.args.least c.args.most _ c.if-rest-lt8.true) c.loop-n.invariant.run

pub returns-then-ones-least : goal.returns-then-ones-least
returns-then-ones-least c = run_ends 255 c.args.least c.args.most c.loop-n.n c.args.bytes.now _ (take_rest c.args.bytes.now (8 * c.loop-n.n)) (has_less c.args.least c.args.most _ (omega (arith, c.if-ones-least.true, ap count_ones c.tag_of-ones.ensures))) c.loop-n.invariant.run

pub returns-then-most-ones : goal.returns-then-most-ones
returns-then-most-ones c = run_ends 255 c.args.least c.args.most c.loop-n.n c.args.bytes.now _ (take_rest c.args.bytes.now (8 * c.loop-n.n)) (has_more c.args.least c.args.most _ (omega (arith, c.if-most-ones.true, ap count_ones c.tag_of-ones.ensures))) c.loop-n.invariant.run
