use Rattle.std.proofs.Common.{◌∙◌, ◌+◌, ◌*◌, ap, arith, length, refl}
use Rattle.std.proofs.lemmas.List.{take_rest}
use Rattle.capnp_canonical.proofs.PackedLemmas.{counted_all, counted_at, long_at, size_at}
use Rattle.capnp_canonical.proofs.packing.packed_size.Goals as goal

pub returns-in_default-clause-none : goal.returns-in_default-clause-none
returns-in_default-clause-none c = λ _.
    let e = take_rest c.args.words.now c.loop-taken.taken in
    let l = long_at c.args.words.now _ c.loop-taken.taken e c.loop-taken.invariant.whole c.requires c.loop-taken-test.true in
    let n = size_at _ c.first_words-group.result.tag c.first_words-group.result.more _ l c.first_words-group.ensures.tag c.first_words-group.ensures.more c.packed_size.ensures in
    let sum = counted_at c.args.words.now _ c.loop-taken.taken _ c.loop-taken.size _ (c.loop-taken.size + c.packed_size.result) e l (ap (λ m. 8 + 8 * m) c.first_words-group.ensures.more) n refl c.loop-taken.invariant.size in
    omega (arith, sum, c.in_default.ensures)

pub loop-taken-preserved : goal.loop-taken-preserved
loop-taken-preserved c =
    let e = take_rest c.args.words.now c.loop-taken.taken in
    let l = long_at c.args.words.now _ c.loop-taken.taken e c.loop-taken.invariant.whole c.requires c.loop-taken-test.true in
    let n = size_at _ c.first_words-group.result.tag c.first_words-group.result.more _ l c.first_words-group.ensures.tag c.first_words-group.ensures.more c.packed_size.ensures in
    record {
      size = counted_at c.args.words.now _ c.loop-taken.taken _ c.loop-taken.size _ _ e l (c.unpacked_size-taken.ensures ∙ ap (λ m. 8 + 8 * m) c.first_words-group.ensures.more) n c.in-Some.ensures.1 c.loop-taken.invariant.size;
      whole = omega (arith, c.loop-taken.invariant.whole, c.unpacked_size-taken.ensures);
      within = omega (arith, c.first_words-group.ensures.within, c.unpacked_size-taken.ensures, ap length e);
    }

pub returns-clause-size : goal.returns-clause-size
returns-clause-size c = counted_all c.args.words.now c.loop-taken.taken c.loop-taken.size c.loop-taken-test.false c.loop-taken.invariant.size
