use Rattle.std.proofs.Common.{◌∙◌, ◌+◌, ◌*◌, ap, arith, length, refl, sym}
use Rattle.std.proofs.lemmas.List.{take_rest}
use Rattle.capnp_canonical.proofs.PackedLemmas.{counted_at, long_at, written_all, written_at}
use Rattle.capnp_canonical.proofs.packing.pack_to_slice.Goals as goal

pub put_group-given-requires-clause-room : goal.put_group-given-requires-clause-room
put_group-given-requires-clause-room c =
    let e = take_rest c.args.words.now c.loop-taken.taken in
    let l = long_at c.args.words.now _ c.loop-taken.taken e c.loop-taken.invariant.whole c.requires.whole c.loop-taken-test.true in
    let sum = counted_at c.args.words.now _ c.loop-taken.taken _ c.loop-taken.given _ _ e l refl refl refl c.loop-taken.invariant.room in
    omega (arith, sum, c.requires.room, c.loop-taken.auto.to)

pub loop-taken-preserved : goal.loop-taken-preserved
loop-taken-preserved c =
    let e = take_rest c.args.words.now c.loop-taken.taken in
    let l = long_at c.args.words.now _ c.loop-taken.taken e c.loop-taken.invariant.whole c.requires.whole c.loop-taken-test.true in
    let k = c.unpacked_size-taken.ensures ∙ ap (λ m. 8 + 8 * m) c.first_words-group.ensures.more in
    record {
      packed = written_at c.args.words.now _ c.loop-taken.taken _ c.loop-taken.given _ c.loop-taken.to _ e l k c.put_group-given.ensures.put c.loop-taken.invariant.packed;
      whole = omega (arith, c.loop-taken.invariant.whole, c.unpacked_size-taken.ensures);
      within = omega (arith, c.first_words-group.ensures.within, c.unpacked_size-taken.ensures, ap length e);
      room = counted_at c.args.words.now _ c.loop-taken.taken _ c.loop-taken.given _ _ e l k refl c.put_group-given.ensures.all c.loop-taken.invariant.room;
    }

pub returns : goal.returns
returns c = written_all c.args.words.now c.loop-taken.to c.loop-taken.taken c.loop-taken.given c.loop-taken-test.false (c.requires.room ∙ sym c.loop-taken.auto.to) c.loop-taken.invariant.packed c.loop-taken.invariant.room
