use Rattle.std.proofs.Common.{◌≡◌, ◌-◌, ◌+◌, ◌∙◌, length, drop, sym, ap, arith, true, nat_lt, length-drop, length-take}
use Rattle.std.proofs.lemmas.Bool.{and_parts}
use Rattle.capnp_packing.specs.Pieces.{takes_next, unpacked_piece}
use Rattle.capnp_packing.proofs.PieceLemmas.{none_due, reached_end, reached_first, reached_more, reached_place, reached_rest}
use Rattle.capnp_packing.proofs.packing.pieces.unpack_piece.Goals as goal

pub loop-to-init : goal.loop-to-init
loop-to-init c =
    let e = c.unpack_zeros_due-done.ensures in
    reached_first c.args.zeros c.args.place c.args.packed.now c.unpack_zeros_due-done.new.to c.unpack_zeros_due-done.result e.none e.place e.within e.all e.full e.bytes

pub loop-to-preserved : goal.loop-to-preserved
loop-to-preserved c =
    let done = c.loop-to.done in
    let to = c.loop-to.to in
    let more = sym c.takes_more.ensures ∙ c.loop-to-test.true in
    let takes : takes_next (length to) (done.given + done.zeros) done.place ≡ true = (and_parts (nat_lt done.taken (length c.args.packed.now)) (takes_next (length to) (done.given + done.zeros) done.place) more).1 in
    reached_more c.args.zeros c.args.place c.args.packed.now to c.unpack_next-next.new.to done c.unpack_next-next.result c.loop-to.invariant
    (none_due done.given done.zeros (length to) done.place c.loop-to.invariant.full takes) c.unpack_next-next.ensures
    (omega (arith, c.unpack_next-next.auto.to, length-take (length to - done.given) (drop done.given to), length-drop done.given to))

pub returns-clause-piece : goal.returns-clause-piece
returns-clause-piece c =
    let same : length c.loop-to.to ≡ length c.args.to.now = omega (arith, c.loop-to.auto.to, c.unpack_zeros_due-done.auto.to) in
    reached_end c.args.zeros c.args.place c.args.packed.now c.loop-to.to c.loop-to.done c.loop-to.invariant (sym c.takes_more.ensures ∙ c.loop-to-test.false)
    ∙ ap (λ n. unpacked_piece n c.args.zeros c.args.place c.args.packed.now) same

pub returns-clause-rest : goal.returns-clause-rest
returns-clause-rest c = reached_rest c.args.zeros c.args.place c.args.packed.now c.loop-to.to c.loop-to.done c.loop-to.invariant

pub returns-clause-end : goal.returns-clause-end
returns-clause-end c = reached_place c.args.zeros c.args.place c.args.packed.now c.loop-to.to c.loop-to.done c.loop-to.invariant
