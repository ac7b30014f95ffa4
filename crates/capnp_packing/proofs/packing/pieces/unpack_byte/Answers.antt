use Rattle.std.proofs.Common.{◌-◌, ◌∙◌, length, sym, arith, drop, set, length-drop, length-take, List, ℕ}
use Rattle.capnp_packing.proofs.PieceLemmas.{none_next, some_next}
use Rattle.capnp_packing.proofs.packing.pieces.unpack_byte.Goals as goal

pub returns-in-Some : goal.returns-in-Some
returns-in-Some c =
    let zeros = c.unpack_zeros_due-zeros in
    let put : List ℕ = set c.args.to.now 0 c.in-Some.byte in
    some_next c.args.place zeros.result.place c.args.packed c.in-Some.byte c.step-unpacked.result.zeros zeros.result.given zeros.result.zeros c.args.to.now zeros.new.to c.requires
    (sym c.in-Some.is ∙ c.step-unpacked.ensures.byte) c.step-unpacked.ensures.zeros (zeros.ensures.place ∙ c.step-unpacked.ensures.place)
    (omega (arith, zeros.auto.to, length-take (length put - 1) (drop 1 put), length-drop 1 put))
    zeros.ensures.within zeros.ensures.all zeros.ensures.full zeros.ensures.bytes

pub returns-in-None : goal.returns-in-None
returns-in-None c =
    let zeros = c.unpack_zeros_due-zeros-in-None in
    none_next c.args.place zeros.result.place c.args.packed c.step-unpacked.result.zeros zeros.result.given zeros.result.zeros c.args.to.now zeros.new.to c.requires
    (sym c.in-None.is ∙ c.step-unpacked.ensures.byte) c.step-unpacked.ensures.zeros (zeros.ensures.place ∙ c.step-unpacked.ensures.place)
    (omega (arith, zeros.auto.to)) zeros.ensures.within zeros.ensures.all zeros.ensures.full zeros.ensures.bytes
