use Rattle.std.proofs.Common.{◌+◌, ◌∙◌, ◌≤◌, Some, None, length, sym, arith}
use Rattle.capnp_packing.proofs.SliceLemmas.{given_long, none_put, some_put}
use Rattle.capnp_packing.proofs.packing.to_slice.unpack_to_front.Goals as goal

pub returns-in-Some-clause-bytes : goal.returns-in-Some-clause-bytes
returns-in-Some-clause-bytes c =
    let itself = sym c.in-Some.is ∙ c.step-taken.ensures.byte in
    let room : 1 + c.step-taken.result.zeros ≤ length c.args.to.now =
    omega (arith, given_long c.args.place c.args.byte c.step-taken.result.zeros (Some c.in-Some.itself) itself c.step-taken.ensures.zeros, c.requires) in
    rw (c.clamp_to_room-count.ensures, c.clamp_to_room.ensures, c.write_first.ensures)
    (some_put c.args.place c.args.byte c.in-Some.itself c.step-taken.result.zeros _ c.args.to.now c.fill_with_zeros.new.to room itself c.step-taken.ensures.zeros (rw (c.clamp_to_room-count.ensures, c.clamp_to_room.ensures, c.write_first.ensures) at c.fill_with_zeros.ensures))

pub returns-in-None-clause-bytes : goal.returns-in-None-clause-bytes
returns-in-None-clause-bytes c =
    let none = sym c.in-None.is ∙ c.step-taken.ensures.byte in
    let room : c.step-taken.result.zeros ≤ length c.args.to.now =
    omega (arith, given_long c.args.place c.args.byte c.step-taken.result.zeros None none c.step-taken.ensures.zeros, c.requires) in
    rw c.clamp_to_room-count-in-None.ensures
    (none_put c.args.place c.args.byte c.step-taken.result.zeros c.fill_with_zeros-in-None.new.to _ c.args.to.now room none c.step-taken.ensures.zeros (rw c.clamp_to_room-count-in-None.ensures at c.fill_with_zeros-in-None.ensures))

pub clamp_to_room-count-requires : goal.clamp_to_room-count-requires
clamp_to_room-count-requires c =
    let itself = sym c.in-Some.is ∙ c.step-taken.ensures.byte in
    omega (arith, given_long c.args.place c.args.byte c.step-taken.result.zeros (Some c.in-Some.itself) itself c.step-taken.ensures.zeros, c.requires)

pub clamp_to_room-count-requires-in-None : goal.clamp_to_room-count-requires-in-None
clamp_to_room-count-requires-in-None c =
    let none = sym c.in-None.is ∙ c.step-taken.ensures.byte in
    omega (arith, given_long c.args.place c.args.byte c.step-taken.result.zeros None none c.step-taken.ensures.zeros, c.requires)
