use Rattle.std.proofs.Common.{arith}
use Rattle.capnp_packing.proofs.SliceLemmas.{parts_long, rest_room, slice_filled, zeros_at}
use Rattle.capnp_packing.proofs.packing.to_slice.unpack_to_slice.Goals as goal

pub clamp_to_room-behind-requires : goal.clamp_to_room-behind-requires
clamp_to_room-behind-requires c = omega (arith, parts_long c.args.packed.now c.unpack_words-front.new.to c.unpack_words-front.result.taken c.unpack_words-front.result.given c.unpack_words-front.result.zeros c.unpack_words-front.result.place c.unpack_words-front.ensures.within c.unpack_words-front.ensures.leads, c.requires, c.unpack_words-front.auto.to)

pub slice_bounds-fill_with_zeros-end : goal.slice_bounds-fill_with_zeros-end
slice_bounds-fill_with_zeros-end c = omega (arith, parts_long c.args.packed.now c.unpack_words-front.new.to c.unpack_words-front.result.taken c.unpack_words-front.result.given c.unpack_words-front.result.zeros c.unpack_words-front.result.place c.unpack_words-front.ensures.within c.unpack_words-front.ensures.leads, c.requires, c.unpack_words-front.auto.to, c.clamp_to_room-behind.ensures)

pub unpack_bytes-requires-2 : goal.unpack_bytes-requires-2
unpack_bytes-requires-2 c =
    let parts = parts_long c.args.packed.now c.unpack_words-front.new.to c.unpack_words-front.result.taken c.unpack_words-front.result.given c.unpack_words-front.result.zeros c.unpack_words-front.result.place c.unpack_words-front.ensures.within c.unpack_words-front.ensures.leads in
    rw c.clamp_to_room-behind.ensures
    (rest_room c.args.packed.now c.unpack_words-front.new.to c.fill_with_zeros.new.to c.unpack_words-front.result.taken c.unpack_words-front.result.given c.unpack_words-front.result.zeros _ c.unpack_words-front.result.place c.unpack_words-front.ensures.within (omega arith)
    (zeros_at c.unpack_words-front.new.to c.fill_with_zeros.new.to c.unpack_words-front.result.given c.unpack_words-front.result.zeros (omega (arith, parts, c.requires, c.unpack_words-front.auto.to)) (rw c.clamp_to_room-behind.ensures at c.fill_with_zeros.ensures))
    (omega (arith, c.requires, c.unpack_words-front.auto.to)) c.unpack_words-front.ensures.leads)

pub returns : goal.returns
returns c =
    let parts = parts_long c.args.packed.now c.unpack_words-front.new.to c.unpack_words-front.result.taken c.unpack_words-front.result.given c.unpack_words-front.result.zeros c.unpack_words-front.result.place c.unpack_words-front.ensures.within c.unpack_words-front.ensures.leads in
    rw c.clamp_to_room-behind.ensures
    (slice_filled c.args.packed.now c.unpack_words-front.new.to c.fill_with_zeros.new.to c.unpack_bytes-2.new.to c.unpack_words-front.result.taken c.unpack_words-front.result.given c.unpack_words-front.result.zeros _ _ c.unpack_words-front.result.place c.unpack_words-front.ensures.within
    (zeros_at c.unpack_words-front.new.to c.fill_with_zeros.new.to c.unpack_words-front.result.given c.unpack_words-front.result.zeros (omega (arith, parts, c.requires, c.unpack_words-front.auto.to)) (rw c.clamp_to_room-behind.ensures at c.fill_with_zeros.ensures))
    c.unpack_bytes-2.ensures (omega arith) c.unpack_words-front.ensures.leads)
