use Rattle.std.proofs.Common.{rules}
use Rattle.capnp_packing.proofs.PieceLemmas.{raw_next}
use Rattle.capnp_packing.proofs.packing.pieces.unpack_raw.Goals as goal

pub returns : goal.returns
returns c = raw_next c.args.left c.min-given.result c.args.packed.now c.copy_from_slice.new.self _ c.place_after_raw.result (search rules) (search rules) (search rules) c.copy_from_slice.ensures.after c.place_after_raw.ensures
