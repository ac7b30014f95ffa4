use Rattle.capnp_packing.proofs.WordLemmas.{last_is}
use Rattle.capnp_packing.proofs.packing.unpacking.last_half.Goals as goal

pub returns-then-bits-lt2 : goal.returns-then-bits-lt2
returns-then-bits-lt2 c = last_is c.args.bits c.from.result c.from-then-bits-lt2.result c.args.packed.now c.if-bits-lt2.true c.type_inv.packed c.from.ensures c.from-then-bits-lt2.ensures
