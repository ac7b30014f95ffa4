use Rattle.capnp_packing.proofs.WordLemmas.{half_is}
use Rattle.capnp_packing.proofs.packing.unpacking.half_word.Goals as goal

pub returns : goal.returns
returns c = half_is c.args.bits c.from.result c.from-2.result c.from-3.result c.from-4.result c.args.packed.now c.requires.bits c.requires.packed c.type_inv.packed c.from.ensures c.from-2.ensures c.from-3.ensures c.from-4.ensures
