use Rattle.capnp_packing.proofs.PackingLemmas.{tag_compared}
use Rattle.capnp_canonical.proofs.packing.tag_of.Goals as goal

pub returns : goal.returns
returns c = tag_compared c.args.word.now c.requires
