use Rattle.capnp_copies.proofs.Growth.{pads_apart as apart}
use Rattle.capnp_builders.proofs.laws.copies.pads_apart.Goals as goal

pub returns : goal.returns
returns c = apart
