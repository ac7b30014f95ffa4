use Rattle.capnp_builders.proofs.HeldStructs.{child_set}
use Rattle.capnp_builders.proofs.laws.child_replaced.Goals as goal

pub returns : goal.returns
returns c = child_set
