use Rattle.capnp_copies.proofs.Growth.{few_taken as covered}
use Rattle.capnp_builders.proofs.laws.copies.few_taken.Goals as goal

pub returns : goal.returns
returns c = covered
