use Rattle.capnp_pointers.proofs.Budget.TraversalAffordable.{leads_to_other}
use Rattle.capnp_pointers.proofs.laws.pointers.refused_as_unexpected.Goals as goal

pub returns : goal.returns
returns c = leads_to_other
