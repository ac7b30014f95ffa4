use Rattle.capnp_pointers.proofs.Budget.TraversalAffordable.{traversed}
use Rattle.capnp_pointers.proofs.laws.pointers.traversals_within_limits.Goals as goal

pub returns : goal.returns
returns c = traversed
