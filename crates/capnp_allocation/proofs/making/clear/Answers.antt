use Rattle.capnp_allocation.proofs.Placed.{zeroed_replaced}
use Rattle.capnp_allocation.proofs.making.clear.Goals as goal

pub returns-clause-cleared : goal.returns-clause-cleared
returns-clause-cleared g c = λ x stored. zeroed_replaced _ _ c.args.id c.args.at x c.zero_object.ensures.zeroes.zeroed stored
