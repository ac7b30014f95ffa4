use Rattle.capnp_layout_c.proofs.Children.{child_there}
use Rattle.capnp_layout_c.proofs.laws.children_are_there.Goals as goal

pub returns : goal.returns
returns c = child_there
