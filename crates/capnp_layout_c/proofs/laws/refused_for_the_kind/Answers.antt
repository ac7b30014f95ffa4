use Rattle.capnp_layout_c.proofs.Unlimited.{for_its_kind}
use Rattle.capnp_layout_c.proofs.laws.refused_for_the_kind.Goals as goal

pub returns : goal.returns
returns c = for_its_kind
