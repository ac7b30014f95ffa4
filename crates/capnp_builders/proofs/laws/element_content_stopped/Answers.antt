use Rattle.capnp_builders.proofs.ElementContent.{element_content_stopped}
use Rattle.capnp_builders.proofs.laws.element_content_stopped.Goals as goal

pub returns : goal.returns
returns c = element_content_stopped
