use Rattle.capnp_builders.proofs.ContentTaken.{content_stopped}
use Rattle.capnp_builders.proofs.laws.content_stopped.Goals as goal

pub returns : goal.returns
returns c = content_stopped
