use Rattle.capnp_builders.proofs.ContentTaken.{content_taken}
use Rattle.capnp_builders.proofs.laws.content_taken.Goals as goal

pub returns : goal.returns
returns c = content_taken
