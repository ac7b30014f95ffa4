use Rattle.capnp_edits.proofs.Stepped.{step_is_there}
use Rattle.capnp_edits.proofs.laws.step_is_there.Goals as goal

pub returns : goal.returns
returns c = step_is_there
