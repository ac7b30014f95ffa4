use Rattle.capnp_edits.proofs.Filled.{filled_or_refused}
use Rattle.capnp_edits.proofs.laws.filled_or_refused.Goals as goal

pub returns : goal.returns
returns c = filled_or_refused
