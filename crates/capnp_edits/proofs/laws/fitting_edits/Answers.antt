use Rattle.capnp_edits.proofs.Fitting.{fitting_edits}
use Rattle.capnp_edits.proofs.laws.fitting_edits.Goals as goal

pub returns : goal.returns
returns c = fitting_edits
