use Rattle.capnp_edits.proofs.Copied.{copied_or_refused}
use Rattle.capnp_edits.proofs.laws.copied_or_refused.Goals as goal

pub returns : goal.returns
returns c = copied_or_refused
