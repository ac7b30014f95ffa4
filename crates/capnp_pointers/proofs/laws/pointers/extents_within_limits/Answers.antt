use Rattle.capnp_pointers.proofs.Validation.ExtentWithinLimits.{within_limits}
use Rattle.capnp_pointers.proofs.laws.pointers.extents_within_limits.Goals as goal

pub returns : goal.returns
returns c = within_limits
