use Rattle.capnp_pointers.proofs.Sizes.CountsTheValue.{has_size}
use Rattle.capnp_pointers.proofs.laws.pointers.values_have_sizes.Goals as goal

pub returns : goal.returns
returns c = has_size
