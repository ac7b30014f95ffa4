use Rattle.capnp_readers.proofs.Same.{found_is_meant}
use Rattle.capnp_readers.proofs.laws.found_is_meant.Goals as goal

pub returns : goal.returns
returns c = found_is_meant
