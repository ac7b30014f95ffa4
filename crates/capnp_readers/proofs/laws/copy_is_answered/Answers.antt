use Rattle.capnp_readers.proofs.Same.{copy_is_answered}
use Rattle.capnp_readers.proofs.laws.copy_is_answered.Goals as goal

pub returns : goal.returns
returns c = copy_is_answered
