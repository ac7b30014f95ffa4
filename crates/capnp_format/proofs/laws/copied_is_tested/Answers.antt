use Rattle.capnp_format.proofs.Agreements.{copied_is_found}
use Rattle.capnp_format.proofs.laws.copied_is_tested.Goals as goal

pub returns-clause-found : goal.returns-clause-found
returns-clause-found c = copied_is_found
