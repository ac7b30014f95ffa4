use Rattle.capnp_format.proofs.Levels.{one_value as law}
use Rattle.callers.proofs.AgreedLemmas.{only_value}
use Rattle.callers.proofs.agreed.one_value.Goals as goal

pub returns-clause-place : goal.returns-clause-place
returns-clause-place c = law

pub returns-clause-message : goal.returns-clause-message
returns-clause-message c = only_value
