use Rattle.callers.proofs.AgreedLemmas.{fresh_forest as law}
use Rattle.callers.proofs.agreed.fresh_message_is_forest.Goals as goal

pub returns : goal.returns
returns c = law
