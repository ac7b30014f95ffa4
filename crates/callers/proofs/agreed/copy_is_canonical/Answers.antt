use Rattle.callers.proofs.AgreedLemmas.{copy_is_canonical as law}
use Rattle.callers.proofs.agreed.copy_is_canonical.Goals as goal

pub returns : goal.returns
returns c = law
