use Rattle.callers.proofs.AgreedLemmas.{canonical_is_own_copy as law}
use Rattle.callers.proofs.agreed.canonical_is_own_copy.Goals as goal

pub returns : goal.returns
returns c = law
