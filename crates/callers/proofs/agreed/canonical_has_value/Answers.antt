use Rattle.capnp_messages.proofs.CanonicalMessageLemmas.{means_its_value}
use Rattle.callers.proofs.AgreedLemmas.{canonical_has_value as law}
use Rattle.callers.proofs.agreed.canonical_has_value.Goals as goal

pub returns-clause-means : goal.returns-clause-means
returns-clause-means c = means_its_value

pub returns-clause-value : goal.returns-clause-value
returns-clause-value c = law
