use Rattle.callers.proofs.AgreedLemmas.{same_copies, same_encodings}
use Rattle.callers.proofs.agreed.same_words.Goals as goal

pub returns-clause-values : goal.returns-clause-values
returns-clause-values c = same_encodings

pub returns-clause-messages : goal.returns-clause-messages
returns-clause-messages c = same_copies
