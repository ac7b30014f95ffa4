use Rattle.callers.proofs.AgreedLemmas.{no_value_begins, none_begins}
use Rattle.callers.proofs.agreed.no_words_begin_others.Goals as goal

pub returns-clause-values : goal.returns-clause-values
returns-clause-values c = no_value_begins

pub returns-clause-messages : goal.returns-clause-messages
returns-clause-messages c = none_begins
