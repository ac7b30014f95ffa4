use Rattle.callers.proofs.TrulyLemmas.{steps_truly}
use Rattle.callers.proofs.theorem.apply_edits.Goals as goal

pub returns-clause-refused : goal.returns-clause-refused
returns-clause-refused g c = steps_truly _ _ c.args.edits.now c.apply_all.new.outcomes c.apply_all.ensures.steps
