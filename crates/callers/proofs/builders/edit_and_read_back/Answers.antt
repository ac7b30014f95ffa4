use Rattle.callers.proofs.ReadBack.{read_after}
use Rattle.callers.proofs.builders.edit_and_read_back.Goals as goal

pub returns-clause-meant : goal.returns-clause-meant
returns-clause-meant g c = read_after c.read_back.result _ _ _ _ _ c.apply_all.ensures.applied c.read_back.ensures.same
