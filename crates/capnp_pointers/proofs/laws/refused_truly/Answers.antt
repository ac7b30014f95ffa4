use Rattle.capnp_pointers.proofs.WholeValue.OutcomesAreTrue.{named_truly}
use Rattle.capnp_pointers.proofs.WholeValue.RefusalsNamed.{limit_named}
use Rattle.capnp_pointers.proofs.WholeValue.UnreadableIfRefused.{unreadable}
use Rattle.capnp_pointers.proofs.laws.refused_truly.Goals as goal

pub returns-clause-named : goal.returns-clause-named
returns-clause-named c = λ form r m m' k refused. named_truly (unreadable refused)

pub returns-clause-limit : goal.returns-clause-limit
returns-clause-limit c = λ form r m m' refused. limit_named (unreadable refused)
