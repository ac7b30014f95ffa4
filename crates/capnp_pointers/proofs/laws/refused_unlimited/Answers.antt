use Rattle.capnp_pointers.proofs.WholeValue.OutcomesAreTrue.{unlimited_refusal}
use Rattle.capnp_pointers.proofs.WholeValue.UnreadableIfRefused.{unreadable}
use Rattle.capnp_pointers.proofs.laws.refused_unlimited.Goals as goal

pub returns : goal.returns
returns c = λ form r m m' k free refused. unlimited_refusal free (unreadable refused)
