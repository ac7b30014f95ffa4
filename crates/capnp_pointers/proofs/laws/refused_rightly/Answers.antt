use Rattle.capnp_pointers.proofs.WholeValue.UnreadableIfRefused.{unreadable}
use Rattle.capnp_pointers.proofs.laws.refused_rightly.Goals as goal

pub returns : goal.returns
returns c = λ form r m m' k refused. (unreadable refused).only
