use Rattle.capnp_in_place.proofs.Fields.BitsRead.{other_stays}
use Rattle.capnp_in_place.proofs.laws.other_fields_stay.Goals as goal

pub returns : goal.returns
returns c = λ ws b w v c x there alone small within apart. other_stays ws b w v c x there small apart
