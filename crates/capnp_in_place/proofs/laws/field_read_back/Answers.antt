use Rattle.capnp_in_place.proofs.Fields.BitsRead.{read_back}
use Rattle.capnp_in_place.proofs.laws.field_read_back.Goals as goal

pub returns : goal.returns
returns c = λ ws b w v there alone small. read_back ws b w v there small
