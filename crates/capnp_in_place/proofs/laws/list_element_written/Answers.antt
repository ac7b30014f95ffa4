use Rattle.capnp_in_place.proofs.Fields.FieldWritten.{flat_element_written}
use Rattle.capnp_in_place.proofs.laws.list_element_written.Goals as goal

pub returns : goal.returns
returns c = flat_element_written
