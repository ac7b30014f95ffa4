use Rattle.capnp_in_place.proofs.Fields.FieldWritten.{element_field_written}
use Rattle.capnp_in_place.proofs.laws.element_field_written.Goals as goal

pub returns : goal.returns
returns c = element_field_written
