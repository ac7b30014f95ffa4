use Rattle.capnp_in_place.proofs.Fields.FieldWritten.{data_field_written}
use Rattle.capnp_in_place.proofs.laws.struct_field_written.Goals as goal

pub returns : goal.returns
returns c = data_field_written
