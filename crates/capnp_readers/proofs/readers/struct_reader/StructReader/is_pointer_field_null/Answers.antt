use Rattle.capnp_readers.specs.Readers.{read_by}
use Rattle.capnp_readers.specs.Values.{child_cost}
use Rattle.capnp_readers.proofs.Stays.{null_value}
use Rattle.capnp_readers.proofs.readers.struct_reader.StructReader.is_pointer_field_null.Goals as goal

pub returns-clause-value : goal.returns-clause-value
returns-clause-value g c = λ t shows. null_value c.is_null.result (read_by g.A.ReaderArena c.get_pointer_field.result) _ (child_cost g.A.ReaderArena shows c.args.index) c.is_null.ensures (c.get_pointer_field.ensures.means t shows)
