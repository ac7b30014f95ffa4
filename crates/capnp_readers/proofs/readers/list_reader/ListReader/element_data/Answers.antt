use Rattle.capnp_readers.proofs.NumberValues.{number_value}
use Rattle.capnp_readers.proofs.readers.list_reader.ListReader.element_data.Goals as goal

pub returns-clause-value : goal.returns-clause-value
returns-clause-value g c = number_value g.A.ReaderArena c.args.self.now c.args.index c.requires c.bytes_are_below_256.ensures c.lowest_data.ensures
