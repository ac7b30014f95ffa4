use Rattle.capnp_readers.proofs.Sections.{number_part}
use Rattle.capnp_readers.proofs.readers.list_reader.ListReader.number_element.Goals as goal

pub invariant_of-result-clause-content_is : goal.invariant_of-result-clause-content_is
invariant_of-result-clause-content_is g c =
    rw c.from.ensures (number_part g.A.ReaderArena c.args.self.now c.args.index c.requires.flat c.requires.whole c.requires.range c.data_bits_per_element-bits.ensures)
