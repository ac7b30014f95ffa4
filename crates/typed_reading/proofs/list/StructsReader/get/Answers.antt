use Rattle.typed_reading.proofs.Sections.{element_sections}
use Rattle.typed_reading.proofs.list.StructsReader.get.Goals as goal

pub returns-clause-sections : goal.returns-clause-sections
returns-clause-sections g c = λ t has.
    element_sections g.A.ReaderArena c.args.self.now.reader c.args.index c.get_struct_element.result t c.get_struct_element.ensures.element has
