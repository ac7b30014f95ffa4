use Rattle.std.proofs.Common.{rules, arith}
use Rattle.std.proofs.lemmas.Grind.{common_steps}
use Rattle.capnp_readers.proofs.ListValues.{element_value}
use Rattle.capnp_readers.proofs.NumberValues.{element_alone}
use Rattle.capnp_readers.proofs.readers.list_reader.ListReader.get_struct_element.Goals as goal

pub returns-clause-value : goal.returns-clause-value
returns-clause-value g c =
    let made = c.element_with_limit.ensures in
    element_value g.A.ReaderArena c.args.self.now c.args.index c.element_with_limit.result c.requires.range made.element made.source (first_of (search rules, grind (arith, common_steps)))

pub returns-clause-number : goal.returns-clause-number
returns-clause-number g c = element_alone g.A.ReaderArena c.args.self.now c.args.index c.element_with_limit.result c.requires.range c.requires.size c.bytes_are_below_256.ensures c.element_with_limit.ensures.element
