use Rattle.std.proofs.Common.{rules, arith}
use Rattle.std.proofs.lemmas.Grind.{common_steps}
use Rattle.capnp_readers.proofs.Elements.{bit_within}
use Rattle.capnp_readers.proofs.NumberValues.{bit_number}
use Rattle.capnp_readers.proofs.readers.list_reader.ListReader.bit_at.Goals as goal

pub bounds-self-at : goal.bounds-self-at
bounds-self-at g c = bit_within g.A.ReaderArena c.args.self.now c.requires.range c.requires.wide c.step_bits.ensures

pub returns-clause-number : goal.returns-clause-number
returns-clause-number g c = bit_number g.A.ReaderArena c.args.self.now c.args.index _ c.requires.range c.requires.wide c.bytes_are_below_256.ensures (first_of (search rules, grind (arith, common_steps)))
