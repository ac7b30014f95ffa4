use Rattle.std.proofs.Common.{rules, arith}
use Rattle.std.proofs.lemmas.Grind.{common_steps}
use Rattle.capnp_readers.proofs.Fields.{bit_value}
use Rattle.capnp_readers.proofs.NumberValues.{bit_alone}
use Rattle.capnp_readers.proofs.readers.struct_reader.StructReader.get_bool_field.Goals as goal

pub returns-then-offset-self-clause-value : goal.returns-then-offset-self-clause-value
returns-then-offset-self-clause-value g c = λ t shows.
    bit_value g.A.ReaderArena c.args.offset c.args.self.now t c.bytes_are_below_256.ensures (first_of (search rules, grind (arith, common_steps))) shows

pub returns-then-offset-self-clause-number : goal.returns-then-offset-self-clause-number
returns-then-offset-self-clause-number g c =
    bit_alone g.A.ReaderArena c.args.offset c.args.self.now c.bytes_are_below_256.ensures (first_of (search rules, grind (arith, common_steps)))
