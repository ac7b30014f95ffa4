use Rattle.std.proofs.Common.{rules, arith}
use Rattle.capnp_readers.proofs.Elements.{number_within}
use Rattle.capnp_readers.proofs.NumberValues.{low_number}
use Rattle.capnp_readers.proofs.readers.list_reader.ListReader.number_at.Goals as goal

pub slice_bounds-load-end : goal.slice_bounds-load-end
slice_bounds-load-end g c =
    let within = number_within g.A.ReaderArena c.args.self.now c.requires.range g.T.Primitive.positive c.requires.wide c.step_bits-step.ensures in
    rw c.BYTES-n.ensures (search (rules, within.0))

pub returns-clause-value : goal.returns-clause-value
returns-clause-value g c =
    let within = number_within g.A.ReaderArena c.args.self.now c.requires.range g.T.Primitive.positive c.requires.wide c.step_bits-step.ensures in
    rw within.1 (rw c.BYTES-n.ensures at c.load.ensures.value)

pub returns-clause-little_endian : goal.returns-clause-little_endian
returns-clause-little_endian g c =
    let within = number_within g.A.ReaderArena c.args.self.now c.requires.range g.T.Primitive.positive c.requires.wide c.step_bits-step.ensures in
    rw within.1 (rw c.BYTES-n.ensures at c.load.ensures.little_endian)

pub returns-clause-number : goal.returns-clause-number
returns-clause-number g c =
    let within = number_within g.A.ReaderArena c.args.self.now c.requires.range g.T.Primitive.positive c.requires.wide c.step_bits-step.ensures in
    low_number g.A.ReaderArena c.args.self.now c.args.index g.T.Primitive.BYTES c.requires.range g.T.Primitive.positive g.T.Primitive.small c.requires.wide c.bytes_are_below_256.ensures (omega (arith, within.0, within.1)) (returns-clause-little_endian g c)
