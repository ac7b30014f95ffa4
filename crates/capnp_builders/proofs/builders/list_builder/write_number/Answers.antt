use Rattle.capnp_builders.proofs.ElementFields.{bytes_inside, number_aligned, number_written}
use Rattle.capnp_builders.proofs.builders.list_builder.write_number.Goals as goal

pub set_number-requires-clause-inside : goal.set_number-requires-clause-inside
set_number-requires-clause-inside g c =
    rw (c.from.ensures, c.from-step.ensures, c.step_bits.ensures) (bytes_inside (g.A.BuilderArena.view c.args.arena.now).words c.args.list c.args.index g.T.Primitive.BYTES c.requires.inside c.requires.range g.T.Primitive.positive c.requires.wide)

pub set_number-requires-clause-aligned : goal.set_number-requires-clause-aligned
set_number-requires-clause-aligned g c =
    rw (c.from.ensures, c.from-step.ensures, c.step_bits.ensures) (number_aligned (g.A.BuilderArena.view c.args.arena.now).words c.args.list c.args.index g.T.Primitive.BYTES c.requires.inside g.T.Primitive.positive g.T.Primitive.small g.T.Primitive.divides c.requires.wide)

pub returns-clause-written : goal.returns-clause-written
returns-clause-written g c =
    number_written (g.A.BuilderArena.view c.args.arena.now) (g.A.BuilderArena.view c.set_number.new.arena) c.args.list c.args.index g.T.Primitive.BYTES (g.T.Primitive.bits_of c.args.value) g.T.Primitive.positive c.requires.wide (rw (c.from.ensures, c.from-step.ensures, c.step_bits.ensures) at c.set_number.ensures.written)
