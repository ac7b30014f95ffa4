use Rattle.capnp_builders.proofs.ElementFields.{bytes_inside, number_aligned, number_read}
use Rattle.capnp_builders.proofs.builders.list_builder.ListBuilder.get_number_at.Goals as goal

pub get_number-requires-clause-inside : goal.get_number-requires-clause-inside
get_number-requires-clause-inside g c =
    rw (c.from.ensures, c.from-step.ensures, c.step_bits.ensures) (bytes_inside (g.A.BuilderArena.view c.args.self.now.arena.now).words c.args.self.now.place c.args.index g.T.Primitive.BYTES c.requires.inside c.requires.range g.T.Primitive.positive c.requires.wide)

pub get_number-requires-clause-aligned : goal.get_number-requires-clause-aligned
get_number-requires-clause-aligned g c =
    rw (c.from.ensures, c.from-step.ensures, c.step_bits.ensures) (number_aligned (g.A.BuilderArena.view c.args.self.now.arena.now).words c.args.self.now.place c.args.index g.T.Primitive.BYTES c.requires.inside g.T.Primitive.positive g.T.Primitive.small g.T.Primitive.divides c.requires.wide)

pub returns : goal.returns
returns g c =
    number_read (g.A.BuilderArena.view c.args.self.now.arena.now) c.args.self.now.place c.args.index g.T.Primitive.BYTES (g.T.Primitive.bits_of c.get_number.result) g.T.Primitive.positive c.requires.wide (rw (c.from.ensures, c.from-step.ensures, c.step_bits.ensures) at c.get_number.ensures)
