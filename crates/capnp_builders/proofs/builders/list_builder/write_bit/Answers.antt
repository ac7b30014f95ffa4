use Rattle.std.proofs.Common.{arith}
use Rattle.capnp_builders.proofs.ElementFields.{bits_inside}
use Rattle.capnp_builders.proofs.builders.list_builder.write_bit.Goals as goal

pub set_bit-requires : goal.set_bit-requires
set_bit-requires g c =
    let inside = bits_inside (g.A.BuilderArena.view c.args.arena.now).words c.args.list c.args.index 1 c.requires.inside c.requires.range c.requires.wide in
    record { inside = rw (c.from.ensures, c.from-step.ensures, c.step_bits.ensures) (omega (arith, inside)) }
