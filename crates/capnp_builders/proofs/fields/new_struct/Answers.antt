use Rattle.std.proofs.Common.{arith}
use Rattle.capnp_builders.proofs.FieldPlaces.{whole_aligned}
use Rattle.capnp_builders.proofs.fields.new_struct.Goals as goal

pub overflow_add-result : goal.overflow_add-result
overflow_add-result g c =
    let arena = c.init_struct.new.arena in
    let segment = c.in-Ok.start.segment in
    record { fits = omega (arith, c.in-Ok.ensures.gives.start.inside.1, g.met.A.BuilderArena.within arena segment, g.met.A.BuilderArena.small arena segment, c.from-in-Ok-2.ensures) }

pub returns-in-Ok-clause-aligned : goal.returns-in-Ok-clause-aligned
returns-in-Ok-clause-aligned g c = λ some. whole_aligned c.from-in-Ok.result c.from.result some
