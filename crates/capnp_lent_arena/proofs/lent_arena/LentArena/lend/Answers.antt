use Rattle.std.proofs.Common.{refl}
use Rattle.capnp_lent_arena.specs.LentPlace.{inside_still}
use Rattle.capnp_lent_arena.proofs.LentArenaSteps.{same_lent}
use Rattle.capnp_lent_arena.proofs.lent_arena.LentArena.lend.Goals as goal

pub invariant_of-self-lent : goal.invariant_of-self-lent
invariant_of-self-lent g c w = (inside_still g.B.Segment c.args.self.now.bytes c.args.self.now.used w c.args.self.now.inside, (c.args.self.now.small, tt))

pub returns : goal.returns
returns g c = ((refl, λ w. same_lent g.B.Segment _ _ _ _ _ _ _), record { lends = tt; now = c.prefix_mut.ensures.now })
