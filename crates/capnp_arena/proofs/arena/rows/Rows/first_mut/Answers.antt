use Rattle.std.proofs.Common.{refl}
use Rattle.capnp_arena.specs.Row.{with_allocated}
use Rattle.capnp_arena.proofs.LentLemmas.{lent_first}
use Rattle.capnp_arena.proofs.arena.rows.Rows.first_mut.Goals as goal

pub returns : goal.returns
returns g c = ((refl, λ w. lent_first g.S.Segment c.args.self.now (with_allocated g.S.Segment c.args.self.now.first w) _ _), record { lends = tt; now = c.allocated_mut.ensures.now })
