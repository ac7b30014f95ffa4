use Rattle.std.proofs.Common.{refl}
use Rattle.capnp_arena.specs.ClearLemmas.{clear_behind}
use Rattle.capnp_arena.proofs.RowLemmas.{same_rows}
use Rattle.capnp_arena.proofs.arena.row.Row.allocated_mut.Goals as goal

pub invariant_of-self-lent : goal.invariant_of-self-lent
invariant_of-self-lent g c w = (clear_behind g.S.Segment c.args.self.now w, tt)

pub returns : goal.returns
returns g c = ((refl, λ w. same_rows g.S.Segment _ _ _ _ _), record { lends = tt; now = c.prefix_mut.ensures.now })
