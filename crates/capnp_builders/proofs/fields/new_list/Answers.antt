use Rattle.capnp_allocation.proofs.Taken.{leads_to_end}
use Rattle.capnp_builders.proofs.fields.new_list.Goals as goal

-- The returned place is where the pointer leads.
pub returns-clause-at_end : goal.returns-clause-at_end
returns-clause-at_end g c =
    leads_to_end (g.A.BuilderArena.view c.args.arena.now) (g.A.BuilderArena.view c.init_list.new.arena) c.args.id c.args.at _ c.in_ok-start.start c.in_ok-start.ensures.gives.start.leads c.in_ok-start.ensures.at_end
