use Rattle.std.proofs.Common.{sym}
use Rattle.capnp_builders.proofs.FoundLists.{given_inside}
use Rattle.capnp_builders.proofs.builders.found.find_list.Goals as goal

-- A stored value is inside the message.
pub returns-clause-inside : goal.returns-clause-inside
returns-clause-inside g c = λ t stored.
    given_inside (g.A.BuilderArena.view c.args.arena.now).words c.args.id c.args.at c.args.size t c.in_ok-found.found c.found_list.result c.requires.place stored (sym (c.in_ok-found.ensures.found t stored)) c.found_list.ensures
