use Rattle.capnp_pointers.proofs.Following.LeadsWhereFollowed.{leads_there}
use Rattle.capnp_pointers.proofs.laws.followed_leads.Goals as goal

pub returns : goal.returns
returns c = leads_there
