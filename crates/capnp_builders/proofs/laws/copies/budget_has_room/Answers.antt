use Rattle.capnp_builders.proofs.BudgetRoom.{budget_has_room as refused_by_reading}
use Rattle.capnp_builders.proofs.laws.copies.budget_has_room.Goals as goal

pub returns : goal.returns
returns c = refused_by_reading
