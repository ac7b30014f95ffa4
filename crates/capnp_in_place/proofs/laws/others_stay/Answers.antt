use Rattle.capnp_allocation.specs.Stored.{IsReplaced}
use Rattle.capnp_allocation.proofs.Replaced.{forest_stored, stored_within}
use Rattle.capnp_in_place.proofs.laws.others_stay.Goals as goal

pub returns : goal.returns
returns c = λ S R t path u q x y forest way puts v r there apart. let done : IsReplaced S R u q x y = puts x (stored_within S 0 0 t path u q x way (forest_stored S t forest)) in done.kept v r apart there
