use Rattle.capnp_allocation.proofs.Replaced.{forest_stored, stored_within, forest_updated}
use Rattle.capnp_in_place.proofs.laws.forest_after.Goals as goal

pub returns : goal.returns
returns c = λ S R t path u q x y forest way puts. forest_updated S R t path u q x y forest way (puts x (stored_within S 0 0 t path u q x way (forest_stored S t forest)))
