use Rattle.capnp_allocation.specs.Stored.{IsReplaced}
use Rattle.capnp_allocation.proofs.Replaced.{replaced_again}
use Rattle.capnp_in_place.proofs.laws.last_put_wins.Goals as goal

pub returns : goal.returns
returns c = λ S R Q u q y z first then x stored. let done : IsReplaced S R u q x y = first x stored in replaced_again S R Q u q x y z done (then y done.stored)
