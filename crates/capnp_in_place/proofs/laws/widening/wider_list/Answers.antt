use Rattle.capnp_in_place.proofs.WiderObjects.SameCanonicalWords.{wider_list}
use Rattle.capnp_in_place.proofs.laws.widening.wider_list.Goals as goal

pub returns : goal.returns
returns c = wider_list
