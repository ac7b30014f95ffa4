use Rattle.capnp_in_place.proofs.WiderObjects.SameCanonicalWords.{wider_struct}
use Rattle.capnp_in_place.proofs.laws.widening.wider_struct.Goals as goal

pub returns : goal.returns
returns c = wider_struct
