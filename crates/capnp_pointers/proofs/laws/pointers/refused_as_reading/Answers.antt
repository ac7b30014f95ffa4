use Rattle.std.proofs.Common.{subst}
use Rattle.capnp_pointers.proofs.CanonicalTest.ReadsAsReading.{Along, refused_along, value_along, values_along}
use Rattle.capnp_pointers.proofs.laws.pointers.refused_as_reading.Goals as goal

pub returns : goal.returns
returns c = record {
  place = λ r h m m' k is. refused_along (subst (Along _) is (value_along r h m));
  pointers = λ i r h m m' k is. refused_along (subst (Along _) is (values_along i r h m));
}
