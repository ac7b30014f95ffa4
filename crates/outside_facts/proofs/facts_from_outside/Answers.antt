-- The readings are computed.
use Rattle.std.proofs.Common.{refl}
use Rattle.capnp_pointers.specs.Values.{value_within}
use Rattle.capnp_pointers.specs.Measure.{measure_within}
use Rattle.outside_facts.proofs.facts_from_outside.Goals as goal

pub returns : goal.returns
unfolding value_within measure_within
returns c = record {
  values_1 = refl;
  values_2 = refl;
  values_3 = refl;
  values_4 = refl;
  values_5 = refl;
  values_6 = refl;
  capabilities_1 = refl;
  capabilities_2 = refl;
  refusals_1 = refl;
  refusals_2 = refl;
  refusals_3 = refl;
}
