-- The worked examples: each is computed.
use Rattle.std.proofs.Common.{refl}
use Rattle.capnp_pointers.specs.Values.{value_within}
use Rattle.capnp_pointers.proofs.laws.examples.worked_readings.Goals as goal

pub returns : goal.returns
unfolding value_within
returns c = record {
  null = refl;
  nothing = refl;
  no_segment = refl;
  no_pad = refl;
  pad_exceeds = refl;
  pad_leads_out = refl;
  no_second_segment = refl;
  far_to_far = refl;
  unknown = refl;
  capability = refl;
  canonical_capability = refl;
  default_capability = refl;
  no_level = refl;
  claim_outside = refl;
  claim_exceeds = refl;
  one_word = refl;
  no_tag = refl;
  overrun = refl;
  void_exceeds = refl;
  void = refl;
  empty_structs_exceed = refl;
  level_before_bounds = refl;
  bounds_before_charge = refl;
  second_pointer = refl;
  first_pointer = refl;
  no_struct = refl;
  no_level_for_a_list = refl;
  no_zero_byte = refl;
  text = refl;
}
