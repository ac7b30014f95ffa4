use Rattle.std.proofs.Common.{◌≡◌, ◌<◌, ◌≤◌, ◌-◌, length, take}
use Rattle.capnp_packing.specs.Packing.{GivesAndLeads}
use Rattle.capnp_packing.specs.declared.packing.place.Place.TheVariants.{Tag}
use Rattle.capnp_packing.proofs.packing.unpacking.unpack_words.Given as goal

abbrev pub invariant-loop-taken : goal.invariant-loop-taken
invariant-loop-taken l = record {
  leads : GivesAndLeads Tag (take l.taken l.packed) (take l.given l.to) 0 Tag;
  packed : l.taken ≤ length l.packed;
  room : l.given ≤ length l.to;
  none_taken : l.given < 8 → l.taken ≡ 0;
  none_given : l.given < 8 → l.given ≡ 0;
}

abbrev pub decreases-loop-taken : goal.decreases-loop-taken
decreases-loop-taken l = length l.to - l.given
