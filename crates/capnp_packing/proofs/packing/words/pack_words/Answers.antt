use Rattle.std.proofs.Common.{◌≤◌, length, rules}
use Rattle.capnp_packing.proofs.PackingLemmas.{packs_none, unit_packed}
use Rattle.capnp_packing.proofs.packing.words.pack_words.Goals as goal

pub loop-taken-init : goal.loop-taken-init
loop-taken-init c = record {
  packed = packs_none;
  words = search rules;
  taken = search rules;
  given = search rules;
  none = search rules;
}

pub loop-taken-preserved : goal.loop-taken-preserved
loop-taken-preserved c =
    let inside : c.pack_unit-unit.result.given ≤ length c.pack_unit-unit.new.to = search rules in
    record {
      packed = unit_packed c.args.from.now c.loop-taken.to c.pack_unit-unit.new.to c.loop-taken.taken c.loop-taken.given _ _ c.loop-taken.invariant.given inside c.loop-taken.invariant.packed c.pack_unit-unit.ensures.packed;
      words = search rules;
      taken = search rules;
      given = search rules;
      none = search rules;
    }
