use Rattle.std.proofs.Common.{◌≡◌, refl, rules}
use Rattle.capnp_packing.specs.declared.packing.place.Place.TheVariants.{Tag}
use Rattle.capnp_packing.proofs.PieceLemmas.{taken_led, unit_taken}
use Rattle.capnp_packing.proofs.UnitLemmas.{unit_more}
use Rattle.capnp_packing.proofs.UnpackingLemmas.{leads_none}
use Rattle.capnp_packing.proofs.packing.unpacking.unpack_words.Goals as goal
use Rattle.capnp_packing.proofs.packing.unpacking.unpack_words.Goals.{in-Tag, in_default}

pub loop-taken-init : goal.loop-taken-init
loop-taken-init c = record {
  leads = leads_none Tag;
  packed = search rules;
  room = search rules;
  none_taken = search rules;
  none_given = search rules;
}

pub returns-after-loop-taken : goal.returns-after-loop-taken
returns-after-loop-taken c = record {
  taken = search rules;
  some = search rules;
  within = search rules;
  full = λ none. absurd (none refl);
  exact = taken_led c.args.packed.now c.loop-taken.to c.loop-taken.taken c.loop-taken.given Tag Tag c.loop-taken.invariant.packed c.loop-taken.invariant.room c.loop-taken.invariant.leads refl;
  leads = c.loop-taken.invariant.leads;
}

pub returns-else-to-given-ge8 : goal.returns-else-to-given-ge8
returns-else-to-given-ge8 c = record {
  taken = search rules;
  some = search rules;
  within = search rules;
  full = λ none. absurd (none refl);
  exact = taken_led c.args.packed.now c.loop-taken.to c.loop-taken.taken c.loop-taken.given Tag Tag c.loop-taken.invariant.packed c.loop-taken.invariant.room c.loop-taken.invariant.leads refl;
  leads = c.loop-taken.invariant.leads;
}

pub returns-then-unit-ne0 : goal.returns-then-unit-ne0
returns-then-unit-ne0 c =
    let inv = c.loop-taken.invariant in
    record { taken = search rules; some = search rules; within = search rules; full = search rules; exact = unit_taken c.args.packed.now c.loop-taken.to c.unpack_unit-unit.new.to c.loop-taken.taken c.loop-taken.given c.unpack_unit-unit.result.taken inv.packed inv.room (search rules) inv.leads c.unpack_unit-unit.ensures.exact; leads = unit_more c.args.packed.now c.loop-taken.to c.unpack_unit-unit.new.to c.loop-taken.taken c.loop-taken.given _ _ _ _ c.loop-taken.invariant.room c.unpack_unit-unit.ensures.within c.loop-taken.invariant.leads c.unpack_unit-unit.ensures.leads }

pub loop-taken-preserved : goal.loop-taken-preserved
loop-taken-preserved c =
    let tag : c.unpack_unit-unit.result.place ≡ Tag = elim c.match-matches.branch [ in-Tag w ↦ w.in-Tag.is | in_default w ↦ absurd (cc) ] in
    let unit = rw (tag, c.if-unit-ne0.false) at c.unpack_unit-unit.ensures.leads in
    record {
      leads = unit_more c.args.packed.now c.loop-taken.to c.unpack_unit-unit.new.to c.loop-taken.taken c.loop-taken.given _ _ 0 Tag c.loop-taken.invariant.room c.unpack_unit-unit.ensures.within c.loop-taken.invariant.leads unit;
      packed = search rules;
      room = search rules;
      none_taken = search rules;
      none_given = search rules;
    }
