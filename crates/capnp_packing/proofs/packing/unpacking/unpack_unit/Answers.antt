use Rattle.std.proofs.Common.{◌+◌, length, refl, rules}
use Rattle.capnp_packing.specs.declared.packing.place.Place.TheVariants.{Tag}
use Rattle.capnp_packing.proofs.PieceLemmas.{led_taken, zeros_front, zeros_pair}
use Rattle.capnp_packing.proofs.UnitLemmas.{word_unit}
use Rattle.capnp_packing.proofs.packing.unpacking.unpack_unit.Goals as goal

pub returns-else-tag : goal.returns-else-tag
returns-else-tag c =
    let leads = word_unit c.args.packed.now c.unpack_tagged_word-taken.new.to _ c.unpack_tagged_word-taken.result c.requires.unit c.if-tag-eq0.false c.if-tag.false c.unpack_tagged_word-taken.ensures.taken c.unpack_tagged_word-taken.ensures.within (search rules) c.unpack_tagged_word-taken.ensures.bytes in
    record {
      taken = search rules;
      some = search rules;
      within = search rules;
      full = search rules;
      exact = led_taken c.args.packed.now _ (1 + c.unpack_tagged_word-taken.result) 8 Tag leads (search rules) (search rules) refl;
      leads = leads;
    }

pub returns-then-tag-eq0 : goal.returns-then-tag-eq0
returns-then-tag-eq0 c =
    let zeros = c.unpack_zeros.ensures in
    record {
      taken = search rules;
      some = zeros.some;
      within = zeros.within;
      full = zeros.full;
      exact = zeros_front c.args.packed.now (length c.unpack_zeros.new.to) c.unpack_zeros.result.taken c.requires.unit (search rules) zeros.taken c.if-tag-eq0.true;
      leads = rw (zeros_pair c.args.packed.now c.unpack_zeros.result.taken c.requires.unit zeros.taken c.if-tag-eq0.true) zeros.leads;
    }
