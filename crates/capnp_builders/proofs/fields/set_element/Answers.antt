use Rattle.std.proofs.Common.{◌*◌, ap, arith}
use Rattle.capnp_arena_traits.specs.View.{View}
use Rattle.capnp_builders.proofs.HeldLists.{WritesElement, element_set, element_set_within, flat_size, plain_bits}
use Rattle.capnp_builders.proofs.HeldMade.{field_writes}
use Rattle.capnp_builders.proofs.fields.set_element.Goals as goal

pub write_number-requires-clause-wide : goal.write_number-requires-clause-wide
write_number-requires-clause-wide g c = omega (arith, plain_bits c.args.list.size c.args.list.struct_size (flat_size c.args.list.size (omega (arith, c.requires.width, g.T.Primitive.positive))), c.requires.width)

writes : (g : _) (c : goal.After-write_number g) → WritesElement (g.A.BuilderArena.view c.args.arena.now).words (g.A.BuilderArena.view c.write_number.new.arena).words c.args.list c.args.index (8 * g.T.Primitive.BYTES) (g.T.Primitive.bits_of c.args.value)
writes g c = record {
  range = c.requires.range;
  width = c.requires.width;
  some = omega (arith, g.T.Primitive.positive);
  small = c.write_number.ensures.fits;
  written = ap (λ (v : View). v.words) c.write_number.ensures.written;
}

pub returns-clause-sets : goal.returns-clause-sets
returns-clause-sets g c = λ s p size ns h. element_set s p size ns (writes g c) h

pub returns-clause-sets_child : goal.returns-clause-sets_child
returns-clause-sets_child g c = λ x place ws ts i size ns inside h there. element_set_within x place ws ts i size ns (writes g c) inside h there

pub returns-clause-memory : goal.returns-clause-memory
returns-clause-memory g c = field_writes _ _ _ _ _ _ c.write_number.ensures.written
