use Rattle.std.proofs.Common.{bit_xor}
use Rattle.capnp_builders.specs.Places.{number_field}
use Rattle.capnp_in_place.proofs.MovedPointers.RewrittenInTurn.{writes_both}
use Rattle.capnp_in_place.proofs.Room.PlacesStay.{grows_again}
use Rattle.typed_building.proofs.Sets.{replaces_member, sets_member}
use Rattle.typed_building.proofs.Outcomes.{place_grown}
use Rattle.typed_building.proofs.value.set_number_or_member.Goals as goal

pub returns : goal.returns
returns g c = record {
  grows = grows_again _ _ _ c.set_tag.ensures.grows c.set_number_or.ensures.grows;
  sets = sets_member (g.A.BuilderArena.view c.args.arena.now).words (g.A.BuilderArena.view c.set_tag.new.arena).words (g.A.BuilderArena.view c.set_number_or.new.arena).words c.args.place c.args.tag (number_field g.T.Primitive.BYTES c.args.offset (bit_xor (g.T.Primitive.bits_of c.args.value) (g.T.Mask.mask_bits c.args.default))) c.set_tag.ensures.sets c.set_number_or.ensures.sets;
  replaces = replaces_member (g.A.BuilderArena.view c.args.arena.now).words (g.A.BuilderArena.view c.set_tag.new.arena).words (g.A.BuilderArena.view c.set_number_or.new.arena).words c.args.place c.args.tag (number_field g.T.Primitive.BYTES c.args.offset (bit_xor (g.T.Primitive.bits_of c.args.value) (g.T.Mask.mask_bits c.args.default))) c.set_tag.ensures.sets c.set_tag.ensures.replaces c.set_number_or.ensures.replaces;
  memory = writes_both _ _ _ c.set_tag.ensures.memory c.set_number_or.ensures.memory;
}

pub set_number_or-requires : goal.set_number_or-requires
set_number_or-requires g c = record { aligned = c.requires.aligned; inside = place_grown _ _ c.args.place c.set_tag.ensures.grows c.requires.inside; field = c.requires.field }
