use Rattle.capnp_in_place.proofs.MovedPointers.RewrittenInTurn.{writes_both}
use Rattle.capnp_in_place.proofs.Room.PlacesStay.{grows_again}
use Rattle.typed_building.proofs.Sets.{begins_group, replaces_group}
use Rattle.typed_building.proofs.Outcomes.{place_grown}
use Rattle.typed_building.proofs.groups.zero_slots_member.Goals as goal

pub returns : goal.returns
returns g c = record {
  grows = grows_again _ _ _ c.set_tag.ensures.grows c.zero_slots.ensures.grows;
  begins = begins_group (g.A.BuilderArena.view c.args.arena.now).words (g.A.BuilderArena.view c.set_tag.new.arena).words (g.A.BuilderArena.view c.zero_slots.new.arena).words c.args.place c.args.tag c.args.slots.now c.set_tag.ensures.sets c.zero_slots.ensures.zeroes;
  replaces = replaces_group (g.A.BuilderArena.view c.args.arena.now).words (g.A.BuilderArena.view c.set_tag.new.arena).words (g.A.BuilderArena.view c.zero_slots.new.arena).words c.args.place c.args.tag c.args.slots.now c.set_tag.ensures.sets c.set_tag.ensures.replaces c.zero_slots.ensures.replaces;
  memory = writes_both _ _ _ c.set_tag.ensures.memory c.zero_slots.ensures.memory;
}

pub zero_slots-requires : goal.zero_slots-requires
zero_slots-requires g c = record { aligned = c.requires.aligned; inside = place_grown _ _ c.args.place c.set_tag.ensures.grows c.requires.inside; slots = c.requires.slots }
