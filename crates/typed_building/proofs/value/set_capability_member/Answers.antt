use Rattle.capnp_in_place.proofs.MovedPointers.RewrittenInTurn.{writes_both}
use Rattle.capnp_in_place.proofs.Room.PlacesStay.{grows_again}
use Rattle.typed_building.proofs.Sets.{replaces_child_member, sets_child_member}
use Rattle.typed_building.proofs.Outcomes.{place_grown}
use Rattle.typed_building.proofs.value.set_capability_member.Goals as goal

pub returns : goal.returns
returns g c = record {
  grows = grows_again _ _ _ c.set_tag.ensures.grows c.set_capability.ensures.grows;
  sets = sets_child_member (g.A.BuilderArena.view c.args.arena.now).words (g.A.BuilderArena.view c.set_tag.new.arena).words (g.A.BuilderArena.view c.set_capability.new.arena).words c.args.place c.args.tag c.args.index _ c.set_tag.ensures.sets c.set_capability.ensures.sets;
  replaces = replaces_child_member (g.A.BuilderArena.view c.args.arena.now).words (g.A.BuilderArena.view c.set_tag.new.arena).words (g.A.BuilderArena.view c.set_capability.new.arena).words c.args.place c.args.tag c.args.index _ c.set_tag.ensures.sets c.set_tag.ensures.replaces c.set_capability.ensures.replaces;
  memory = writes_both _ _ _ c.set_tag.ensures.memory c.set_capability.ensures.memory;
}

pub set_capability-requires : goal.set_capability-requires
set_capability-requires g c = record { inside = place_grown _ _ c.args.place c.set_tag.ensures.grows c.requires.inside; field = c.requires.field }
