use Rattle.capnp_in_place.proofs.Room.PlacesStay.{grows_again}
use Rattle.typed_building.proofs.Memory.{allocates_written}
use Rattle.typed_building.proofs.Sets.{makes_member}
use Rattle.typed_building.proofs.Outcomes.{place_grown}
use Rattle.typed_building.proofs.value.set_data_member.Goals as goal

pub returns : goal.returns
returns g c = record {
  grows = grows_again _ _ _ c.set_tag.ensures.grows c.set_data.ensures.grows;
  member = makes_member c.set_data.result (g.A.BuilderArena.view c.args.arena.now).words (g.A.BuilderArena.view c.set_tag.new.arena).words (g.A.BuilderArena.view c.set_data.new.arena).words c.args.place c.args.tag c.args.index _ c.set_tag.ensures.sets c.set_tag.ensures.replaces c.set_data.ensures.child;
  memory = allocates_written c.set_data.result _ _ _ _ _ _ c.set_tag.ensures.memory c.set_data.ensures.object.memory;
}

pub set_data-requires : goal.set_data-requires
set_data-requires g c = record { inside = place_grown _ _ c.args.place c.set_tag.ensures.grows c.requires.inside; field = c.requires.field; few = c.requires.few }
