use Rattle.capnp_in_place.proofs.Room.PlacesStay.{grows_again}
use Rattle.typed_building.proofs.Memory.{allocates_written}
use Rattle.typed_building.specs.Members.{tag_field, with_data}
use Rattle.typed_building.proofs.Sets.{makes_member}
use Rattle.typed_building.proofs.Outcomes.{place_grown, list_made_there}
use Rattle.typed_building.proofs.value.init_list_member.Goals as goal

pub returns : goal.returns
returns g c = record {
  grows = grows_again _ _ _ c.set_tag.ensures.grows c.init_list.ensures.grows;
  there = list_made_there c.init_list.result (g.A.BuilderArena.view c.init_list.new.arena).words c.args.size c.init_list.ensures.inside c.init_list.ensures.size;
  count = c.init_list.ensures.count;
  made = λ x ws ts h. c.init_list.ensures.made x (with_data ws (tag_field c.args.tag)) ts (c.set_tag.ensures.sets x ws ts h);
  member = makes_member c.init_list.result (g.A.BuilderArena.view c.args.arena.now).words (g.A.BuilderArena.view c.set_tag.new.arena).words (g.A.BuilderArena.view c.init_list.new.arena).words c.args.place c.args.tag c.args.index _ c.set_tag.ensures.sets c.set_tag.ensures.replaces c.init_list.ensures.child;
  memory = allocates_written c.init_list.result _ _ _ _ _ _ c.set_tag.ensures.memory c.init_list.ensures.object.memory;
}

pub init_list-requires : goal.init_list-requires
init_list-requires g c = record { inside = place_grown _ _ c.args.place c.set_tag.ensures.grows c.requires.inside; field = c.requires.field; few = c.requires.few; plain = c.requires.plain }
