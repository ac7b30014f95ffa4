use Rattle.capnp_in_place.proofs.Room.PlacesStay.{grows_again}
use Rattle.typed_building.proofs.Memory.{allocates_written}
use Rattle.typed_building.specs.Members.{tag_field, with_data}
use Rattle.typed_building.proofs.Sets.{makes_member}
use Rattle.typed_building.proofs.Outcomes.{place_grown}
use Rattle.typed_building.proofs.places.init_struct_list_member.Goals as goal

pub returns : goal.returns
returns g c = record {
  grows = grows_again _ _ _ c.set_tag.ensures.grows c.init_struct_list.ensures.grows;
  there = c.init_struct_list.ensures.there;
  count = c.init_struct_list.ensures.count;
  made = λ x ws ts i inside h. c.init_struct_list.ensures.made x (with_data ws (tag_field c.args.tag)) ts i inside (c.set_tag.ensures.sets x ws ts h);
  member = makes_member c.init_struct_list.result (g.A.BuilderArena.view c.args.arena.now).words (g.A.BuilderArena.view c.set_tag.new.arena).words (g.A.BuilderArena.view c.init_struct_list.new.arena).words c.args.place c.args.tag c.args.index _ c.set_tag.ensures.sets c.set_tag.ensures.replaces c.init_struct_list.ensures.child;
  memory = allocates_written c.init_struct_list.result _ _ _ _ _ _ c.set_tag.ensures.memory c.init_struct_list.ensures.object.memory;
}

pub init_struct_list-requires : goal.init_struct_list-requires
init_struct_list-requires g c = record { inside = place_grown _ _ c.args.place c.set_tag.ensures.grows c.requires.inside; field = c.requires.field; few = c.requires.few; words = c.requires.words }
