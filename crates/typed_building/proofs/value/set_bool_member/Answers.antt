use Rattle.std.proofs.Common.{cond}
use Rattle.capnp_builders.specs.Places.{field}
use Rattle.capnp_in_place.proofs.MovedPointers.RewrittenInTurn.{writes_both}
use Rattle.capnp_in_place.proofs.Room.PlacesStay.{grows_again}
use Rattle.typed_building.proofs.Sets.{replaces_member, sets_member}
use Rattle.typed_building.proofs.Outcomes.{place_grown}
use Rattle.typed_building.proofs.value.set_bool_member.Goals as goal

pub returns : goal.returns
returns g c = record {
  grows = grows_again _ _ _ c.set_tag.ensures.grows c.set_bool.ensures.grows;
  sets = sets_member (g.A.BuilderArena.view c.args.arena.now).words (g.A.BuilderArena.view c.set_tag.new.arena).words (g.A.BuilderArena.view c.set_bool.new.arena).words c.args.place c.args.tag (field c.args.offset 1 (cond c.args.value 1 0)) c.set_tag.ensures.sets c.set_bool.ensures.sets;
  replaces = replaces_member (g.A.BuilderArena.view c.args.arena.now).words (g.A.BuilderArena.view c.set_tag.new.arena).words (g.A.BuilderArena.view c.set_bool.new.arena).words c.args.place c.args.tag (field c.args.offset 1 (cond c.args.value 1 0)) c.set_tag.ensures.sets c.set_tag.ensures.replaces c.set_bool.ensures.replaces;
  memory = writes_both _ _ _ c.set_tag.ensures.memory c.set_bool.ensures.memory;
}

pub set_bool-requires : goal.set_bool-requires
set_bool-requires g c = record { inside = place_grown _ _ c.args.place c.set_tag.ensures.grows c.requires.inside; field = c.requires.field }
