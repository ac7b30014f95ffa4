use Rattle.std.proofs.Common.{◌+◌, refl}
use Rattle.capnp_format.specs.Tree.{Null}
use Rattle.capnp_in_place.proofs.Room.WordsTaken.{pruned_writes}
use Rattle.capnp_in_place.proofs.Room.PlacesStay.{pruned_grows}
use Rattle.typed_building.proofs.Sets.{replaces_child, sets_child}
use Rattle.typed_building.proofs.value.clear.Goals as goal

pub returns : goal.returns
returns g c = record {
  grows = pruned_grows c.clear.ensures.only;
  sets = sets_child (g.A.BuilderArena.view c.args.arena.now).words (g.A.BuilderArena.view c.clear.new.arena).words c.args.place c.args.index (c.args.place.pointers_at + c.args.index) Null c.clear.ensures.cleared refl c.requires.field;
  replaces = replaces_child (g.A.BuilderArena.view c.args.arena.now).words (g.A.BuilderArena.view c.clear.new.arena).words c.args.place c.args.index (c.args.place.pointers_at + c.args.index) Null c.clear.ensures.cleared refl c.requires.field;
  memory = pruned_writes _ _ c.clear.ensures.limits c.clear.ensures.only;
}
