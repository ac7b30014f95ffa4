use Rattle.std.proofs.Common.{◌+◌, refl, le_of_eq, sym}
use Rattle.capnp_format.specs.Tree.{Capability}
use Rattle.typed_building.proofs.Sets.{replaces_child, sets_child}
use Rattle.typed_building.proofs.value.set_capability.Goals as goal

pub returns : goal.returns
returns g c = record {
  grows = record { segments = le_of_eq (sym c.set_capability.ensures.only.segments); words = λ u. le_of_eq (sym (c.set_capability.ensures.only.words u)) };
  sets = sets_child (g.A.BuilderArena.view c.args.arena.now).words (g.A.BuilderArena.view c.set_capability.new.arena).words c.args.place c.args.index (c.args.place.pointers_at + c.args.index) (Capability c.args.capability) c.set_capability.ensures.made refl c.requires.field;
  replaces = replaces_child (g.A.BuilderArena.view c.args.arena.now).words (g.A.BuilderArena.view c.set_capability.new.arena).words c.args.place c.args.index (c.args.place.pointers_at + c.args.index) (Capability c.args.capability) c.set_capability.ensures.made refl c.requires.field;
  memory = record { limits = c.set_capability.ensures.limits; segments = c.set_capability.ensures.only.segments; words = c.set_capability.ensures.only.words };
}
