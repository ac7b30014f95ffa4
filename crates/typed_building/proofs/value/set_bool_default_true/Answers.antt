use Rattle.capnp_builders.specs.Held.{call_in}
use Rattle.typed_building.proofs.Sets.{cond_not, replaces_as, sets_as}
use Rattle.typed_building.proofs.value.set_bool_default_true.Goals as goal

pub returns : goal.returns
returns g c = record {
  grows = c.set_bool.ensures.grows;
  sets = sets_as (call_in c.args.place (g.A.BuilderArena.view c.args.arena.now).words (g.A.BuilderArena.view c.set_bool.new.arena).words) c.args.offset 1 _ _ c.set_bool.ensures.sets (cond_not c.args.value);
  replaces = replaces_as (call_in c.args.place (g.A.BuilderArena.view c.args.arena.now).words (g.A.BuilderArena.view c.set_bool.new.arena).words) c.args.offset 1 _ _ c.set_bool.ensures.replaces (cond_not c.args.value);
  memory = c.set_bool.ensures.memory;
}
