use Rattle.capnp_builders.specs.Held.{call_in}
use Rattle.typed_building.proofs.Sets.{replaces_as, sets_as}
use Rattle.typed_building.proofs.value.set_number_or.Goals as goal

pub returns : goal.returns
returns g c =
    let call = call_in c.args.place (g.A.BuilderArena.view c.args.arena.now).words (g.A.BuilderArena.view c.set_number.new.arena).words in
    record {
      grows = c.set_number.ensures.grows;
      sets = sets_as call _ _ _ _ c.set_number.ensures.sets c.mask.ensures.bits;
      replaces = replaces_as call _ _ _ _ c.set_number.ensures.replaces c.mask.ensures.bits;
      memory = c.set_number.ensures.memory;
    }
