use Rattle.std.proofs.Common.{refl, rules}
use Rattle.capnp_arena_traits.specs.View.{View}
use Rattle.capnp_builders.specs.Defaults.{object_default}
use Rattle.capnp_builders.proofs.FoundLists.{GivesFoundList}
use Rattle.capnp_builders.proofs.DefaultUses.{then_does}
use Rattle.capnp_builders.proofs.builders.PointerBuilder.get_list_place.Goals as goal

-- The value that is there after the default is put.
pub returns-clause-found : goal.returns-clause-found
returns-clause-found g c = record {
  finds = record {
    found = λ t stored.
        (let a : View = g.A.BuilderArena.view c.args.self.now.arena.now in
        let m : View = g.A.BuilderArena.view c.put_default.new.arena in
        then_does (object_default c.args.default t) c.args.self.now.segment c.args.self.now.at a m m t c.in_ok-put_default.field-0 c.find_list.result (GivesFoundList c.args.size c.find_list.result) stored (c.in_ok-put_default.ensures.put.put t stored)
        (λ u stands. (c.find_list.ensures.found u stands, refl)));
    memory = search rules;
  };
  set = search rules;
}
