use Rattle.capnp_in_place.proofs.OpenedForWriting.ListsOpened.{list_opened}
use Rattle.capnp_in_place.proofs.opening.open_struct_list.Goals as goal

pub returns-clause-opened : goal.returns-clause-opened
returns-clause-opened g c = λ t stored.
    list_opened (g.A.BuilderArena.view c.args.arena.now) (g.A.BuilderArena.view c.get_struct_list.new.arena) c.args.id c.args.at t c.args.size c.get_struct_list.result stored
    (record {
      widened = c.get_struct_list.ensures.widened;
      wider = c.get_struct_list.ensures.wider;
      stays = c.get_struct_list.ensures.stays;
    })

pub returns-clause-memory : goal.returns-clause-memory
returns-clause-memory g c = record {
  granted = (c.get_struct_list.ensures.wider.granted);
  refused = (c.get_struct_list.ensures.wider.memory);
}

pub returns-clause-named : goal.returns-clause-named
returns-clause-named g c = c.get_struct_list.ensures.wider.named

pub returns-clause-fits : goal.returns-clause-fits
returns-clause-fits g c = c.get_struct_list.ensures.wider.fits
