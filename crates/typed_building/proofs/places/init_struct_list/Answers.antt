use Rattle.std.proofs.Common.{subst, sym, ◌∙◌, ap}
use Rattle.capnp_readers.specs.declared.readers.list_reader.ListPlace.{ListPlace}
use Rattle.typed_building.proofs.Outcomes.{object_as, object_refused, structs_are_there, child_as, child_refused}
use Rattle.typed_building.specs.There.{HasStructsPlace}
use Rattle.typed_building.proofs.places.init_struct_list.Goals as goal

pub returns-in-Ok : goal.returns-in-Ok
returns-in-Ok g c = record {
  object = object_as c.in-Ok.inner c.from_place.result _ _ _ c.in-Ok.ensures.object;
  grows = c.in-Ok.ensures.grows;
  there = subst (HasStructsPlace (g.A.BuilderArena.view c.init_struct_list.new.arena).words c.args.size) (sym c.from_place.ensures) (structs_are_there (g.A.BuilderArena.view c.init_struct_list.new.arena).words c.args.size c.in-Ok.inner c.in-Ok.ensures.inside c.in-Ok.ensures.size c.in-Ok.ensures.sections);
  count = ap (λ (list : ListPlace). list.count) c.from_place.ensures ∙ c.in-Ok.ensures.count;
  made = λ x ws ts i below h. rw c.from_place.ensures (c.in-Ok.ensures.made x ws ts i below h);
  child = child_as c.in-Ok.inner c.from_place.result _ _ _ c.in-Ok.ensures.child;
}

pub returns-in-Err : goal.returns-in-Err
returns-in-Err g c = record {
  object = object_refused c.in-Err.k _ _ _ c.in-Err.ensures.object;
  grows = c.in-Err.ensures.grows;
  there = tt;
  count = tt;
  made = λ x ws ts i below h. tt;
  child = child_refused c.in-Err.k _ _ _ c.in-Err.ensures.child;
}
