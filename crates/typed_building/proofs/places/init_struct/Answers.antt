use Rattle.std.proofs.Common.{subst, sym}
use Rattle.typed_building.proofs.Outcomes.{object_as, object_refused, struct_is_there, child_as, child_refused}
use Rattle.typed_building.specs.There.{HasStructPlace}
use Rattle.typed_building.proofs.places.init_struct.Goals as goal

pub returns-in-Ok : goal.returns-in-Ok
returns-in-Ok g c = record {
  object = object_as c.in-Ok.inner c.from_place.result _ _ _ c.in-Ok.ensures.object;
  grows = c.in-Ok.ensures.grows;
  there = subst (HasStructPlace (g.A.BuilderArena.view c.init_struct.new.arena).words c.args.size) (sym c.from_place.ensures) (struct_is_there (g.A.BuilderArena.view c.init_struct.new.arena).words c.args.size c.in-Ok.inner c.in-Ok.ensures.inside c.in-Ok.ensures.aligned c.in-Ok.ensures.bits c.in-Ok.ensures.pointers);
  made = λ x ws ts h. rw c.from_place.ensures (c.in-Ok.ensures.made x ws ts h);
  child = child_as c.in-Ok.inner c.from_place.result _ _ _ c.in-Ok.ensures.child;
}

pub returns-in-Err : goal.returns-in-Err
returns-in-Err g c = record {
  object = object_refused c.in-Err.k _ _ _ c.in-Err.ensures.object;
  grows = c.in-Err.ensures.grows;
  there = tt;
  made = λ x ws ts h. tt;
  child = child_refused c.in-Err.k _ _ _ c.in-Err.ensures.child;
}
