use Rattle.std.proofs.Common.{subst, sym}
use Rattle.typed_building.proofs.Outcomes.{object_as, object_refused, struct_is_there}
use Rattle.typed_building.specs.There.{HasStructPlace}
use Rattle.typed_building.proofs.places.init_root.Goals as goal

pub returns-in-Ok : goal.returns-in-Ok
returns-in-Ok g c = record {
  object = object_as c.in-Ok.inner c.from_place.result _ _ _ c.in-Ok.ensures.object;
  grows = c.in-Ok.ensures.grows;
  there = subst (HasStructPlace (g.A.BuilderArena.view c.init_root.new.arena).words c.args.size) (sym c.from_place.ensures) (struct_is_there (g.A.BuilderArena.view c.init_root.new.arena).words c.args.size c.in-Ok.inner c.in-Ok.ensures.inside c.in-Ok.ensures.aligned c.in-Ok.ensures.bits c.in-Ok.ensures.pointers);
  made = λ t stored. rw c.from_place.ensures (c.in-Ok.ensures.made t stored);
}

pub returns-in-Err : goal.returns-in-Err
returns-in-Err g c = record {
  object = object_refused c.in-Err.k _ _ _ c.in-Err.ensures.object;
  grows = c.in-Err.ensures.grows;
  there = tt;
  made = λ t stored. tt;
}
