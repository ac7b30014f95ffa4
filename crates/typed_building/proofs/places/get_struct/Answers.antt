use Rattle.std.proofs.Common.{subst, sym}
use Rattle.typed_building.proofs.Outcomes.{opened_as, opening_refused}
use Rattle.typed_building.specs.There.{HasStructPlace}
use Rattle.typed_building.proofs.places.get_struct.Goals as goal

pub returns-in-Ok : goal.returns-in-Ok
returns-in-Ok g c = record {
  fits = c.in-Ok.ensures.fits;
  child = opened_as c.in-Ok.inner c.from_place.result _ _ _ c.in-Ok.ensures.child;
  there = λ x ws ts h. subst (HasStructPlace (g.A.BuilderArena.view c.get_struct.new.arena).words c.args.size) (sym c.from_place.ensures) (c.in-Ok.ensures.there x ws ts h);
  made = λ x ws ts h. rw c.from_place.ensures (c.in-Ok.ensures.made x ws ts h);
  grows = c.in-Ok.ensures.grows;
}

pub returns-in-Err : goal.returns-in-Err
returns-in-Err g c = record {
  fits = c.in-Err.ensures.fits;
  child = opening_refused c.in-Err.k _ _ _ c.in-Err.ensures.child;
  there = λ x ws ts h. tt;
  made = λ x ws ts h. tt;
  grows = c.in-Err.ensures.grows;
}
