use Rattle.std.proofs.Common.{rules, Ok, Err, subst}
use Rattle.std.proofs.lemmas.Bool.{false≢true}
use Rattle.std.proofs.lemmas.Result.{err_from_is_err_and}
use Rattle.capnp_arena_traits.specs.View.{View}
use Rattle.capnp_allocation.specs.Stored.{IsStored}
use Rattle.capnp_in_place.specs.Rooms.{WiderListFits}
use Rattle.capnp_in_place.specs.RowsRemade.{RefusesWider}
use Rattle.capnp_builders.specs.Defaults.{object_default}
use Rattle.capnp_builders.specs.Opening.{OpensList}
use Rattle.capnp_in_place.proofs.Room.PlacesStay.{grows_again}
use Rattle.capnp_builders.proofs.DefaultRooms.{then_fits, refused_default}
use Rattle.capnp_builders.proofs.DefaultUses.{then_does}
use Rattle.capnp_builders.proofs.Openings.{list_opens, list_refused, still_there}
use Rattle.capnp_builders.proofs.builders.PointerBuilder.get_struct_list_place.Goals as goal

-- The value that is there after the default is put is opened.
pub returns-clause-found : goal.returns-clause-found
returns-clause-found g c = record {
  found = λ t stored.
      (let a : View = g.A.BuilderArena.view c.args.self.now.arena.now in
      let m : View = g.A.BuilderArena.view c.put_default.new.arena in
      let b : View = g.A.BuilderArena.view c.open_struct_list.new.arena in
      let s = c.args.self.now.segment in
      let p = c.args.self.now.at in
      let l = c.in_ok-opened.opened in
      then_does (object_default c.args.default t) s p a m b t c.in_ok-put_default.field-0 (Ok c.found_list.result) (OpensList c.args.size (Ok c.found_list.result)) stored (c.in_ok-put_default.ensures.put.put t stored)
      (λ u stands. (let o = c.in_ok-opened.ensures.opened u stands in
      list_opens m b s p u c.args.size l c.found_list.result (still_there a m b s p c.requires.there c.in_ok-put_default.ensures.put.longer c.in_ok-opened.ensures.grows) c.found_list.ensures o)));
  memory = search rules;
}

pub returns-in_err-opened-clause-found : goal.returns-in_err-opened-clause-found
returns-in_err-opened-clause-found g c = record {
  found = λ t stored.
      (let a : View = g.A.BuilderArena.view c.args.self.now.arena.now in
      let m : View = g.A.BuilderArena.view c.put_default.new.arena in
      let b : View = g.A.BuilderArena.view c.open_struct_list.new.arena in
      let s = c.args.self.now.segment in
      let p = c.args.self.now.at in
      let k = c.in_err-opened.field-0.0 in
      let q = err_from_is_err_and c.from_residual-in_err-opened.result c.from_residual-in_err-opened.ensures.1 in
      rw (q.1, q.2) (then_does (object_default c.args.default t) s p a m b t c.in_ok-put_default.field-0 (Err k) (OpensList c.args.size (Err k)) stored (c.in_ok-put_default.ensures.put.put t stored)
      (λ u stands. list_refused m b s p u c.args.size k (c.in_err-opened.ensures.opened u stands))));
  memory = search rules;
}

-- The call isn't refused if there is room: not for the default, and not after that is put.
pub returns-in_err-put_default-clause-fits : goal.returns-in_err-put_default-clause-fits
returns-in_err-put_default-clause-fits g c = λ h.
    (let (t, stored, fits) = h in
    let a : View = g.A.BuilderArena.view c.args.self.now.arena.now in
    let m : View = g.A.BuilderArena.view c.put_default.new.arena in
    let s = c.args.self.now.segment in
    let p = c.args.self.now.at in
    absurd (false≢true (c.in_err-put_default.ensures.fits (refused_default c.args.default s p a m t c.in_err-put_default.field-0.0 (λ (v : View). WiderListFits (IsStored v.words s p) v s p c.args.size) fits (c.in_err-put_default.ensures.put.put t stored)))))

pub returns-in_err-opened-clause-fits : goal.returns-in_err-opened-clause-fits
returns-in_err-opened-clause-fits g c = λ h.
    (let (t, stored, fits) = h in
    let a : View = g.A.BuilderArena.view c.args.self.now.arena.now in
    let m : View = g.A.BuilderArena.view c.put_default.new.arena in
    let s = c.args.self.now.segment in
    let p = c.args.self.now.at in
    absurd (false≢true (c.in_err-opened.ensures.fits (then_fits (object_default c.args.default t) s p a m t c.in_ok-put_default.field-0 (λ (v : View). WiderListFits (IsStored v.words s p) v s p c.args.size) fits (c.in_ok-put_default.ensures.put.put t stored)))))

-- A pointer that isn't null gets no default.
pub returns-in_err-opened-clause-set : goal.returns-in_err-opened-clause-set
returns-in_err-opened-clause-set g c = λ some.
    (let b : View = g.A.BuilderArena.view c.open_struct_list.new.arena in
    let q = err_from_is_err_and c.from_residual-in_err-opened.result c.from_residual-in_err-opened.ensures.1 in
    rw (q.1, q.2) (subst (λ (v : View). RefusesWider (IsStored v.words c.args.self.now.segment c.args.self.now.at) c.args.size v b c.in_err-opened.field-0.0) (c.in_ok-put_default.ensures.put.stays some).1 c.in_err-opened.ensures.named))

-- No segment becomes shorter: not by the default, and not after that.
pub returns-in_err-opened-clause-grows : goal.returns-in_err-opened-clause-grows
returns-in_err-opened-clause-grows g c =
    grows_again (g.A.BuilderArena.view c.args.self.now.arena.now).words (g.A.BuilderArena.view c.put_default.new.arena).words (g.A.BuilderArena.view c.open_struct_list.new.arena).words c.in_ok-put_default.ensures.put.longer c.in_err-opened.ensures.grows

pub returns-clause-grows : goal.returns-clause-grows
returns-clause-grows g c =
    grows_again (g.A.BuilderArena.view c.args.self.now.arena.now).words (g.A.BuilderArena.view c.put_default.new.arena).words (g.A.BuilderArena.view c.open_struct_list.new.arena).words c.in_ok-put_default.ensures.put.longer c.in_ok-opened.ensures.grows
