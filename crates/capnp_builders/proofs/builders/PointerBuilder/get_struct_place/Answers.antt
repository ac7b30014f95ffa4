use Rattle.std.proofs.Common.{rules, ◌≡◌, ◌+◌, ◌^◌, ◌<◌, Ok, Err, length, sym, ap, subst, arith}
use Rattle.std.proofs.lemmas.Bool.{false≢true}
use Rattle.std.proofs.lemmas.Result.{err_from_is_err_and}
use Rattle.capnp_arena_traits.specs.View.{View}
use Rattle.capnp_format.specs.Segments.{segment, word_at}
use Rattle.capnp_format.specs.Tree.{Null}
use Rattle.capnp_format.specs.Forest.{target}
use Rattle.capnp_allocation.specs.Memory.{TakesWords, ComesAfter, start_of}
use Rattle.capnp_allocation.proofs.FillingMade.{null_stored}
use Rattle.capnp_allocation.proofs.Memory.{words_in}
use Rattle.capnp_allocation.proofs.Zeros.{there}
use Rattle.capnp_in_place.specs.Opening.{IsNoWider, OpensStruct}
use Rattle.capnp_in_place.specs.Rooms.{OpeningFits}
use Rattle.capnp_builders.specs.Defaults.{object_default}
use Rattle.capnp_builders.specs.Opening.{IsStructGiven}
use Rattle.capnp_in_place.proofs.Room.PlacesStay.{grows_again}
use Rattle.capnp_builders.proofs.DefaultRooms.{null_left, then_fits, refused_default}
use Rattle.capnp_builders.proofs.DefaultUses.{then_does}
use Rattle.capnp_builders.proofs.Openings.{struct_opens, struct_refused, still_there}
use Rattle.capnp_builders.proofs.builders.PointerBuilder.get_struct_place.Goals as goal
use Rattle.capnp_allocation.specs.Makes.{call_at}

-- The value that is there after the default is put is opened.
pub returns-clause-found : goal.returns-clause-found
returns-clause-found g c = record {
  found = λ t stored.
      (let a : View = g.A.BuilderArena.view c.args.self.now.arena.now in
      let m : View = g.A.BuilderArena.view c.put_default.new.arena in
      let b : View = g.A.BuilderArena.view c.open_struct.new.arena in
      let s = c.args.self.now.segment in
      let p = c.args.self.now.at in
      let e = c.in_ok-opened.opened in
      let small : length (segment b.words e.segment) < 2 ^ 32 = omega (arith, g.met.A.BuilderArena.within c.open_struct.new.arena e.segment, g.met.A.BuilderArena.small c.open_struct.new.arena e.segment) in
      then_does (object_default c.args.default t) s p a m b t c.in_ok-put_default.field-0 (Ok c.struct_place.result) (OpensStruct IsStructGiven c.args.size (Ok c.struct_place.result)) stored (c.in_ok-put_default.ensures.put.put t stored)
      (λ u stands. (let o = c.in_ok-opened.ensures.opened u stands in
      struct_opens m b s p u c.args.size e c.struct_place.result
      (record { there = there b.words s p (still_there a m b s p c.requires.there c.in_ok-put_default.ensures.put.longer c.in_ok-opened.ensures.grows); small = small; placed = c.struct_place.ensures.place }) o)));
  memory = search rules;
}

pub returns-in_err-opened-clause-found : goal.returns-in_err-opened-clause-found
returns-in_err-opened-clause-found g c = record {
  found = λ t stored.
      (let a : View = g.A.BuilderArena.view c.args.self.now.arena.now in
      let m : View = g.A.BuilderArena.view c.put_default.new.arena in
      let b : View = g.A.BuilderArena.view c.open_struct.new.arena in
      let s = c.args.self.now.segment in
      let p = c.args.self.now.at in
      let k = c.in_err-opened.field-0.0 in
      let q = err_from_is_err_and c.from_residual-in_err-opened.result c.from_residual-in_err-opened.ensures.1 in
      rw (q.1, q.2) (then_does (object_default c.args.default t) s p a m b t c.in_ok-put_default.field-0 (Err k) (OpensStruct IsStructGiven c.args.size (Err k)) stored (c.in_ok-put_default.ensures.put.put t stored)
      (λ u stands. struct_refused m b s p u c.args.size k (c.in_err-opened.ensures.opened u stands))));
  memory = search rules;
}

-- The call isn't refused if there is room: not for the default, and not after that is put.
pub returns-in_err-put_default-clause-fits : goal.returns-in_err-put_default-clause-fits
returns-in_err-put_default-clause-fits g c = λ h.
    (let (t, stored, fits) = h in
    let a : View = g.A.BuilderArena.view c.args.self.now.arena.now in
    let m : View = g.A.BuilderArena.view c.put_default.new.arena in
    let s = c.args.self.now.segment in
    let p = c.args.self.now.at in
    absurd (false≢true (c.in_err-put_default.ensures.fits (refused_default c.args.default s p a m t c.in_err-put_default.field-0.0 (λ v. OpeningFits v s p c.args.size) fits (c.in_err-put_default.ensures.put.put t stored)))))

pub returns-in_err-opened-clause-fits : goal.returns-in_err-opened-clause-fits
returns-in_err-opened-clause-fits g c = λ h.
    (let (t, stored, fits) = h in
    let a : View = g.A.BuilderArena.view c.args.self.now.arena.now in
    let m : View = g.A.BuilderArena.view c.put_default.new.arena in
    let s = c.args.self.now.segment in
    let p = c.args.self.now.at in
    absurd (false≢true (c.in_err-opened.ensures.fits (then_fits (object_default c.args.default t) s p a m t c.in_ok-put_default.field-0 (λ v. OpeningFits v s p c.args.size) fits (c.in_ok-put_default.ensures.put.put t stored)))))

-- A pointer that isn't null gets no default.
pub returns-in_err-opened-clause-set : goal.returns-in_err-opened-clause-set
returns-in_err-opened-clause-set g c = λ some.
    (let b : View = g.A.BuilderArena.view c.open_struct.new.arena in
    let s = c.args.self.now.segment in
    let p = c.args.self.now.at in
    let same = (c.in_ok-put_default.ensures.put.stays some).1 in
    let q = err_from_is_err_and c.from_residual-in_err-opened.result c.from_residual-in_err-opened.ensures.1 in
    rw (q.1, q.2) (subst (λ (v : View). IsNoWider c.args.size (call_at s p v b) c.in_err-opened.field-0.0) same (c.in_err-opened.ensures.named (λ null. some (subst (λ (v : View). word_at v.words s p ≡ 0) same null)))))

-- If the default leaves null, a new struct is made in the message as it was.
pub returns-clause-taken : goal.returns-clause-taken
returns-clause-taken g c = λ null none.
    (let a : View = g.A.BuilderArena.view c.args.self.now.arena.now in
    let m : View = g.A.BuilderArena.view c.put_default.new.arena in
    let b : View = g.A.BuilderArena.view c.open_struct.new.arena in
    let s = c.args.self.now.segment in
    let p = c.args.self.now.at in
    let same : m ≡ a = null_left (object_default c.args.default Null) s p a m (Ok c.in_ok-put_default.field-0) none (c.in_ok-put_default.ensures.put.put Null (null_stored a.words s p c.requires.there null)) in
    subst (λ (v : View). TakesWords v b s (c.args.size.data_words + c.args.size.pointers)) same (c.in_ok-opened.ensures.taken (subst (λ (v : View). word_at v.words s p ≡ 0) (sym same) null)))

pub returns-clause-empty : goal.returns-clause-empty
returns-clause-empty g c = λ null none nothing.
    (let a : View = g.A.BuilderArena.view c.args.self.now.arena.now in
    let m : View = g.A.BuilderArena.view c.put_default.new.arena in
    let s = c.args.self.now.segment in
    let p = c.args.self.now.at in
    let same : m ≡ a = null_left (object_default c.args.default Null) s p a m (Ok c.in_ok-put_default.field-0) none (c.in_ok-put_default.ensures.put.put Null (null_stored a.words s p c.requires.there null)) in
    c.in_ok-opened.ensures.empty (subst (λ (v : View). word_at v.words s p ≡ 0) (sym same) null) nothing)

pub returns-clause-behind : goal.returns-clause-behind
returns-clause-behind g c = λ null none.
    (let a : View = g.A.BuilderArena.view c.args.self.now.arena.now in
    let m : View = g.A.BuilderArena.view c.put_default.new.arena in
    let b : View = g.A.BuilderArena.view c.open_struct.new.arena in
    let s = c.args.self.now.segment in
    let p = c.args.self.now.at in
    let same : m ≡ a = null_left (object_default c.args.default Null) s p a m (Ok c.in_ok-put_default.field-0) none (c.in_ok-put_default.ensures.put.put Null (null_stored a.words s p c.requires.there null)) in
    subst (λ (v : View). ComesAfter v s (c.args.size.data_words + c.args.size.pointers) (start_of (target b.words s p))) same (c.in_ok-opened.ensures.behind (subst (λ (v : View). word_at v.words s p ≡ 0) (sym same) null)))

pub returns-in_err-opened-clause-refused : goal.returns-in_err-opened-clause-refused
returns-in_err-opened-clause-refused g c = λ null none.
    (let a : View = g.A.BuilderArena.view c.args.self.now.arena.now in
    let m : View = g.A.BuilderArena.view c.put_default.new.arena in
    let b : View = g.A.BuilderArena.view c.open_struct.new.arena in
    let s = c.args.self.now.segment in
    let p = c.args.self.now.at in
    let same : m ≡ a = null_left (object_default c.args.default Null) s p a m (Ok c.in_ok-put_default.field-0) none (c.in_ok-put_default.ensures.put.put Null (null_stored a.words s p c.requires.there null)) in
    let q = err_from_is_err_and c.from_residual-in_err-opened.result c.from_residual-in_err-opened.ensures.1 in
    rw q.1 (subst (λ (v : View). b.words ≡ v.words) same (c.in_err-opened.ensures.refused (subst (λ (v : View). word_at v.words s p ≡ 0) (sym same) null))))

pub returns-in_err-put_default-clause-refused : goal.returns-in_err-put_default-clause-refused
returns-in_err-put_default-clause-refused g c = λ null none.
    (let a : View = g.A.BuilderArena.view c.args.self.now.arena.now in
    let m : View = g.A.BuilderArena.view c.put_default.new.arena in
    let s = c.args.self.now.segment in
    let p = c.args.self.now.at in
    let q = err_from_is_err_and c.from_residual.result c.from_residual.ensures.1 in
    rw q.1 (ap words_in (null_left (object_default c.args.default Null) s p a m (Err c.in_err-put_default.field-0.0) none (c.in_err-put_default.ensures.put.put Null (null_stored a.words s p c.requires.there null)))))

-- No segment becomes shorter: not by the default, and not after that.
pub returns-in_err-opened-clause-grows : goal.returns-in_err-opened-clause-grows
returns-in_err-opened-clause-grows g c =
    grows_again (g.A.BuilderArena.view c.args.self.now.arena.now).words (g.A.BuilderArena.view c.put_default.new.arena).words (g.A.BuilderArena.view c.open_struct.new.arena).words c.in_ok-put_default.ensures.put.longer c.in_err-opened.ensures.grows

pub returns-clause-grows : goal.returns-clause-grows
returns-clause-grows g c =
    grows_again (g.A.BuilderArena.view c.args.self.now.arena.now).words (g.A.BuilderArena.view c.put_default.new.arena).words (g.A.BuilderArena.view c.open_struct.new.arena).words c.in_ok-put_default.ensures.put.longer c.in_ok-opened.ensures.grows
