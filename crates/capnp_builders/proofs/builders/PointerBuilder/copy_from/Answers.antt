use Rattle.std.proofs.Common.{◌≡◌, refl, rules, arith}
use Rattle.capnp_arena_traits.specs.View.{View}
use Rattle.capnp_format.specs.Segments.{word_at}
use Rattle.capnp_format.specs.Tree.{Null}
use Rattle.capnp_allocation.proofs.Filling.{unchanged}
use Rattle.capnp_allocation.proofs.FillingMade.{null_stored}
use Rattle.capnp_readers.specs.Readers.{read_by}
use Rattle.capnp_copies.specs.Changes.{copy_call}
use Rattle.capnp_copies.specs.Forms.{form_of}
use Rattle.capnp_copies.specs.Originals.{value_original}
use Rattle.capnp_allocation.proofs.Outcomes.{if_ok_so, if_err_so}
use Rattle.capnp_copies.proofs.Growth.{none_itself, none_pruned, taken_so, value_within, until_within}
use Rattle.capnp_in_place.proofs.Room.PlacesStay.{grows_again, pruned_grows}
use Rattle.capnp_builders.proofs.CopiesHeld.{null_replaced, fresh_copied, alone_copied, put_copied, put_stopped, can_later, copy_grows}
use Rattle.capnp_allocation.proofs.Zeros.{pruned_itself}
use Rattle.capnp_builders.proofs.builders.PointerBuilder.copy_from.Goals as goal
use Rattle.capnp_allocation.specs.Makes.{call_at}

-- A null pointer.

pub returns-then-is_null-clause-copied : goal.returns-then-is_null-clause-copied
returns-then-is_null-clause-copied g c =
    let old : View = (g.A.BuilderArena.view c.args.self.now.arena.now) in
    let s = c.args.self.now.segment in
    let p = c.args.self.now.at in
    let zero : word_at old.words s p ≡ 0 = c.is_null.ensures.0 (search rules) in
    let null = null_replaced old.words old.words s p Null c.requires.place zero (unchanged old.words s p Null (null_stored old.words s p c.requires.place zero)) in
    if_ok_so c.copy_value.result _ _ (rw (c.pointer-value.ensures.source, c.pointer-value.ensures.place, c.pointer-value.ensures.nesting) at c.copy_value.ensures.copied) (λ x made. put_copied (copy_call (form_of c.args.canonicalize) (call_at c.args.self.now.segment c.args.self.now.at (g.A.BuilderArena.view c.args.self.now.arena.now) (g.A.BuilderArena.view c.copy_value.new.arena)) c.args.lim.now c.copy_value.new.lim) old refl (pruned_itself old.words) null made)

pub returns-then-is_null-clause-refused : goal.returns-then-is_null-clause-refused
returns-then-is_null-clause-refused g c =
    let old : View = (g.A.BuilderArena.view c.args.self.now.arena.now) in
    let s = c.args.self.now.segment in
    let p = c.args.self.now.at in
    let zero : word_at old.words s p ≡ 0 = c.is_null.ensures.0 (search rules) in
    let null = null_replaced old.words old.words s p Null c.requires.place zero (unchanged old.words s p Null (null_stored old.words s p c.requires.place zero)) in
    if_err_so c.copy_value.result _ _ (rw (c.pointer-value.ensures.source, c.pointer-value.ensures.place, c.pointer-value.ensures.nesting) at c.copy_value.ensures.refused) (λ k stop. put_stopped (copy_call (form_of c.args.canonicalize) (call_at c.args.self.now.segment c.args.self.now.at (g.A.BuilderArena.view c.args.self.now.arena.now) (g.A.BuilderArena.view c.copy_value.new.arena)) c.args.lim.now c.copy_value.new.lim) old refl (pruned_itself old.words) null stop)

pub returns-then-is_null-clause-fresh : goal.returns-then-is_null-clause-fresh
returns-then-is_null-clause-fresh g c = λ only. fresh_copied c.copy_value.result (read_by g.B.ReaderArena c.args.from) (copy_call (form_of c.args.canonicalize) (call_at c.args.self.now.segment c.args.self.now.at (g.A.BuilderArena.view c.args.self.now.arena.now) (g.A.BuilderArena.view c.copy_value.new.arena)) c.args.lim.now c.copy_value.new.lim) c.requires.place only (rw (c.pointer-value.ensures.source, c.pointer-value.ensures.place, c.pointer-value.ensures.nesting) at c.copy_value.ensures.copied)

pub returns-then-is_null-clause-alone : goal.returns-then-is_null-clause-alone
returns-then-is_null-clause-alone g c = λ fresh. alone_copied c.copy_value.result (read_by g.B.ReaderArena c.args.from) (copy_call (form_of c.args.canonicalize) (call_at c.args.self.now.segment c.args.self.now.at (g.A.BuilderArena.view c.args.self.now.arena.now) (g.A.BuilderArena.view c.copy_value.new.arena)) c.args.lim.now c.copy_value.new.lim) c.requires.place fresh (rw (c.pointer-value.ensures.source, c.pointer-value.ensures.place, c.pointer-value.ensures.nesting) at c.copy_value.ensures.copied)

pub returns-then-is_null-clause-grows : goal.returns-then-is_null-clause-grows
returns-then-is_null-clause-grows g c =
    copy_grows c.copy_value.result (value_original (read_by g.B.ReaderArena c.args.from)) (copy_call (form_of c.args.canonicalize) (call_at c.args.self.now.segment c.args.self.now.at (g.A.BuilderArena.view c.args.self.now.arena.now) (g.A.BuilderArena.view c.copy_value.new.arena)) c.args.lim.now c.copy_value.new.lim) (rw (c.pointer-value.ensures.source, c.pointer-value.ensures.place, c.pointer-value.ensures.nesting) at c.copy_value.ensures.copied) (rw (c.pointer-value.ensures.source, c.pointer-value.ensures.place, c.pointer-value.ensures.nesting) at c.copy_value.ensures.refused)

pub returns-then-is_null-clause-stays : goal.returns-then-is_null-clause-stays
returns-then-is_null-clause-stays g c = record { builder = search rules; there = omega (arith, (returns-then-is_null-clause-grows g c).words c.args.self.now.segment, c.requires.place) }

-- What another pointer held is zeroed, and then the value is copied to the null pointer.

pub returns-clause-copied : goal.returns-clause-copied
returns-clause-copied g c =
    if_ok_so c.copy_value-2.result _ _ (rw (c.pointer-value.ensures.source, c.pointer-value.ensures.place, c.pointer-value.ensures.nesting) at c.copy_value-2.ensures.copied)
    (λ x made. put_copied (copy_call (form_of c.args.canonicalize) (call_at c.args.self.now.segment c.args.self.now.at (g.A.BuilderArena.view c.args.self.now.arena.now) (g.A.BuilderArena.view c.copy_value-2.new.arena)) c.args.lim.now c.copy_value-2.new.lim)
    (g.A.BuilderArena.view c.clear.new.arena) c.clear.ensures.limits c.clear.ensures.only c.clear.ensures.cleared made)

pub returns-clause-refused : goal.returns-clause-refused
returns-clause-refused g c =
    if_err_so c.copy_value-2.result _ _ (rw (c.pointer-value.ensures.source, c.pointer-value.ensures.place, c.pointer-value.ensures.nesting) at c.copy_value-2.ensures.refused)
    (λ k stop. put_stopped (copy_call (form_of c.args.canonicalize) (call_at c.args.self.now.segment c.args.self.now.at (g.A.BuilderArena.view c.args.self.now.arena.now) (g.A.BuilderArena.view c.copy_value-2.new.arena)) c.args.lim.now c.copy_value-2.new.lim)
    (g.A.BuilderArena.view c.clear.new.arena) c.clear.ensures.limits c.clear.ensures.only c.clear.ensures.cleared stop)

pub returns-clause-fits : goal.returns-clause-fits
returns-clause-fits g c = λ can.
    (rw (c.pointer-value.ensures.source, c.pointer-value.ensures.place, c.pointer-value.ensures.nesting) at c.copy_value-2.ensures.fits) (can_later (value_original (read_by g.B.ReaderArena c.args.from)) (form_of c.args.canonicalize) c.args.lim.now (g.A.BuilderArena.view c.args.self.now.arena.now) (g.A.BuilderArena.view c.clear.new.arena) c.args.self.now.segment c.clear.ensures.limits c.clear.ensures.only can)

pub returns-clause-grows : goal.returns-clause-grows
returns-clause-grows g c =
    grows_again _ _ _ (pruned_grows c.clear.ensures.only) (copy_grows c.copy_value-2.result (value_original (read_by g.B.ReaderArena c.args.from)) (copy_call (form_of c.args.canonicalize) (call_at c.args.self.now.segment c.args.self.now.at (g.A.BuilderArena.view c.clear.new.arena) (g.A.BuilderArena.view c.copy_value-2.new.arena)) c.args.lim.now c.copy_value-2.new.lim) (rw (c.pointer-value.ensures.source, c.pointer-value.ensures.place, c.pointer-value.ensures.nesting) at c.copy_value-2.ensures.copied) (rw (c.pointer-value.ensures.source, c.pointer-value.ensures.place, c.pointer-value.ensures.nesting) at c.copy_value-2.ensures.refused))

pub returns-clause-stays : goal.returns-clause-stays
returns-clause-stays g c = record { builder = search rules; there = omega (arith, (returns-clause-grows g c).words c.args.self.now.segment, c.requires.place) }

pub returns-clause-taken : goal.returns-clause-taken
returns-clause-taken g c =
    let before = none_pruned (g.A.BuilderArena.view c.args.self.now.arena.now) (g.A.BuilderArena.view c.clear.new.arena) c.clear.ensures.limits c.clear.ensures.only in
    let last = none_itself (g.A.BuilderArena.view c.copy_value-2.new.arena) in
    taken_so c.copy_value-2.result _ _ _ _
    (λ x. value_within (read_by g.B.ReaderArena c.args.from) (copy_call (form_of c.args.canonicalize) (call_at c.args.self.now.segment c.args.self.now.at (g.A.BuilderArena.view c.clear.new.arena) (g.A.BuilderArena.view c.copy_value-2.new.arena)) c.args.lim.now c.copy_value-2.new.lim)
    (copy_call (form_of c.args.canonicalize) (call_at c.args.self.now.segment c.args.self.now.at (g.A.BuilderArena.view c.args.self.now.arena.now) (g.A.BuilderArena.view c.copy_value-2.new.arena)) c.args.lim.now c.copy_value-2.new.lim) before last refl x)
    (λ x. until_within (read_by g.B.ReaderArena c.args.from) (copy_call (form_of c.args.canonicalize) (call_at c.args.self.now.segment c.args.self.now.at (g.A.BuilderArena.view c.clear.new.arena) (g.A.BuilderArena.view c.copy_value-2.new.arena)) c.args.lim.now c.copy_value-2.new.lim)
    (copy_call (form_of c.args.canonicalize) (call_at c.args.self.now.segment c.args.self.now.at (g.A.BuilderArena.view c.args.self.now.arena.now) (g.A.BuilderArena.view c.copy_value-2.new.arena)) c.args.lim.now c.copy_value-2.new.lim) before last refl x) (rw (c.pointer-value.ensures.source, c.pointer-value.ensures.place, c.pointer-value.ensures.nesting) at c.copy_value-2.ensures.taken)
