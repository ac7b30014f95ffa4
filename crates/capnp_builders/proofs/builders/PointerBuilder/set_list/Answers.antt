use Rattle.std.proofs.Common.{rules, refl, arith}
use Rattle.capnp_copies.specs.Changes.{copy_call}
use Rattle.capnp_copies.specs.Forms.{form_of}
use Rattle.capnp_builders.specs.ListValues.{list_read}
use Rattle.capnp_builders.proofs.ListValues.{first_read}
use Rattle.capnp_allocation.proofs.Outcomes.{if_ok_so, if_err_so}
use Rattle.capnp_copies.proofs.Growth.{none_itself, none_pruned, taken_so, list_within, list_until_within}
use Rattle.capnp_in_place.proofs.Room.PlacesStay.{grows_again, pruned_grows}
use Rattle.capnp_builders.proofs.CopiesHeld.{put_copied, put_stopped, can_later, copy_grows}
use Rattle.capnp_builders.proofs.builders.PointerBuilder.set_list.Goals as goal
use Rattle.capnp_allocation.specs.Makes.{call_at}

-- What the pointer held is zeroed, and then the list is copied to the null pointer.

pub returns-clause-copied : goal.returns-clause-copied
returns-clause-copied g c =
    if_ok_so c.copy_list.result _ _ c.copy_list.ensures.copied
    (λ x made. put_copied (copy_call (form_of c.args.canonicalize) (call_at c.args.self.now.segment c.args.self.now.at (g.A.BuilderArena.view c.args.self.now.arena.now) (g.A.BuilderArena.view c.copy_list.new.arena)) c.args.lim.now c.copy_list.new.lim)
    (g.A.BuilderArena.view c.clear.new.arena) c.clear.ensures.limits c.clear.ensures.only c.clear.ensures.cleared made)

pub returns-clause-refused : goal.returns-clause-refused
returns-clause-refused g c =
    if_err_so c.copy_list.result _ _ c.copy_list.ensures.refused
    (λ k stop. put_stopped (copy_call (form_of c.args.canonicalize) (call_at c.args.self.now.segment c.args.self.now.at (g.A.BuilderArena.view c.args.self.now.arena.now) (g.A.BuilderArena.view c.copy_list.new.arena)) c.args.lim.now c.copy_list.new.lim)
    (g.A.BuilderArena.view c.clear.new.arena) c.clear.ensures.limits c.clear.ensures.only c.clear.ensures.cleared stop)

pub returns-clause-fits : goal.returns-clause-fits
returns-clause-fits g c = λ can.
    c.copy_list.ensures.fits (can_later (list_read g.B.ReaderArena c.args.value.now) (form_of c.args.canonicalize) c.args.lim.now (g.A.BuilderArena.view c.args.self.now.arena.now) (g.A.BuilderArena.view c.clear.new.arena) c.args.self.now.segment c.clear.ensures.limits c.clear.ensures.only can)

pub returns-clause-grows : goal.returns-clause-grows
returns-clause-grows g c =
    grows_again _ _ _ (pruned_grows c.clear.ensures.only) (copy_grows c.copy_list.result (list_read g.B.ReaderArena c.args.value.now) (copy_call (form_of c.args.canonicalize) (call_at c.args.self.now.segment c.args.self.now.at (g.A.BuilderArena.view c.clear.new.arena) (g.A.BuilderArena.view c.copy_list.new.arena)) c.args.lim.now c.copy_list.new.lim) c.copy_list.ensures.copied c.copy_list.ensures.refused)

pub returns-clause-stays : goal.returns-clause-stays
returns-clause-stays g c = record { builder = search rules; there = omega (arith, (returns-clause-grows g c).words c.args.self.now.segment, c.requires.place) }

pub returns-clause-taken : goal.returns-clause-taken
returns-clause-taken g c =
    let before = none_pruned (g.A.BuilderArena.view c.args.self.now.arena.now) (g.A.BuilderArena.view c.clear.new.arena) c.clear.ensures.limits c.clear.ensures.only in
    let last = none_itself (g.A.BuilderArena.view c.copy_list.new.arena) in
    taken_so c.copy_list.result _ _ _ _
    (λ x. list_within c.args.value.now.element_size c.args.value.now.struct_size c.args.value.now.count (first_read g.B.ReaderArena c.args.value.now) (copy_call (form_of c.args.canonicalize) (call_at c.args.self.now.segment c.args.self.now.at (g.A.BuilderArena.view c.clear.new.arena) (g.A.BuilderArena.view c.copy_list.new.arena)) c.args.lim.now c.copy_list.new.lim)
    (copy_call (form_of c.args.canonicalize) (call_at c.args.self.now.segment c.args.self.now.at (g.A.BuilderArena.view c.args.self.now.arena.now) (g.A.BuilderArena.view c.copy_list.new.arena)) c.args.lim.now c.copy_list.new.lim) before last refl x)
    (λ x. list_until_within c.args.value.now.element_size c.args.value.now.struct_size c.args.value.now.count (first_read g.B.ReaderArena c.args.value.now) (copy_call (form_of c.args.canonicalize) (call_at c.args.self.now.segment c.args.self.now.at (g.A.BuilderArena.view c.clear.new.arena) (g.A.BuilderArena.view c.copy_list.new.arena)) c.args.lim.now c.copy_list.new.lim)
    (copy_call (form_of c.args.canonicalize) (call_at c.args.self.now.segment c.args.self.now.at (g.A.BuilderArena.view c.args.self.now.arena.now) (g.A.BuilderArena.view c.copy_list.new.arena)) c.args.lim.now c.copy_list.new.lim) before last refl x) c.copy_list.ensures.taken
