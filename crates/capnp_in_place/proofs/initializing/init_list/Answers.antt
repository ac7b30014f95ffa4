use Rattle.capnp_words.specs.Sizes.{size_number}
use Rattle.capnp_arena_traits.specs.View.{View}
use Rattle.capnp_allocation.specs.Made.{zero_list, list_words}
use Rattle.capnp_in_place.proofs.Room.PlacesStay.{object_grows}
use Rattle.capnp_in_place.proofs.Room.MadeAfterZeroing.{gives_after_zeros}
use Rattle.capnp_allocation.proofs.Outcomes.{if_ok_so}
use Rattle.capnp_allocation.proofs.Taken.{ends_after, starts_after}
use Rattle.capnp_in_place.proofs.initializing.init_list.Goals as goal

-- The old object is zeroed, and then the new one is made.
pub returns-clause-gives : goal.returns-clause-gives
returns-clause-gives g c =
    let old : View = g.A.BuilderArena.view c.args.arena.now in
    let mid : View = g.A.BuilderArena.view c.zero_object.new.arena in
    let new : View = g.A.BuilderArena.view c.make_list.new.arena in
    let e = c.make_list.ensures in
    gives_after_zeros c.make_list.result old mid new c.args.id c.args.at (list_words (size_number c.args.size) c.args.count) (zero_list (size_number c.args.size) c.args.count) c.zero_object.ensures.zeroes e.made e.start e.memory e.refused

pub returns-clause-at_end : goal.returns-clause-at_end
returns-clause-at_end g c = λ fits.
    (let old : View = g.A.BuilderArena.view c.args.arena.now in
    let mid : View = g.A.BuilderArena.view c.zero_object.new.arena in
    let pruned = c.zero_object.ensures.zeroes.pruned in
    if_ok_so c.make_list.result _ _ (c.make_list.ensures.at_end (ends_after old mid c.args.id _ c.zero_object.ensures.zeroes.limits pruned fits)) (λ h. starts_after old.words mid.words c.args.id h pruned))

pub returns-clause-grows : goal.returns-clause-grows
returns-clause-grows g c = object_grows c.make_list.result (returns-clause-gives g c).object
