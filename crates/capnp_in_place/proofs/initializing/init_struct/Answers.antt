use Rattle.std.proofs.Common.{◌+◌, sym}
use Rattle.capnp_format.specs.Segments.{Segments}
use Rattle.capnp_arena_traits.specs.View.{View}
use Rattle.capnp_allocation.specs.Made.{zero_struct}
use Rattle.capnp_allocation.proofs.MadeWords.{word_put}
use Rattle.capnp_in_place.proofs.Room.PlacesStay.{object_grows}
use Rattle.capnp_in_place.proofs.Room.MadeAfterZeroing.{gives_after_zeros}
use Rattle.capnp_allocation.proofs.Outcomes.{on_made_so}
use Rattle.capnp_in_place.proofs.initializing.init_struct.Goals as goal

-- The old object is zeroed, and then the new one is made.
pub returns-clause-gives : goal.returns-clause-gives
returns-clause-gives g c =
    let old : View = g.A.BuilderArena.view c.args.arena.now in
    let mid : View = g.A.BuilderArena.view c.zero_object.new.arena in
    let new : View = g.A.BuilderArena.view c.make_struct.new.arena in
    let e = c.make_struct.ensures in
    gives_after_zeros c.make_struct.result old mid new c.args.id c.args.at (c.args.size.data_words + c.args.size.pointers) (zero_struct c.args.size) c.zero_object.ensures.zeroes e.made e.start e.memory e.refused

pub returns-clause-empty : goal.returns-clause-empty
returns-clause-empty g c = λ none.
    (let M : Segments = (g.A.BuilderArena.view c.zero_object.new.arena).words in
    let R : Segments = (g.A.BuilderArena.view c.make_struct.new.arena).words in
    let place = rw (sym (c.zero_object.ensures.zeroes.pruned.words c.args.id)) at c.requires.place in
    on_made_so c.make_struct.result _ _ (c.make_struct.ensures.empty none) (λ set. (word_put M R c.args.id c.args.at _ place set).here))

pub returns-clause-grows : goal.returns-clause-grows
returns-clause-grows g c = object_grows c.make_struct.result (returns-clause-gives g c).object
