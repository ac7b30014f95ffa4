use Rattle.std.proofs.Common.{◌+◌, ◌*◌}
use Rattle.capnp_arena_traits.specs.View.{View}
use Rattle.capnp_allocation.specs.Made.{zero_structs}
use Rattle.capnp_in_place.proofs.Room.PlacesStay.{object_grows}
use Rattle.capnp_in_place.proofs.Room.MadeAfterZeroing.{gives_after_zeros}
use Rattle.capnp_in_place.proofs.initializing.init_struct_list.Goals as goal

-- The old object is zeroed, and then the new one is made.
pub returns-clause-gives : goal.returns-clause-gives
returns-clause-gives g c =
    let old : View = g.A.BuilderArena.view c.args.arena.now in
    let mid : View = g.A.BuilderArena.view c.zero_object.new.arena in
    let new : View = g.A.BuilderArena.view c.make_struct_list.new.arena in
    let e = c.make_struct_list.ensures in
    gives_after_zeros c.make_struct_list.result old mid new c.args.id c.args.at (1 + c.args.count * (c.args.size.data_words + c.args.size.pointers)) (zero_structs c.args.count c.args.size) c.zero_object.ensures.zeroes e.made e.start e.memory e.refused

pub returns-clause-grows : goal.returns-clause-grows
returns-clause-grows g c = object_grows c.make_struct_list.result (returns-clause-gives g c).object
