use Rattle.std.proofs.Common.{subst, arith}
use Rattle.capnp_pointers.specs.Reading.{Reading}
use Rattle.capnp_pointers.specs.Pointers.{reading}
use Rattle.capnp_pointers.specs.declared.object.Purpose.TheVariants.{Value}
use Rattle.capnp_pointers.specs.Objects.{IsObjectRead}
use Rattle.capnp_messages.proofs.PathLemmas.{pointers_room, struct_room, structs_room}
use Rattle.capnp_messages.proofs.messages.path.Reached.child_of_object.Goals as goal

pub inside-requires : goal.inside-requires
inside-requires g c =
    let r : Reading = reading g.A.ReaderArena c.args.from in
    let room = struct_room r c.in-Struct.start c.in-Struct.size (subst (IsObjectRead Value r) c.in-Struct.is c.requires) in
    record { held = room.held; inside = omega (arith, room.inside, c.from-words.ensures, c.from-pointers.ensures) }

pub inside-requires-in-Pointers : goal.inside-requires-in-Pointers
inside-requires-in-Pointers g c =
    let r : Reading = reading g.A.ReaderArena c.args.from in
    let room = pointers_room r c.in-Pointers.start c.in-Pointers.count (subst (IsObjectRead Value r) c.in-Pointers.is c.requires) in
    record { held = room.held; inside = omega (arith, room.inside) }

pub element_of_list-requires : goal.element_of_list-requires
element_of_list-requires g c =
    let r : Reading = reading g.A.ReaderArena c.args.from in
    let room = structs_room r c.in-Structs.start c.in-Structs.size c.in-Structs.count (subst (IsObjectRead Value r) c.in-Structs.is c.requires) in
    record { held = room.held; inside = room.inside }
