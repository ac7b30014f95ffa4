use Rattle.std.proofs.Common.{rules}
use Rattle.capnp_readers.proofs.Targets.{struct_target, flat_target, pointers_target}
use Rattle.capnp_readers.proofs.readers.PointerReader.target_of.Goals as goal

pub returns-in-Struct : goal.returns-in-Struct
returns-in-Struct g c = λ m m' object.
    struct_target g.A.ReaderArena c.args.self c.in-Struct.start c.in-Struct.size (rw c.in-Struct.is at object) c.starting_at.ensures.shows (c.starting_at.ensures.source, search rules)

pub returns-in-Flat : goal.returns-in-Flat
returns-in-Flat g c = λ m m' object.
    let made = c.starting_at-in-Flat.ensures in
    flat_target g.A.ReaderArena c.args.self c.in-Flat.start (rw c.in-Flat.is at object) made.size made.shows (made.source, search rules)

pub returns-in-Pointers : goal.returns-in-Pointers
returns-in-Pointers g c = λ m m' object.
    let made = c.starting_at-in-Pointers.ensures in
    pointers_target g.A.ReaderArena c.args.self c.in-Pointers.start (rw c.in-Pointers.is at object) made.size made.shows (made.source, search rules)
