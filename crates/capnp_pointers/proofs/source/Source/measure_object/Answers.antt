use Rattle.std.proofs.Common.{w32}
use Rattle.std.proofs.lemmas.Int.{to_z-of_z}
use Rattle.capnp_pointers.specs.declared.object.Purpose.TheVariants.{Size}
use Rattle.capnp_pointers.specs.Reading.{Reading, reading_at}
use Rattle.capnp_pointers.proofs.OneObject.ShapeOfWord.{object_read}
use Rattle.capnp_pointers.proofs.source.Source.measure_object.Goals as goal

pub returns : goal.returns
returns g c =
    let r : Reading = reading_at g.A.ReaderArena c.args.self c.args.place c.args.nesting_limit in
    let read = rw (to_z-of_z w32 c.args.nesting_limit c.ranges.nesting_limit) at c.read_for_purpose.ensures in
    record { object = object_read Size r c.args.lim.now c.read_for_purpose.new.lim c.read_for_purpose.result read.computed read.held; few = read.few; computed = read.computed }
