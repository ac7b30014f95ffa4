use Rattle.std.proofs.Common.{rules}
use Rattle.std.proofs.lemmas.Int.{to_z-of_z}
use mir.Syntax.{w32}
use Rattle.capnp_pointers.specs.Reading.{Reading}
use Rattle.capnp_pointers.specs.Pointers.{reading}
use Rattle.capnp_pointers.proofs.OneObject.ShapeOfWord.{object_read, was_read}
use Rattle.capnp_pointers.proofs.pointers.Pointer.read.Goals as goal

pub returns : goal.returns
returns g c =
    let r : Reading = reading g.A.ReaderArena c.args.self in
    let read = rw (to_z-of_z w32 c.args.self.nesting_limit (search rules)) at c.read_for_purpose.ensures in
    let object = object_read c.args.purpose r c.args.lim.now c.read_for_purpose.new.lim c.read_for_purpose.result read.computed read.held in
    record { computed = read.computed; object = was_read c.args.purpose r _ _ c.read_for_purpose.result object read.few; held = read.held }
