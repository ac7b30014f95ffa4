use Rattle.capnp_pointers.specs.Reading.{Reading, reading_at}
use Rattle.capnp_pointers.proofs.OneObject.TypeAsStated.{typed_ok, typed_exactly, untyped_refused}
use Rattle.capnp_pointers.proofs.source.Source.read_type.Goals as goal

pub returns : goal.returns
returns g c =
    let r : Reading = reading_at g.A.ReaderArena c.args.self c.args.place c.args.nesting_limit in
    let read = c.type_at.ensures in
    record {
      of_type = typed_ok r c.args.lim.now c.type_at.new.lim c.type_at.result read;
      exactly = typed_exactly r c.args.lim.now c.type_at.new.lim c.type_at.result read;
      refused = untyped_refused r c.args.lim.now c.type_at.new.lim c.type_at.result read;
    }
