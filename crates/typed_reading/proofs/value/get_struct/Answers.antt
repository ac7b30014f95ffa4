use Rattle.capnp_pointers.specs.Reading.{source_start}
use Rattle.capnp_readers.specs.Readers.{read_by}
use Rattle.capnp_readers.specs.Values.{child_cost}
use Rattle.typed_reading.specs.Sections.{pointer_field}
use Rattle.typed_reading.specs.Values.{child}
use Rattle.typed_reading.proofs.Left.{stays_itself, struct_left}
use Rattle.typed_reading.proofs.Outcomes.{struct_outcome}
use Rattle.typed_reading.proofs.Sections.{field_read, sections_if}
use Rattle.typed_reading.proofs.value.get_struct.Goals as goal

pub get_struct-requires : goal.get_struct-requires
get_struct-requires g c = record { small = tt }

pub returns : goal.returns
returns g c =
    let field = c.get_pointer_field.ensures in
    let read = c.get_struct.ensures in
    let place = field_read g.A.ReaderArena c.args.reader.now c.args.index c.get_pointer_field.result field.source field.place field.nesting field.nothing field.nowhere in
    let here = pointer_field g.A.ReaderArena c.args.reader.now c.args.index in
    record {
      value = λ t shows. read.value (child c.args.index t) (field.value t shows);
      answered = λ t shows is covers.
          let k = child_cost g.A.ReaderArena shows c.args.index in
          read.answered (child c.args.index t) k tt is (field.means t shows) (field.stays.affords c.args.lim.now k covers);
      spent = λ t shows other. rw (field.charging t shows other) at (read.spent (child c.args.index t) (child_cost g.A.ReaderArena shows c.args.index) other (field.means t shows));
      left = λ t shows covers.
          let from = read_by g.A.ReaderArena c.get_pointer_field.result in
          struct_left g.A.ReaderArena c.get_pointer_field.result c.args.lim.now c.get_struct.new.lim c.get_struct.result read.read (read.stays from (stays_itself from))
          (child c.args.index t) (child_cost g.A.ReaderArena shows c.args.index) (field.means t shows) (field.stays.affords c.args.lim.now (child_cost g.A.ReaderArena shows c.args.index) covers);
      exactly = struct_outcome g.A.ReaderArena c.get_pointer_field.result here place c.args.lim.now c.get_struct.new.lim c.get_struct.result read.exactly read.read read.refused;
      sections = sections_if g.A.ReaderArena c.get_pointer_field.result here place c.args.lim.now c.get_struct.new.lim c.get_struct.result read.read;
      stays = read.stays (source_start g.A.ReaderArena c.args.reader.now.source) field.stays;
    }
