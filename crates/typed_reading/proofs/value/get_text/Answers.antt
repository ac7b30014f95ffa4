use Rattle.capnp_pointers.specs.Expected.{text_expected}
use Rattle.capnp_readers.specs.Values.{child_cost}
use Rattle.typed_reading.specs.Sections.{pointer_field}
use Rattle.typed_reading.specs.Values.{child}
use Rattle.typed_reading.proofs.Outcomes.{bytes_outcome}
use Rattle.typed_reading.proofs.Sections.{field_read}
use Rattle.typed_reading.proofs.value.get_text.Goals as goal

pub get_text-requires : goal.get_text-requires
get_text-requires g c = record { small = tt }

pub returns : goal.returns
returns g c =
    let field = c.get_pointer_field.ensures in
    let read = c.get_text.ensures in
    let place = field_read g.A.ReaderArena c.args.reader.now c.args.index c.get_pointer_field.result field.source field.place field.nesting field.nothing field.nowhere in
    record {
      value = λ t shows. read.value (child c.args.index t) (field.value t shows);
      answered = λ t shows is covers.
          let k = child_cost g.A.ReaderArena shows c.args.index in
          read.answered (child c.args.index t) k tt is (field.means t shows) (field.stays.affords c.args.lim.now k covers);
      spent = λ t shows other. rw (field.charging t shows other) at (read.spent (child c.args.index t) (child_cost g.A.ReaderArena shows c.args.index) other (field.means t shows));
      exactly = bytes_outcome g.A.ReaderArena text_expected 1 c.get_pointer_field.result (pointer_field g.A.ReaderArena c.args.reader.now c.args.index) place c.args.lim.now c.get_text.new.lim c.get_text.result read.exactly read.read read.refused;
    }
