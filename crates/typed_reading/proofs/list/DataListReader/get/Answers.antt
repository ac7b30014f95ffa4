use Rattle.std.proofs.Common.{◌≡◌, refl}
use Rattle.capnp_pointers.specs.Expected.{data_expected}
use Rattle.capnp_readers.specs.Readers.{read_by}
use Rattle.typed_reading.specs.Sections.{element_pointer}
use Rattle.typed_reading.proofs.Outcomes.{bytes_outcome}
use Rattle.capnp_readers.specs.Values.{pointer_cost}
use Rattle.typed_reading.proofs.Elements.{element_holds}
use Rattle.typed_reading.specs.Values.{pointer_element}
use Rattle.typed_reading.proofs.list.DataListReader.get.Goals as goal

pub get_pointer_element-requires : goal.get_pointer_element-requires
get_pointer_element-requires g c =
    let list = c.args.self.now.reader in
    record { range = c.requires; pointers = element_holds list.element_size list.struct_size c.args.index list.count list.sized c.args.self.now.pointers c.requires }

pub get_data-requires : goal.get_data-requires
get_data-requires g c = record { small = tt }

pub returns : goal.returns
returns g c =
    let element = c.get_pointer_element.ensures in
    let read = c.get_data.ensures in
    let here = element_pointer g.A.ReaderArena c.args.self.now.reader c.args.index in
    let place : read_by g.A.ReaderArena c.get_pointer_element.result ≡ here = rw (element.source, element.place.0, element.place.1, element.nesting) refl in
    record {
      value = λ t shows has. read.value (pointer_element c.args.index t) (element.value t shows has);
      answered = λ t shows has is covers. read.answered (pointer_element c.args.index t) (pointer_cost g.A.ReaderArena shows c.args.index) tt is (element.means t shows has) (rw element.source covers);
      spent = λ t shows has other. rw element.source at (read.spent (pointer_element c.args.index t) (pointer_cost g.A.ReaderArena shows c.args.index) other (element.means t shows has));
      exactly = bytes_outcome g.A.ReaderArena data_expected 0 c.get_pointer_element.result here place c.args.lim.now c.get_data.new.lim c.get_data.result read.exactly read.read read.refused;
    }
