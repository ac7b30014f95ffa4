use Rattle.std.proofs.Common.{refl}
use Rattle.capnp_pointers.specs.Expected.{data_expected}
use Rattle.typed_reading.specs.Sections.{pointer_field}
use Rattle.typed_reading.specs.Values.{child}
use Rattle.typed_reading.proofs.Defaults.{not_null, same_bytes, data_of_default, data_of_value}
use Rattle.typed_reading.proofs.Outcomes.{null_outcome}
use Rattle.typed_reading.proofs.value.get_data_or.Goals as goal

pub returns-then-is_null : goal.returns-then-is_null
returns-then-is_null g c = record {
  value = λ t shows. data_of_default c.args.default.now (child c.args.index t) ((c.is_null.ensures.value t shows).0 c.if-is_null.true);
  answered = λ t shows is covers. refl;
  spent = λ t shows other. absurd (other ((c.is_null.ensures.value t shows).0 c.if-is_null.true));
  exactly = null_outcome data_expected (pointer_field g.A.ReaderArena c.args.reader.now c.args.index) c.args.lim.now (c.is_null.ensures.word.0 c.if-is_null.true);
}

pub returns : goal.returns
returns g c =
    let found = c.get_data.ensures in
    record {
      value = λ t shows. same_bytes c.get_data.result (data_of_value c.args.default.now (child c.args.index t) (not_null (c.is_null.ensures.value t shows) c.if-is_null.false)) (found.value t shows);
      answered = found.answered;
      spent = found.spent;
      exactly = found.exactly;
    }
