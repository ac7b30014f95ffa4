use Rattle.typed_reading.proofs.Sections.{null_field}
use Rattle.typed_reading.proofs.value.is_null.Goals as goal

pub returns-clause-word : goal.returns-clause-word
returns-clause-word g c = null_field g.A.ReaderArena c.args.reader.now c.args.index c.is_pointer_field_null.result c.is_pointer_field_null.ensures.null
