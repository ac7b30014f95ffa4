use Rattle.typed_reading.proofs.Sections.{field_read}
use Rattle.typed_reading.proofs.value.get_pointer.Goals as goal

pub returns-clause-place : goal.returns-clause-place
returns-clause-place g c =
    let field = c.get_pointer_field.ensures in
    field_read g.A.ReaderArena c.args.reader.now c.args.index c.get_pointer_field.result field.source field.place field.nesting field.nothing field.nowhere
