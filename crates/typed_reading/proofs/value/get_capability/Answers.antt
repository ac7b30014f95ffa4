use Rattle.std.proofs.Common.{◌≡◌, subst}
use Rattle.capnp_pointers.specs.Reading.{word_of}
use Rattle.capnp_readers.specs.Readers.{read_by}
use Rattle.typed_reading.proofs.Outcomes.{capability_is}
use Rattle.typed_reading.proofs.Sections.{field_read}
use Rattle.typed_reading.specs.Outcomes.{capability_index}
use Rattle.typed_reading.proofs.value.get_capability.Goals as goal

pub returns-clause-exactly : goal.returns-clause-exactly
returns-clause-exactly g c =
    let field = c.get_pointer_field.ensures in
    let found = c.get_capability.ensures in
    let place = field_read g.A.ReaderArena c.args.reader.now c.args.index c.get_pointer_field.result field.source field.place field.nesting field.nothing field.nowhere in
    let word = word_of (read_by g.A.ReaderArena c.get_pointer_field.result) in
    subst (λ r. c.get_capability.result ≡ capability_index (word_of r)) place (capability_is word c.get_capability.result found.exactly found.index found.null found.another)
