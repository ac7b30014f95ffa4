use Rattle.std.proofs.Common.{◌≡◌, ◌∙◌, false, true, rules, sym}
use Rattle.capnp_messages.specs.Copies.{is_message_too_large}
use Rattle.capnp_messages.specs.PathEnds.{end_read}
use Rattle.capnp_messages.proofs.TryLemmas.{measured, measured_over, measured_refused, measured_some}
use Rattle.capnp_messages.proofs.messages.canonical_copy.measured_room.Goals as goal

pub returns-in-Ok-clause-measured : goal.returns-in-Ok-clause-measured
returns-in-Ok-clause-measured g c = measured (end_read g.B.ReaderArena c.args.from) c.args.left c.in-Ok.words c.copy_size.ensures.there c.in-Ok.ensures.counted c.at_most_a_segment.ensures

pub returns-in-Ok-clause-can_be_asked : goal.returns-in-Ok-clause-can_be_asked
returns-in-Ok-clause-can_be_asked g c = measured_some (end_read g.B.ReaderArena c.args.from) c.args.left c.in-Ok.words c.copy_size.ensures.there c.in-Ok.ensures.counted c.at_most_a_segment.ensures

pub returns-then-is_too_large-clause-measured : goal.returns-then-is_too_large-clause-measured
returns-then-is_too_large-clause-measured g c =
    let large : is_message_too_large c.in-Err.kind ≡ true = search rules in
    measured_over (end_read g.B.ReaderArena c.args.from) c.args.left c.in-Err.kind c.copy_size.ensures.there c.in-Err.ensures.counted large

pub returns-else-is_too_large-clause-refused : goal.returns-else-is_too_large-clause-refused
returns-else-is_too_large-clause-refused g c =
    let other : is_message_too_large c.in-Err.kind ≡ false = sym c.is_too_large.ensures ∙ c.if-is_too_large.false in
    measured_refused (end_read g.B.ReaderArena c.args.from) c.args.left c.in-Err.kind c.copy_size.ensures.there c.in-Err.ensures.counted other
