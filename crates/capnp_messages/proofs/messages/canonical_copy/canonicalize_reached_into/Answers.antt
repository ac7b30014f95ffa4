use Rattle.std.proofs.Common.{◌≡◌, ◌∙◌, false, true, inl, rules, sym}
use Rattle.capnp_words.specs.Meter.{unused}
use Rattle.capnp_messages.specs.Copies.{is_message_too_large}
use Rattle.capnp_messages.specs.PathEnds.{end_read}
use Rattle.capnp_messages.proofs.EndRefusals.{not_too_large, too_large}
use Rattle.capnp_messages.proofs.messages.canonical_copy.canonicalize_reached_into.Goals as goal

pub returns-then-is_too_large-clause-small : goal.returns-then-is_too_large-clause-small
returns-then-is_too_large-clause-small g c =
    let large : is_message_too_large c.in-Err.kind ≡ true = search rules in
    inl (too_large (end_read g.B.ReaderArena c.args.from) (unused c.args.left) c.args.room c.in-Err.kind large c.in-Err.ensures.refused)

pub returns-then-is_too_large-clause-sure : goal.returns-then-is_too_large-clause-sure
returns-then-is_too_large-clause-sure g c = λ first grants.
    let large : is_message_too_large c.in-Err.kind ≡ true = search rules in
    too_large (end_read g.B.ReaderArena c.args.from) (unused c.args.left) c.args.room c.in-Err.kind large c.in-Err.ensures.refused

pub returns-else-is_too_large-clause-refused : goal.returns-else-is_too_large-clause-refused
returns-else-is_too_large-clause-refused g c =
    let other : is_message_too_large c.in-Err.kind ≡ false = sym c.is_too_large.ensures ∙ c.if-is_too_large.false in
    not_too_large (end_read g.B.ReaderArena c.args.from) (unused c.args.left) c.args.room c.in-Err.kind other c.in-Err.ensures.refused
