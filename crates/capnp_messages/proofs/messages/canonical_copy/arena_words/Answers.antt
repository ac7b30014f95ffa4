use Rattle.std.proofs.Common.{◌∙◌, ap, sym}
use Rattle.capnp_pointers.specs.Reading.{reading_at}
use Rattle.capnp_pointers.specs.declared.source.Source.{Source}
use Rattle.capnp_messages.specs.Tries.{words_read}
use Rattle.capnp_messages.proofs.TryLemmas.{total-message}
use Rattle.capnp_messages.proofs.messages.canonical_copy.arena_words.Goals as goal

pub returns-in-Arena : goal.returns-in-Arena
returns-in-Arena g c =
    let from = c.args.from.now in
    let read = λ (s : Source g.row.B.Denot). words_read (reading_at g.B.ReaderArena s from.place from.nesting_limit) in
    c.size_in_words.ensures ∙ total-message _ ∙ ap read (sym c.in-Arena.is)
