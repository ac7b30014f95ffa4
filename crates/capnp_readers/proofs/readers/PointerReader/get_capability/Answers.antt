use Rattle.std.proofs.Common.{◌≡◌, get_or, ap, ◌∙◌, sym, refl}
use Rattle.std.proofs.lemmas.Bool.{false≢true}
use Rattle.capnp_pointers.specs.Reading.{word_of}
use Rattle.capnp_readers.specs.Readers.{read_by}
use Rattle.capnp_readers.proofs.readers.PointerReader.get_capability.Goals as goal

pub returns-then-is_null-clause-another : goal.returns-then-is_null-clause-another
returns-then-is_null-clause-another g c =
    let self = c.args.self.now in
    let word : c.word-word.result.0 ≡ word_of (read_by g.A.ReaderArena self) = c.word-word.ensures.value ∙ ap (λ ws. get_or ws self.place.at 0) self.held.0 in
    λ other. absurd (other (sym word ∙ c.if-is_null.ensures.0 refl))

pub returns-then-not-is_capability-clause-null : goal.returns-then-not-is_capability-clause-null
returns-then-not-is_capability-clause-null g c =
    let self = c.args.self.now in
    let word : c.word-word.result.0 ≡ word_of (read_by g.A.ReaderArena self) = c.word-word.ensures.value ∙ ap (λ ws. get_or ws self.place.at 0) self.held.0 in
    λ null. absurd (false≢true (c.if-is_null.ensures.1 (word ∙ null)))
