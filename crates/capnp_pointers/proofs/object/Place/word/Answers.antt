use Rattle.std.proofs.Common.{sym, ◌∙◌, arith}
use Rattle.std.proofs.lemmas.List.{get_or_past}
use Rattle.capnp_format.specs.Bytes.{words_of}
use Rattle.capnp_format.proofs.WordsOf.{words}
use Rattle.capnp_pointers.proofs.object.Place.word.Goals as goal

pub returns-else-at-self-clause-value : goal.returns-else-at-self-clause-value
returns-else-at-self-clause-value c =
    c.null.ensures ∙ sym (get_or_past (words_of c.args.self.bytes.now) c.args.self.at 0 (omega (arith, words c.args.self.bytes.now)))
