use Rattle.std.proofs.Common.{◌<◌, ◌^◌, ℕ, List, length, sym, subst}
use Rattle.std.proofs.lemmas.List.Elements.{All-from_get_or}
use Rattle.capnp_format.specs.Bytes.{words_of}
use Rattle.capnp_format.proofs.WordsOf.{small_word}
use Rattle.capnp_framing.specs.Writing.{Writes}
use Rattle.capnp_framing.proofs.TableLemmas.{bytes-words}
use Rattle.capnp_framing.proofs.framing.writing.write_words.Goals as goal

pub returns-clause-writes : goal.returns-clause-writes
returns-clause-writes g c =
    subst (λ (bs : List ℕ). Writes g.W.Output c.write_all.result c.args.output.now c.write_all.new.output bs) (sym (bytes-words (length (words_of c.args.words.now)) c.args.words.now c.requires.whole (λ i. (c.type_inv.words i).fits))) c.write_all.ensures

pub returns-clause-words : goal.returns-clause-words
returns-clause-words g c = All-from_get_or (λ w. w < 2 ^ 64) (words_of c.args.words.now) 0 (λ i inside. small_word c.args.words.now (λ j. (c.type_inv.words j).fits) i)
