use Rattle.capnp_framing.proofs.BareLemmas.{bare_words_are_read, words_are_bare}
use Rattle.capnp_framing.proofs.laws.raw_words_are_read.Goals as goal

pub returns : goal.returns
returns c = record { same = words_are_bare; read = bare_words_are_read }
