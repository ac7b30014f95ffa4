use Rattle.capnp_readers.proofs.Same.{same_words}
use Rattle.capnp_readers.proofs.laws.same_words.Goals as goal

pub returns : goal.returns
returns c = same_words
