use Rattle.capnp_messages.proofs.CanonicalizeLemmas.{value_if, value_is, words_are}
use Rattle.capnp_messages.proofs.messages.laws.copies_computed.Goals as goal

pub returns : goal.returns
returns c = record { value = λ S limits t. (value_if, value_is); words = words_are }
