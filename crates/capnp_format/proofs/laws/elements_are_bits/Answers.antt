-- The words of a list are its bytes.
use Rattle.capnp_format.proofs.laws.elements_are_bits.Goals as goal
use Rattle.capnp_format.proofs.BytesLemmas.{words_are_bytes}

pub returns-clause-bytes : goal.returns-clause-bytes
returns-clause-bytes c = words_are_bytes
