use Rattle.capnp_messages.proofs.SizeLemmas.{size_of_value}
use Rattle.capnp_messages.proofs.messages.laws.sizes_computed.Goals as goal

pub returns : goal.returns
returns c = size_of_value
