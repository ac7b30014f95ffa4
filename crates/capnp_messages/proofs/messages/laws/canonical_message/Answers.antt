use Rattle.capnp_messages.proofs.CanonicalMessageLemmas.{means_its_value, one_canonical_value}
use Rattle.capnp_messages.proofs.messages.laws.canonical_message.Goals as goal

pub returns : goal.returns
returns c = record { value = one_canonical_value; means = means_its_value }
