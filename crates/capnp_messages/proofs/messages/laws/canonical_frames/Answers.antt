use Rattle.capnp_messages.proofs.CanonicalMessageLemmas.{same_canonical_frames}
use Rattle.capnp_messages.proofs.messages.laws.canonical_frames.Goals as goal

pub returns : goal.returns
returns c = same_canonical_frames
