use Rattle.capnp_framing.proofs.ReadingLemmas.{frame_is_read}
use Rattle.capnp_framing.proofs.laws.frame_is_read.Goals as goal

pub returns : goal.returns
returns c = frame_is_read
