use Rattle.capnp_framing.proofs.FrameLemmas.{one_frame_begins, one_message}
use Rattle.capnp_framing.proofs.laws.one_frame.Goals as goal

pub returns : goal.returns
returns c = record { begins = one_frame_begins; message = one_message }
