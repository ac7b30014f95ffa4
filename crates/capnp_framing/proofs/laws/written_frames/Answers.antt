use Rattle.capnp_framing.proofs.FrameLemmas.{written_is_frame, same_frames}
use Rattle.capnp_framing.proofs.ReadingLemmas.{frames_as_long}
use Rattle.capnp_framing.proofs.laws.written_frames.Goals as goal

pub returns : goal.returns
returns c = record { framed = written_is_frame; long = frames_as_long; same = same_frames }
