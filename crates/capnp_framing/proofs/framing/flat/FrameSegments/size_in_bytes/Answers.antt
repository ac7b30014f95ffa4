use Rattle.std.proofs.Common.{arith}
use Rattle.capnp_framing.proofs.FlatLemmas.{length-frame_of_parts}
use Rattle.capnp_framing.proofs.framing.flat.FrameSegments.size_in_bytes.Goals as goal

pub returns : goal.returns
returns c = omega (arith, length-frame_of_parts c.args.self.now.count c.args.self.now.table.now c.args.self.now.words.now (omega arith))
