use Rattle.std.proofs.Common.{sym}
use Rattle.capnp_framing.proofs.FlatLemmas.{length-parts}
use Rattle.capnp_framing.proofs.framing.flat.FrameSegmentsReaderSegments.len.Goals as goal

pub returns : goal.returns
returns c = sym (length-parts c.args.self.now.count c.args.self.now.table.now c.args.self.now.words.now)
