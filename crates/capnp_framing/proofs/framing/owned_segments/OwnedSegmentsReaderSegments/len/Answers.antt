use Rattle.std.proofs.Common.{sym}
use Rattle.capnp_framing.proofs.FlatLemmas.{length-parts}
use Rattle.capnp_framing.proofs.framing.owned_segments.OwnedSegmentsReaderSegments.len.Goals as goal

pub returns : goal.returns
returns c = sym (length-parts c.args.self.now.count c.args.self.now.table.items c.args.self.now.words.items)
