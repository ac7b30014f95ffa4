use Rattle.std.proofs.Common.{arith}
use Rattle.capnp_framing.proofs.FlatLemmas.{length-frame_of_parts}
use Rattle.capnp_framing.proofs.framing.owned_segments.OwnedSegments.size_in_bytes.Goals as goal

pub returns : goal.returns
returns c =
    omega (
      arith,
      c.words_before.ensures,
      length-frame_of_parts c.args.self.now.count c.args.self.now.table.items c.args.self.now.words.items (omega arith),
    )
