use Rattle.std.proofs.Common.{◌≡◌, length, map, vec_items}
use Rattle.capnp_layout.specs.Lines.{segments_of}
use Rattle.capnp_layout.proofs.LineLemmas.{in_front}
use Rattle.capnp_layout.proofs.tool.lines.decode_lines.Given as goal

abbrev pub invariant-loop-rest : goal.invariant-loop-rest
invariant-loop-rest g l = record {
  read : segments_of l.fn.text ≡ in_front (map vec_items l.segments.items) (segments_of l.rest);
  granted : g.A.Allocator.refusals l.allocator ≡ g.A.Allocator.refusals l.fn.allocator;
}

abbrev pub decreases-loop-rest : goal.decreases-loop-rest
decreases-loop-rest g l = length l.rest
