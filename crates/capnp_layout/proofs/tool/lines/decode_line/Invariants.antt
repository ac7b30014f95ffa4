use Rattle.std.proofs.Common.{◌≡◌, length}
use Rattle.capnp_layout.proofs.tool.lines.decode_line.Given as goal

abbrev pub invariant-loop : goal.invariant-loop
invariant-loop g l = record {
  size : length l.bytes.items ≡ l.counter;
  granted : g.A.Allocator.refusals l.allocator ≡ g.A.Allocator.refusals l.fn.allocator;
}
