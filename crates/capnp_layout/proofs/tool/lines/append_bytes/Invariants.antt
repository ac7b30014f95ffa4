use Rattle.std.proofs.Common.{◌≡◌, ◌++◌, take}
use Rattle.capnp_layout.proofs.tool.lines.append_bytes.Given as goal

abbrev pub invariant-loop-byte : goal.invariant-loop-byte
invariant-loop-byte g l = record {
  kept : l.list.items ≡ l.fn.list.items ++ take l.byte-index l.bytes;
  granted : g.A.Allocator.refusals l.allocator ≡ g.A.Allocator.refusals l.fn.allocator;
}
