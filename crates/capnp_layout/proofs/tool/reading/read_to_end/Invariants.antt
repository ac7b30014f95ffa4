use Rattle.std.proofs.Common.{◌≡◌, ◌-◌, ◌^◌, vec_len, false}
use Rattle.std.specs.Io.KnownBytes.{Consumes}
use Rattle.capnp_layout.proofs.tool.reading.read_to_end.Given as goal

abbrev pub invariant-loop-text : goal.invariant-loop-text
invariant-loop-text g l = record {
  read : Consumes (g.R.Input.remaining l.fn.input) (g.R.Input.remaining l.input) l.text.items;
  works : g.R.Input.has_failed l.input ≡ false;
  granted : g.A.Allocator.refusals l.allocator ≡ g.A.Allocator.refusals l.fn.allocator;
}

abbrev pub decreases-loop-text : goal.decreases-loop-text
decreases-loop-text g l = 2 ^ 64 - vec_len l.text
