use Rattle.std.proofs.Common.{◌≡◌, ◌-◌, ◌≤◌, length, take, false}
use Rattle.std.specs.Io.KnownBytes.{Consumes}
use Rattle.capnp_framing.specs.Wholeness.{KeepsWhole}
use Rattle.capnp_framing.proofs.framing.reading.read_exact_to_front.Given as goal

abbrev pub invariant-loop-n : goal.invariant-loop-n
invariant-loop-n g l = record {
  within : l.n ≤ length l.to.items;
  below : l.n ≤ l.size;
  read : Consumes (g.R.Input.remaining l.fn.input) (g.R.Input.remaining l.input) (take l.n l.to.items);
  works : g.R.Input.has_failed l.input ≡ false;
  whole : KeepsWhole (g.R.Input.ends_whole l.fn.input) (g.R.Input.ends_whole l.input);
  kept : g.A.Allocator.refusals l.allocator ≡ g.A.Allocator.refusals l.fn.allocator;
}

abbrev pub decreases-loop-n : goal.decreases-loop-n
decreases-loop-n g l = l.size - l.n
