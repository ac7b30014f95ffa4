use Rattle.std.proofs.Common.{◌≡◌, ℕ, ◌+◌, ◌*◌, ◌<◌, ◌≤◌, length, slice_index}
use Rattle.capnp_framing.specs.Reading.{max_length, words_told}
use Rattle.capnp_framing.proofs.framing.reading.segment_ends.Given as goal

abbrev pub invariant-loop-i : goal.invariant-loop-i
invariant-loop-i g l = record {
  long : length l.ends.items ≡ l.i;
  kept : (k : ℕ) → k < l.i → slice_index l.ends.items k ≡ words_told (k + 1) l.table;
  sum : l.sum ≡ words_told l.i l.table;
  small : l.sum ≤ max_length * l.i;
  granted : g.A.Allocator.refusals l.allocator ≡ g.A.Allocator.refusals l.fn.allocator;
}
