use Rattle.std.proofs.Common.{◌≡◌, ℕ, ◌*◌, ◌<◌, ◌≤◌, length, min, slice_index}
use Rattle.capnp_framing.specs.Reading.{max_length, words_told}
use Rattle.capnp_framing.proofs.framing.flat.segment_starts.Given as goal

abbrev pub invariant-loop-k : goal.invariant-loop-k
invariant-loop-k l = record {
  sum : l.sum ≡ words_told (min (32 * l.k) l.count) l.table;
  small : l.sum ≤ max_length * min (32 * l.k) l.count;
  long : length l.starts ≡ 16;
  kept : (j : ℕ) → j < l.k → (slice_index l.starts j ≡ words_told (32 * j) l.table) × (slice_index l.starts j ≤ max_length * (32 * j));
}
