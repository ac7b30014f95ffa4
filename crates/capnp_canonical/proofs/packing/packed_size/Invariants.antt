use Rattle.std.proofs.Common.{◌≡◌, ◌+◌, ◌-◌, ◌≤◌, ◌%◌, length, drop}
use Rattle.capnp_canonical.specs.PackedWords.{packed_words}
use Rattle.capnp_canonical.proofs.packing.packed_size.Given as goal

abbrev pub invariant-loop-taken : goal.invariant-loop-taken
invariant-loop-taken l = record {
  size : l.size + length (packed_words (drop l.taken l.words)) ≡ length (packed_words l.words);
  whole : l.taken % 8 ≡ 0;
  within : l.taken ≤ length l.words;
}

abbrev pub decreases-loop-taken : goal.decreases-loop-taken
decreases-loop-taken l = length l.words - l.taken
