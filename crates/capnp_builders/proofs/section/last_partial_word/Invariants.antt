use Rattle.std.proofs.Common.{◌≡◌, ◌≤◌, length, drop}
use Rattle.capnp_format.specs.Numbers.{from_digits}
use Rattle.capnp_builders.proofs.section.last_partial_word.Given as goal

abbrev pub invariant-loop-i : goal.invariant-loop-i
invariant-loop-i l = record {
  above : l.whole ≤ l.i;
  within : l.i ≤ length l.bytes;
  value : l.word ≡ from_digits 256 (drop l.i l.bytes);
}

abbrev pub decreases-loop-i : goal.decreases-loop-i
decreases-loop-i l = l.i
