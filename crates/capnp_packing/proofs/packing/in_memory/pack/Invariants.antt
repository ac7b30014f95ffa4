use Rattle.std.proofs.Common.{◌≡◌, ◌≤◌, ◌-◌, ◌%◌, length, take}
use Rattle.capnp_packing.specs.Packing.{Packs}
use Rattle.capnp_packing.proofs.packing.in_memory.pack.Given as goal

abbrev pub invariant-loop-taken : goal.invariant-loop-taken
invariant-loop-taken l = record {
  packed : Packs l.packed.items (take l.taken l.words);
  words : l.taken % 8 ≡ 0;
  within : l.taken ≤ length l.words;
}

abbrev pub decreases-loop-taken : goal.decreases-loop-taken
decreases-loop-taken l = length l.words - l.taken
