use Rattle.std.proofs.Common.{◌≡◌, ◌≤◌, ◌-◌, ◌%◌, length, take}
use Rattle.capnp_packing.specs.Packing.{Packs}
use Rattle.capnp_packing.proofs.packing.words.pack_words.Given as goal

abbrev pub invariant-loop-taken : goal.invariant-loop-taken
invariant-loop-taken l = record {
  packed : Packs (take l.given l.to) (take l.taken l.from);
  words : l.taken % 8 ≡ 0;
  taken : l.taken ≤ length l.from;
  given : l.given ≤ length l.to;
  none : l.taken ≡ 0 → l.given ≡ 0;
}

abbrev pub decreases-loop-taken : goal.decreases-loop-taken
decreases-loop-taken l = length l.from - l.taken
