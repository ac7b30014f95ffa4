use Rattle.std.proofs.Common.{◌≡◌, take}
use Rattle.capnp_words.proofs.lanes.copy_short.Given as goal

abbrev pub invariant-loop-i : goal.invariant-loop-i
invariant-loop-i l = take l.i l.to ≡ take l.i l.from
