use Rattle.std.proofs.Common.{◌≡◌, take, replicate}
use Rattle.capnp_words.proofs.lanes.zero_short.Given as goal

abbrev pub invariant-loop-i : goal.invariant-loop-i
invariant-loop-i l = take l.i l.bytes ≡ replicate l.i 0
