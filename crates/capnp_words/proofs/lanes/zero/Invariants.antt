use Rattle.std.proofs.Common.{◌≡◌, take, replicate}
use Rattle.capnp_words.proofs.lanes.zero.Given as goal

abbrev pub invariant-loop-byte : goal.invariant-loop-byte
invariant-loop-byte l = take l.byte-index l.bytes ≡ replicate l.byte-index 0
