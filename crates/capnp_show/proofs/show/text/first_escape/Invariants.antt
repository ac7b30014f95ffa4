use Rattle.std.proofs.Common.{◌≡◌, take}
use Rattle.capnp_show.specs.Line.{escaped}
use Rattle.capnp_show.proofs.show.text.first_escape.Given as goal

abbrev pub invariant-loop-at : goal.invariant-loop-at
invariant-loop-at l = escaped (take l.at l.bytes) ≡ take l.at l.bytes
