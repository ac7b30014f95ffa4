use Rattle.std.proofs.Common.{◌≡◌, drop}
use Rattle.capnp_show.specs.Line.{has_control_after}
use Rattle.capnp_show.proofs.show.text.has_control.Given as goal

abbrev pub invariant-loop-byte : goal.invariant-loop-byte
invariant-loop-byte l = has_control_after l.before (drop l.byte-index l.bytes) ≡ has_control_after 0 l.bytes
