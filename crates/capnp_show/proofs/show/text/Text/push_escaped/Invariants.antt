use Rattle.std.proofs.Common.{◌≡◌, ◌++◌, length}
use Rattle.capnp_show.specs.Line.{escaped}
use Rattle.capnp_show.proofs.show.text.Text.push_escaped.Given as goal

abbrev pub invariant-loop-at : goal.invariant-loop-at
invariant-loop-at l = l.self.bytes.items ++ escaped l.rest ≡ l.initial.self.bytes.items ++ escaped l.bytes

abbrev pub decreases-loop-at : goal.decreases-loop-at
decreases-loop-at l = length l.rest
