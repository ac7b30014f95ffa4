use Rattle.std.proofs.Common.{◌≤◌}
use Rattle.capnp_show.proofs.show.text.text_prefix.Given as goal

abbrev pub invariant-loop-end : goal.invariant-loop-end
invariant-loop-end l = l.end ≤ 1024

abbrev pub decreases-loop-end : goal.decreases-loop-end
decreases-loop-end l = l.end
