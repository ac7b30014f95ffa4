use Rattle.std.proofs.Common.{◌≤◌, ◌-◌}
use Rattle.capnp_show.proofs.show.compare.common_prefix_length.Given as goal

abbrev pub invariant-loop-at : goal.invariant-loop-at
invariant-loop-at l = l.at ≤ l.most

abbrev pub decreases-loop-at : goal.decreases-loop-at
decreases-loop-at l = l.most - l.at
