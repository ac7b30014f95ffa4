use Rattle.std.proofs.Common.{◌≡◌, ◌+◌}
use Rattle.capnp_framing.specs.Wholeness.{KeepsWhole}
use Rattle.capnp_streams.specs.Diffs.{AreAllWorking, ArePairsDone, diff_stage}
use Rattle.capnp_streams.proofs.streams.diffs.run_diff.Given as goal

abbrev pub invariant-loop-number : goal.invariant-loop-number
invariant-loop-number g l = record {
  done : ArePairsDone l.task.limits
      (diff_stage g.L.Input g.R.Input g.W.Output l.fn.left l.fn.right l.fn.output)
      (diff_stage g.L.Input g.R.Input g.W.Output l.left l.right l.output) l.counts;
  number : l.counts.messages + 1 ≡ l.number;
  works : AreAllWorking g.L.Input g.R.Input g.W.Output l.left l.right l.output;
  whole_left : KeepsWhole (g.L.Input.ends_whole l.fn.left) (g.L.Input.ends_whole l.left);
  whole_right : KeepsWhole (g.R.Input.ends_whole l.fn.right) (g.R.Input.ends_whole l.right);
}
