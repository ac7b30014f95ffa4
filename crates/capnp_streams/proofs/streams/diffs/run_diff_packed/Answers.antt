use Rattle.std.proofs.Common.{inr}
use Rattle.capnp_streams.specs.Diffs.{AreAllCompared, DiffStage}
use Rattle.capnp_streams.proofs.DiffPackedLemmas.{ends_cut, stages_unpacked}
use Rattle.capnp_streams.proofs.streams.diffs.run_diff_packed.Goals as goal

pub returns-clause-refused : goal.returns-clause-refused
returns-clause-refused g c =
    let done = stages_unpacked (λ (s : DiffStage). AreAllCompared c.args.task.limits s (g.W.Output.contents c.run_diff.new.output) c.in_ok-compared.compared)
    (g.L.Input.remaining c.args.left) (g.R.Input.remaining c.args.right) (g.W.Output.contents c.args.output.now) _ _
    c.new-left.ensures.remaining c.new-right.ensures.remaining c.in_ok-compared.ensures.done in
    inr (
      c.in_ok-compared.compared,
      done,
      ends_cut g.L.Input g.R.Input c.args.left c.args.right c.in_ok-compared.compared _ _ _ _ c.in-Err.fault
          c.new-left.ensures.whole c.in_ok-compared.ensures.whole_left c.new-right.ensures.whole c.in_ok-compared.ensures.whole_right c.in-Err.ensures.refused,
    )
