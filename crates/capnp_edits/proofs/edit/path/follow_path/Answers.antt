use Rattle.std.proofs.Common.{refl}
use Rattle.capnp_edits.proofs.Steps.{step_taken, step_nowhere}
use Rattle.capnp_edits.proofs.edit.path.follow_path.Goals as goal

pub returns-in-None-clause-found : goal.returns-in-None-clause-found
returns-in-None-clause-found g c = λ t stored. step_nowhere _ 0 0 t c.loop-step.step-index c.args.path.now c.loop-step.here c.loop-step-test.true (c.loop-step.invariant.found t stored) stored _ c.in-None.ensures.steps

-- without a step the path leads to the root itself
pub loop-step-init : goal.loop-step-init
loop-step-init g c = record { inside = c.requires; found = λ t stored. (t, refl) }

pub loop-step-preserved : goal.loop-step-preserved
loop-step-preserved g c = record {
  inside = c.in-Some.ensures.inside;
  found = λ t stored. step_taken _ 0 0 t c.loop-step.step-index c.args.path.now c.loop-step.here c.in-Some.next c.loop-step-test.true (c.loop-step.invariant.found t stored) stored _ c.in-Some.ensures.steps;
}
