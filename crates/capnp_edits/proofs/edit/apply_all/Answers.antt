use Rattle.std.proofs.Common.{◌≡◌, sym, ap, ◌∙◌, subst}
use Rattle.std.proofs.lemmas.List.{length-set}
use Rattle.capnp_edits.specs.Edits.{refusal_of, IsApplied, EditTakes}
use Rattle.capnp_edits.specs.Steps.{IsStep}
use Rattle.capnp_edits.proofs.Folded.{next_applied, next_turn}
use Rattle.capnp_edits.proofs.edit.apply_all.Goals as goal
use Rattle.capnp_edits.proofs.edit.apply_all.Goals.{in-Ok, in-Err}

pub loop-i-preserved : goal.loop-i-preserved
loop-i-preserved g c =
    let before = c.loop-i.invariant in
    let r = c.match-apply.outcomes in
    let same : refusal_of c.apply.result ≡ r = elim c.match-apply.branch [ in-Ok w ↦ ap refusal_of w.in-Ok.is ∙ sym w.outcomes-is | in-Err w ↦ ap refusal_of w.in-Err.is ∙ sym w.outcomes-is ] in
    let edit = c.index-edits-i.result in
    let old = g.A.BuilderArena.view c.loop-i.arena in
    let new = g.A.BuilderArena.view c.apply.new.arena in
    let step = subst (λ e. IsStep e (refusal_of c.apply.result) old new) c.index-edits-i.is c.apply.ensures in
    let applied = subst (λ e. IsApplied (EditTakes e (refusal_of c.apply.result)) old.words new.words) c.index-edits-i.is c.apply.ensures.applied in
    record {
      steps = next_turn IsStep _ _ _ c.args.edits.now c.loop-i.outcomes c.loop-i.i edit (refusal_of c.apply.result) r c.loop-i-test.true before.long same before.steps step;
      applied = next_applied _ _ _ c.args.edits.now c.loop-i.outcomes c.loop-i.i edit (refusal_of c.apply.result) r c.loop-i-test.true before.long same before.applied applied;
      long = length-set c.loop-i.outcomes c.loop-i.i r ∙ before.long;
    }
