use Rattle.capnp_edits.proofs.Fitting.{fitting_edits}
use Rattle.callers.proofs.edits.apply_fitting_edits.Goals as goal

pub returns : goal.returns
returns g c =
    let (t, forest) = c.requires.forest in
    (fitting_edits _ _ c.args.edits.now c.apply_all.new.outcomes t forest c.requires.first c.requires.asks c.requires.room c.apply_all.ensures.steps).0
