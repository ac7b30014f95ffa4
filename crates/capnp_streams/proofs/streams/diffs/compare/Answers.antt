use Rattle.capnp_streams.proofs.DiffStepLemmas.{pair_compared, pair_refused}
use Rattle.capnp_streams.proofs.streams.diffs.compare.Goals as goal

pub returns-in-Ok-clause-compared : goal.returns-in-Ok-clause-compared
returns-in-Ok-clause-compared g c =
    let left = c.requires.left_sound in
    let right = c.requires.right_sound in
    pair_compared g.W.Output c.args.output.now c.compare_messages.new.output c.args.limits _ _ c.in-Ok.is_same left right
    (c.in-Ok.ensures.exactly left right) c.in-Ok.ensures.same c.in-Ok.ensures.told c.in-Ok.ensures.bounded

pub returns-in-Err-clause-refused : goal.returns-in-Err-clause-refused
returns-in-Err-clause-refused g c =
    let left = c.requires.left_sound in
    let right = c.requires.right_sound in
    rw c.fault_of_message.ensures
    (pair_refused g.W.Output c.args.output.now c.compare_messages.new.output c.args.limits c.args.number _ _ c.in-Err.fault left right
    (c.in-Err.ensures.short left right) c.in-Err.ensures.failed c.in-Err.ensures.unwritten)
