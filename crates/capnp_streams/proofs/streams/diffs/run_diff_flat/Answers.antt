use Rattle.capnp_streams.proofs.DiffStepLemmas.{flat_compared, flat_uncompared}
use Rattle.capnp_streams.proofs.streams.diffs.run_diff_flat.Goals as goal

pub returns-clause-done : goal.returns-clause-done
returns-clause-done g c =
    let first = c.in_default.ensures.read in
    let second = c.in_default-read_flat.ensures.read in
    flat_compared c.args.task.limits c.compare.result _ _ _ _ first.bytes second.bytes first.bare first.consumed c.in_default.ensures.end first.only
    second.bare second.consumed c.in_default-read_flat.ensures.end second.only c.compare.ensures.compared

pub returns-clause-refused : goal.returns-clause-refused
returns-clause-refused g c =
    let first = c.in_default.ensures.read in
    let second = c.in_default-read_flat.ensures.read in
    flat_uncompared g.W.Output c.args.task.limits c.compare.result c.args.output.now c.compare.new.output _ _ _ _ _ _ _ _ first.bytes second.bytes
    first.consumed c.in_default.ensures.end first.only second.consumed c.in_default-read_flat.ensures.end second.only c.compare.ensures.refused
