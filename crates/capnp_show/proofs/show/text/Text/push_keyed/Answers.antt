use Rattle.std.specs.Fmt.{decimal}
use Rattle.capnp_show.proofs.Adds.{adds_stops, adds_then}
use Rattle.capnp_show.proofs.show.text.Text.push_keyed.Goals as goal

pub returns-in_err-push : goal.returns-in_err-push
returns-in_err-push c = adds_stops c.from_residual.result _ (decimal c.args.n) c.from_residual.ensures.1 c.in_err-push.ensures

pub returns : goal.returns
returns c = adds_then c.in_ok-push.ensures c.push_number.ensures
