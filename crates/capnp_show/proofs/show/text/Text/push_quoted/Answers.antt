use Rattle.std.proofs.Common.{◌++◌, refl}
use Rattle.std.specs.Prelude.{codes}
use Rattle.capnp_show.specs.Line.{escaped}
use Rattle.capnp_show.proofs.Adds.{adds_as, adds_stops, adds_then, adds_three}
use Rattle.capnp_show.proofs.show.text.Text.push_quoted.Goals as goal

pub returns-in_err-push : goal.returns-in_err-push
returns-in_err-push c = adds_as (refl) (adds_stops c.from_residual.result _ (escaped c.args.bytes.now ++ codes "\"") c.from_residual.ensures.1 c.in_err-push.ensures)

pub returns-in_err-push_escaped : goal.returns-in_err-push_escaped
returns-in_err-push_escaped c = adds_as (refl) (adds_then c.in_ok-push.ensures (adds_stops c.from_residual-in_err-push_escaped.result _ (codes "\"") c.from_residual-in_err-push_escaped.ensures.1 c.in_err-push_escaped.ensures))

pub returns : goal.returns
returns c = adds_as (refl) (adds_three c.in_ok-push.ensures c.in_ok-push_escaped.ensures c.push-2.ensures)
