use Rattle.std.proofs.Common.{◌++◌, refl}
use Rattle.std.specs.Prelude.{codes}
use Rattle.std.specs.Fmt.{decimal}
use Rattle.capnp_show.proofs.Adds.{adds_as, adds_stops, adds_then, adds_three}
use Rattle.capnp_show.proofs.show.text.Text.push_last_number.Goals as goal

pub returns-in_err-push : goal.returns-in_err-push
returns-in_err-push c = adds_as (refl) (adds_stops c.from_residual.result _ (decimal c.args.n ++ codes "}") c.from_residual.ensures.1 c.in_err-push.ensures)

pub returns-in_err-push_number : goal.returns-in_err-push_number
returns-in_err-push_number c = adds_as (refl) (adds_then c.in_ok-push.ensures (adds_stops c.from_residual-in_err-push_number.result _ (codes "}") c.from_residual-in_err-push_number.ensures.1 c.in_err-push_number.ensures))

pub returns : goal.returns
returns c = adds_as (refl) (adds_three c.in_ok-push.ensures c.in_ok-push_number.ensures c.push-2.ensures)
