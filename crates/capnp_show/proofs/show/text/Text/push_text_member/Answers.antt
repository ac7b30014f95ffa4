use Rattle.std.proofs.Common.{◌++◌, refl}
use Rattle.std.specs.Prelude.{codes}
use Rattle.capnp_show.specs.Line.{escaped, in_quotes}
use Rattle.capnp_show.proofs.Adds.{adds_as, adds_stops, adds_then, adds_three}
use Rattle.capnp_show.proofs.show.text.Text.push_text_member.Goals as goal

pub returns-in_err-push : goal.returns-in_err-push
returns-in_err-push c = adds_as (refl) (adds_stops c.from_residual.result _ (in_quotes (escaped c.args.text.now) ++ codes "}") c.from_residual.ensures.1 c.in_err-push.ensures)

pub returns-in_err-push_quoted : goal.returns-in_err-push_quoted
returns-in_err-push_quoted c = adds_as (refl) (adds_then c.in_ok-push.ensures (adds_stops c.from_residual-in_err-push_quoted.result _ (codes "}") c.from_residual-in_err-push_quoted.ensures.1 c.in_err-push_quoted.ensures))

pub returns : goal.returns
returns c = adds_as (refl) (adds_three c.in_ok-push.ensures c.in_ok-push_quoted.ensures c.push-2.ensures)
