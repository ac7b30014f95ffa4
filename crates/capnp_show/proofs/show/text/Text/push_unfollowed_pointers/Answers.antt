use Rattle.std.proofs.Common.{sym, arith}
use Rattle.std.specs.Prelude.{codes}
use Rattle.capnp_show.proofs.Adds.{adds_as, adds_stops, adds_then}
use Rattle.capnp_show.proofs.Pieces.{cut_none, cut_some}
use Rattle.capnp_show.proofs.show.text.Text.push_unfollowed_pointers.Goals as goal

pub returns-then-count-gt0 : goal.returns-then-count-gt0
returns-then-count-gt0 c = adds_as (sym (cut_some c.args.are_elements c.args.count (omega arith))) c.push.ensures

pub returns-in_err-push_array_start : goal.returns-in_err-push_array_start
returns-in_err-push_array_start c = adds_as (sym (cut_none c.args.are_elements c.args.count (omega arith))) (adds_stops c.from_residual.result _ (codes "]}") c.from_residual.ensures.1 c.in_err-push_array_start.ensures)

pub returns : goal.returns
returns c = adds_as (sym (cut_none c.args.are_elements c.args.count (omega arith))) (adds_then c.in_ok-push_array_start.ensures c.push-2.ensures)
