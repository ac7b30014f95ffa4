use Rattle.std.proofs.Common.{ℕ, List, ◌++◌, map, sym}
use Rattle.std.specs.Prelude.{codes}
use Rattle.std.specs.List.{join_with_byte}
use Rattle.capnp_show.specs.Numbers.{flat_numbers, number_text}
use Rattle.capnp_show.proofs.Adds.{adds_as, adds_stops, adds_then, adds_three}
use Rattle.capnp_show.proofs.show.text.Text.push_numbers_member.Goals as goal

pub returns-in_err-push : goal.returns-in_err-push
returns-in_err-push c =
    let ns : List ℕ = flat_numbers c.args.start c.args.size c.args.count in
    adds_as (sym (c.numbers_key.ensures ns)) (adds_stops c.from_residual.result _ (join_with_byte 44 (map (number_text c.args.size) ns) ++ codes "]}") c.from_residual.ensures.1 c.in_err-push.ensures)

pub returns-in_err-push_each_number : goal.returns-in_err-push_each_number
returns-in_err-push_each_number c =
    let ns : List ℕ = flat_numbers c.args.start c.args.size c.args.count in
    adds_as (sym (c.numbers_key.ensures ns)) (adds_then c.in_ok-push.ensures (adds_stops c.from_residual-in_err-push_each_number.result _ (codes "]}") c.from_residual-in_err-push_each_number.ensures.1 c.in_err-push_each_number.ensures))

pub returns : goal.returns
returns c =
    let ns : List ℕ = flat_numbers c.args.start c.args.size c.args.count in
    adds_as (sym (c.numbers_key.ensures ns)) (adds_three c.in_ok-push.ensures c.in_ok-push_each_number.ensures c.push-2.ensures)
