use Rattle.std.proofs.Common.{ap}
use Rattle.std.specs.Prelude.{codes}
use Rattle.capnp_show.specs.Shown.{add}
use Rattle.capnp_show.specs.ShownParts.{path_line}
use Rattle.capnp_show.proofs.Ends.{path_shown}
use Rattle.capnp_show.proofs.Steps.{lim_plain, line_stops, plain_after, shows_as}
use Rattle.capnp_show.proofs.show.message.write_json.Goals as goal

pub returns-in_err-write_head-clause-shows : goal.returns-in_err-write_head-clause-shows
returns-in_err-write_head-clause-shows g c = λ plain. absurd (cc ((c.in_err-write_head.ensures plain).0))

pub returns-in_err-write_path_end-clause-shows : goal.returns-in_err-write_path_end-clause-shows
unfolding path_line
returns-in_err-write_path_end-clause-shows g c =
    λ plain.
    let same = (c.in_ok-write_head.ensures plain).1 in
    let read = rw same at c.read_part-end.ensures in
    let one = shows_as (path_shown c.args.depth c.args.json.now c.write_head.new.self _ _ c.read_part-end.new.lim same read) (c.in_err-write_path_end.ensures (lim_plain c.read_part-end.new.lim (plain_after same plain))) in
    line_stops c.from_residual-in_err-write_path_end.result _ c.from_residual-in_err-write_path_end.ensures.1 one

pub returns-clause-shows : goal.returns-clause-shows
unfolding path_line
returns-clause-shows g c =
    λ plain.
    let same = (c.in_ok-write_head.ensures plain).1 in
    let read = rw same at c.read_part-end.ensures in
    let one = shows_as (path_shown c.args.depth c.args.json.now c.write_head.new.self _ _ c.read_part-end.new.lim same read) (c.in_ok-write_path_end.ensures (lim_plain c.read_part-end.new.lim (plain_after same plain))) in
    shows_as (ap (add (codes "\n")) one.written) (c.write_tail.ensures.shows one.plain)
