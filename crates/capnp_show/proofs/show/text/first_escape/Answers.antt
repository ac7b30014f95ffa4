use Rattle.std.proofs.Common.{◌++◌, ◌+◌, drop, take, ap, ◌∙◌}
use Rattle.capnp_show.specs.Line.{escaped}
use Rattle.capnp_show.proofs.Adds.{escape_next, escape_none}
use Rattle.capnp_show.proofs.show.text.first_escape.Goals as goal

pub returns-in-Some : goal.returns-in-Some
returns-in-Some c =
    let bytes = c.args.bytes.now in
    let at = c.loop-at.at in
    (c.loop-at-test.true, escape_next bytes at c.loop-at-test.true c.loop-at.invariant ∙ ap (λ zs. take at bytes ++ (zs ++ escaped (drop (at + 1) bytes))) c.in-Some.ensures)

pub loop-at-preserved : goal.loop-at-preserved
loop-at-preserved c = escape_none c.args.bytes.now c.loop-at.at c.loop-at-test.true c.loop-at.invariant c.in_default.ensures
