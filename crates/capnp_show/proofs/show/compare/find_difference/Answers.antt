use Rattle.std.proofs.Common.{◌∙◌}
use Rattle.capnp_show.proofs.ComparedLines.{lines_compared}
use Rattle.capnp_show.proofs.show.compare.find_difference.Goals as goal

pub returns-clause-lines : goal.returns-clause-lines
returns-clause-lines g c =
    λ t u first second one other.
    lines_compared t u c.compare_lines.result c.compare_lines.ensures.same c.compare_lines.ensures.differ (c.bytes.ensures.value ∙ c.in_ok-left.ensures.line t first one)
    (c.bytes-2.ensures.value ∙ c.in_ok-right.ensures.line u second other)
