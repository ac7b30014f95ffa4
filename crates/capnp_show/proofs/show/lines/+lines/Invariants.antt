use Rattle.std.proofs.Common.{◌+◌, ◌*◌}
use Rattle.capnp_show.proofs.show.lines.+lines.Given as goal

abbrev pub decreases-show_step : goal.decreases-show_step
decreases-show_step g l = 5 * l.depth + 4

abbrev pub decreases-show_pointer : goal.decreases-show_pointer
decreases-show_pointer g l = 5 * l.depth + 3

abbrev pub decreases-show_below : goal.decreases-show_below
decreases-show_below g l = 5 * l.depth + 2

abbrev pub decreases-show_elements : goal.decreases-show_elements
decreases-show_elements g l = 5 * l.depth + 1

abbrev pub decreases-show_pointers : goal.decreases-show_pointers
decreases-show_pointers g l = 5 * l.depth
