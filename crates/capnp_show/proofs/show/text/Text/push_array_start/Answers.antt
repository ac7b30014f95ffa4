use Rattle.std.proofs.Common.{sym, ap}
use Rattle.capnp_show.specs.Shown.{array_begin}
use Rattle.capnp_show.proofs.Adds.{adds_as}
use Rattle.capnp_show.proofs.show.text.Text.push_array_start.Goals as goal

pub returns-then-are_elements : goal.returns-then-are_elements
returns-then-are_elements c = adds_as (ap array_begin (sym c.if-are_elements.true)) c.push.ensures

pub returns : goal.returns
returns c = adds_as (ap array_begin (sym c.if-are_elements.false)) c.push-2.ensures
