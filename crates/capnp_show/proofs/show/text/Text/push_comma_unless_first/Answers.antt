use Rattle.std.proofs.Common.{sym, ap}
use Rattle.capnp_show.specs.Shown.{comma}
use Rattle.capnp_show.proofs.Adds.{adds_as, adds_none}
use Rattle.capnp_show.proofs.Pieces.{comma_some}
use Rattle.capnp_show.proofs.show.text.Text.push_comma_unless_first.Goals as goal

pub returns-then-index-eq0 : goal.returns-then-index-eq0
returns-then-index-eq0 c = adds_as (ap comma (sym c.if-index-eq0.true)) (adds_none _ c.args.self.now.bytes.items)

pub returns : goal.returns
returns c = adds_as (sym (comma_some c.args.index c.if-index-eq0.false)) c.push.ensures
