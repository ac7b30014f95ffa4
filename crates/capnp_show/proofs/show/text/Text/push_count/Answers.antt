use Rattle.std.proofs.Common.{ap}
use Rattle.std.proofs.Common.{◌++◌}
use Rattle.std.specs.Prelude.{codes}
use Rattle.std.specs.Fmt.{decimal}
use Rattle.capnp_show.specs.Line.{member}
use Rattle.capnp_show.proofs.Adds.{adds_as}
use Rattle.capnp_show.proofs.show.text.Text.push_count.Goals as goal

pub returns : goal.returns
returns c = adds_as (ap (λ n. member (codes "count") (decimal n) ++ codes "}") c.from.ensures) c.push_last_number.ensures
