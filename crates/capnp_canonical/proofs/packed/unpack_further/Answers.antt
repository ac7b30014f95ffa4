use Rattle.std.proofs.Common.{ap₂, sym, ◌∙◌}
use Rattle.capnp_canonical.specs.Pieces.{unpacking_at}
use Rattle.capnp_canonical.proofs.packed.unpack_further.Goals as goal

pub returns-clause-state : goal.returns-clause-state
returns-clause-state c = c.of.ensures.state ∙ ap₂ unpacking_at (sym c.of.ensures.zeros) (sym c.of.ensures.place)
