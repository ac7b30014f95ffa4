use Rattle.std.proofs.Common.{arith}
use Rattle.capnp_canonical.proofs.NumberLemmas.{kind_found}
use Rattle.capnp_canonical.proofs.names.refusal_of.Goals as goal

pub returns-in-32-to-66-clause-same : goal.returns-in-32-to-66-clause-same
returns-in-32-to-66-clause-same c = kind_found c.args.number _ (omega (arith, c.in-32-to-66)) (omega (arith, c.in-32-to-66))
