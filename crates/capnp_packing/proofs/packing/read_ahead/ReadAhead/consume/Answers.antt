use Rattle.capnp_packing.proofs.UnitLemmas.{consumed}
use Rattle.capnp_packing.proofs.packing.read_ahead.ReadAhead.consume.Goals as goal

pub returns-clause-bytes : goal.returns-clause-bytes
returns-clause-bytes g c = consumed c.args.self.now.bytes c.args.self.now.at c.args.self.now.end c.args.n _ c.requires
