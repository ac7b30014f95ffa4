use Rattle.std.proofs.Common.{rules}
use Rattle.capnp_packing.proofs.UnitLemmas.{byte_ahead}
use Rattle.capnp_packing.proofs.packing.read_ahead.ReadAhead.next.Goals as goal

pub returns-clause-byte : goal.returns-clause-byte
returns-clause-byte g c = byte_ahead c.args.self.now.bytes c.args.self.now.at c.args.self.now.end (g.R.Input.remaining c.args.self.now.input) c.requires (search rules)
