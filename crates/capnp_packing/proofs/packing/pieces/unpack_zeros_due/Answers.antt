use Rattle.std.proofs.Common.{rules}
use Rattle.capnp_packing.proofs.UnitLemmas.{zeros_written}
use Rattle.capnp_packing.proofs.packing.pieces.unpack_zeros_due.Goals as goal

pub returns-clause-bytes : goal.returns-clause-bytes
returns-clause-bytes c = zeros_written c.min-given.result c.fill_with_zeros.new.to _ c.args.to.now (search rules) c.fill_with_zeros.ensures
