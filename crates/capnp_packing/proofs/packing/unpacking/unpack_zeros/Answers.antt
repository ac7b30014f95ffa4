use Rattle.std.proofs.Common.{rules}
use Rattle.capnp_packing.proofs.UnitLemmas.{zero_unit, zeros_unit}
use Rattle.capnp_packing.proofs.packing.unpacking.unpack_zeros.Goals as goal

pub returns-clause-leads : goal.returns-clause-leads
returns-clause-leads c = zeros_unit c.args.more c.min-given.result c.fill_with_zeros-2.new.to _ c.args.to.now (search rules) (search rules) c.fill_with_zeros-2.ensures

pub returns-then-more-eq0-clause-leads : goal.returns-then-more-eq0-clause-leads
returns-then-more-eq0-clause-leads c = zero_unit c.args.more c.fill_with_zeros.new.to _ c.args.to.now c.if-more-eq0.true c.requires c.fill_with_zeros.ensures
