use Rattle.std.proofs.Common.{refl, rules}
use Rattle.capnp_packing.proofs.UnitLemmas.{zeros_due}
use Rattle.capnp_packing.proofs.WholeLemmas.{end_kept}
use Rattle.capnp_packing.proofs.packing.unpacking_input.UnpackingInput.write_due_zeros.Goals as goal

pub returns : goal.returns
returns g c = record {
  some = search rules;
  bound = search rules;
  bytes = (zeros_due c.args.self.now.place c.min-n.result c.args.self.now.zeros _ c.fill_with_zeros.new.to _ c.args.to.now (search rules) (search rules) c.fill_with_zeros.ensures).0;
  place = end_kept c.args.self.now.place _;
  input = refl;
  told = refl;
}
