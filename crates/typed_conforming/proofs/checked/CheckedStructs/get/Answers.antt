use Rattle.std.proofs.Math.Logic.{∥∥₁_map}
use Rattle.typed_conforming.specs.Checked.{IsChecked}
use Rattle.typed_conforming.proofs.Checking.{element_checked}
use Rattle.typed_conforming.proofs.checked.CheckedStructs.get.Goals as goal

pub invariant_of-result : goal.invariant_of-result
invariant_of-result g c = record {
  conforms = ∥∥₁_map {B = IsChecked g.A.ReaderArena c.args.self.now.table.now c.args.self.now.row c.get.result} c.args.self.now.conforms
      (λ s. element_checked g.A.ReaderArena c.args.self.now.table.now c.args.self.now.row c.args.self.now.reader.reader c.args.index c.get.result c.requires c.get.ensures.value c.get.ensures.number s);
}
