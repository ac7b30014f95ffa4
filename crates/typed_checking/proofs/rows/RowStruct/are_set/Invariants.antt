use Rattle.std.proofs.Common.{◌↔◌, drop}
use Rattle.capnp_format.specs.Tree.{Tree}
use Rattle.capnp_readers.specs.Values.{ShowsStructOf, struct_data}
use Rattle.typed_checking.specs.Given.{AreSet}
use Rattle.typed_checking.proofs.rows.RowStruct.are_set.Given as goal

abbrev pub invariant-loop-member : goal.invariant-loop-member
invariant-loop-member g l = (t : Tree) → ShowsStructOf g.A.ReaderArena l.self.reader t → (AreSet (drop l.member-index l.members) (struct_data t) ↔ AreSet l.members (struct_data t))
