use Rattle.typed_conforming.proofs.Checking.{child_conforms, children_conform, element_conforms, kind_of}
use Rattle.typed_conforming.proofs.laws.parts_conform.Goals as goal

pub returns : goal.returns
returns c = record { kind = kind_of; child = child_conforms; parts = children_conform; elements = element_conforms }
