use Rattle.typed_conforming.proofs.Checking.{children_conform}
use Rattle.capnp_layout_c.proofs.Checked.{capability_there, child_checked, element_checked, read_unlimited}
use Rattle.capnp_layout_c.proofs.checking.checked_reads_succeed.Goals as goal

pub returns : goal.returns
returns c = record { reads = read_unlimited; capabilities = capability_there; pointers = child_checked; structs = children_conform; elements = element_checked }
