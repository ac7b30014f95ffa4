use Rattle.capnp_builders.proofs.DataSections.{whole_section}
use Rattle.capnp_builders.proofs.laws.copies.whole_sections.Goals as goal

pub returns : goal.returns
returns c = whole_section
