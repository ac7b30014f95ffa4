use Rattle.typed_reading.proofs.Sections.{sections_meant}
use Rattle.typed_reading.proofs.laws.meant_sections.Goals as goal

pub returns : goal.returns
returns c = sections_meant
