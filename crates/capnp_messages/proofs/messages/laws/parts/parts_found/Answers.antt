use Rattle.capnp_messages.proofs.PartLemmas.{part_found, part_stops}
use Rattle.capnp_messages.proofs.messages.laws.parts.parts_found.Goals as goal

pub returns : goal.returns
returns c = record { found = part_found; refused = part_stops }
