use Rattle.typed_building.proofs.value.set_tag.Goals as goal

pub returns : goal.returns
returns g c = record { grows = c.set_number.ensures.grows; sets = c.set_number.ensures.sets; replaces = c.set_number.ensures.replaces; memory = c.set_number.ensures.memory }
