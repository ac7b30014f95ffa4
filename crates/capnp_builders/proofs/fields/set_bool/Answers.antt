use Rattle.std.proofs.Common.{◌+◌, ◌*◌, cond}
use Rattle.capnp_builders.specs.Places.{field}
use Rattle.capnp_builders.proofs.HeldMade.{field_writes, replaces_field, sets_field}
use Rattle.capnp_builders.proofs.fields.set_bool.Goals as goal

pub returns-clause-sets : goal.returns-clause-sets
returns-clause-sets g c = sets_field _ _ c.args.place (field c.args.offset 1 (cond c.args.value 1 0)) c.requires.field c.write_bit.ensures.written

pub returns-clause-replaces : goal.returns-clause-replaces
returns-clause-replaces g c = replaces_field _ _ c.args.place (field c.args.offset 1 (cond c.args.value 1 0)) c.requires.field c.write_bit.ensures.written

pub returns-clause-memory : goal.returns-clause-memory
returns-clause-memory g c = field_writes _ _ c.args.place.segment (8 * c.args.place.byte + c.args.offset) 1 (cond c.args.value 1 0) c.write_bit.ensures.written
