use Rattle.capnp_builders.specs.Places.{number_field}
use Rattle.capnp_builders.proofs.HeldMade.{field_writes, number_starts, replaces_field, sets_field}
use Rattle.capnp_builders.proofs.fields.set_number.Goals as goal

pub returns-clause-sets : goal.returns-clause-sets
returns-clause-sets g c = sets_field _ _ c.args.place (number_field g.T.Primitive.BYTES c.args.offset (g.T.Primitive.bits_of c.args.value)) (number_starts c.args.place.bits c.args.offset g.T.Primitive.BYTES g.T.Primitive.positive c.requires.field) c.write_number.ensures.written

pub returns-clause-replaces : goal.returns-clause-replaces
returns-clause-replaces g c = replaces_field _ _ c.args.place (number_field g.T.Primitive.BYTES c.args.offset (g.T.Primitive.bits_of c.args.value)) (number_starts c.args.place.bits c.args.offset g.T.Primitive.BYTES g.T.Primitive.positive c.requires.field) c.write_number.ensures.written

pub returns-clause-memory : goal.returns-clause-memory
returns-clause-memory g c = field_writes _ _ _ _ _ _ c.write_number.ensures.written
