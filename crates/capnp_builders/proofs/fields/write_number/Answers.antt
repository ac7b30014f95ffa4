use Rattle.capnp_builders.proofs.FieldPlaces.{place_aligned}
use Rattle.capnp_builders.proofs.fields.write_number.Goals as goal

-- The section is aligned, and the field is inside it.
pub set_number-requires-clause-aligned : goal.set_number-requires-clause-aligned
set_number-requires-clause-aligned g c =
    rw c.BYTES.ensures (place_aligned c.args.place c.args.offset g.T.Primitive.BYTES c.requires.aligned g.T.Primitive.positive g.T.Primitive.small g.T.Primitive.divides c.requires.field)
