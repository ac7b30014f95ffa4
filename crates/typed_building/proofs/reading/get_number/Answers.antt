use Rattle.std.proofs.Common.{◌≡◌, ◌+◌, ◌*◌, ◌∙◌, subst}
use Rattle.capnp_format.specs.Fields.{field_in}
use Rattle.capnp_format.specs.Segments.{segment}
use Rattle.capnp_builders.proofs.FieldPlaces.{place_aligned}
use Rattle.typed_building.proofs.Held.{number_held}
use Rattle.typed_building.proofs.reading.get_number.Goals as goal

-- The section is aligned, and the field is inside it.
pub get_number-requires-clause-aligned : goal.get_number-requires-clause-aligned
get_number-requires-clause-aligned g c =
    rw c.BYTES.ensures (place_aligned c.args.place c.args.offset g.T.Primitive.BYTES c.requires.aligned g.T.Primitive.positive g.T.Primitive.small g.T.Primitive.divides c.requires.field)

pub returns : goal.returns
returns g c = λ x ws ts h.
    (let there = (g.A.BuilderArena.view c.args.arena.now).words in
    subst (λ b. g.T.Primitive.bits_of c.get_number.result ≡ field_in (segment there c.args.place.segment) (8 * (c.args.place.byte + c.args.offset * b)) (8 * g.T.Primitive.BYTES)) c.BYTES.ensures c.get_number.ensures ∙ number_held there x c.args.place ws ts c.args.offset g.T.Primitive.BYTES g.T.Primitive.positive c.requires.field h)
