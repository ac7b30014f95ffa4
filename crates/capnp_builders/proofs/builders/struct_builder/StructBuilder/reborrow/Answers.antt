use Rattle.std.proofs.Common.{refl}
use Rattle.capnp_builders.proofs.FieldPlaces.{same_builder}
use Rattle.capnp_builders.proofs.builders.struct_builder.StructBuilder.reborrow.Goals as goal

-- There is at most one proof that a section is aligned.
pub returns : goal.returns
returns g c = ((refl, λ w. same_builder _ _ _ _), record { lends = tt; now = refl; place = refl })
