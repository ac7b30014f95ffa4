use Rattle.capnp_pointers.proofs.OneObject.TypeAsStated.{typed_is, typed_if, untyped_is, untyped_if}
use Rattle.capnp_pointers.proofs.laws.types_computed.Goals as goal

pub returns : goal.returns
returns c = record {
  of_type = λ r m m' t. (typed_is r m m' t, typed_if r m m' t);
  refused = λ r m m' k. (untyped_is r m m' k, untyped_if r m m' k);
}
