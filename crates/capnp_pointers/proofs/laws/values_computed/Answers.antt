use Rattle.capnp_pointers.proofs.WholeValue.ValueAsStated.{reads_is, refused_is, reads_if, refused_if}
use Rattle.capnp_pointers.proofs.laws.values_computed.Goals as goal

pub returns : goal.returns
returns c = record {
  read = λ form r m m' t. (reads_is form r m m' t, reads_if form r m m' t);
  refused = λ form r m m' k. (refused_is form k r m m', refused_if form r m m' k);
}
