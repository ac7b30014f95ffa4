use Rattle.capnp_pointers.specs.declared.object.Purpose.TheVariants.{Value}
use Rattle.capnp_pointers.proofs.OneObject.ReadAsStated.{object_is, entering_is, stopped_is, measured_is}
use Rattle.capnp_pointers.proofs.OneObject.ReadInOneWay.{can_be_read_is, could_be_read_if, not_read_if, not_measured_if}
use Rattle.capnp_pointers.proofs.laws.objects_computed.Goals as goal

pub returns : goal.returns
returns c = record {
  object = object_is;
  entered = entering_is;
  exactly = λ purpose r m. (can_be_read_is purpose r m, could_be_read_if purpose r m);
  refused = λ r m m' k. (stopped_is Value r m m' k (λ e. absurd (cc e)), not_read_if r m m' k);
  measured = λ r m m' k. (measured_is r m m' k, not_measured_if r m m' k);
}
