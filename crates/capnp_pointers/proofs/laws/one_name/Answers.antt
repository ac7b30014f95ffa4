use Rattle.capnp_pointers.specs.declared.object.Purpose.TheVariants.{Value}
use Rattle.capnp_pointers.proofs.OneObject.ReadAsStated.{stopped_is, measured_is}
use Rattle.capnp_pointers.proofs.OneObject.ExpectedAsStated.{withheld_is}
use Rattle.capnp_pointers.proofs.OneObject.ReadInOneWay.{same_refusal}
use Rattle.capnp_pointers.proofs.WholeValue.ValueAsStated.{refused_is}
use Rattle.capnp_pointers.proofs.OneObject.TypeAsStated.{untyped_is}
use Rattle.capnp_pointers.proofs.laws.one_name.Goals as goal

pub returns : goal.returns
returns c = record {
  value = λ form r m m' m'' k l h i. same_refusal (refused_is form k r m m' h) (refused_is form l r m m'' i);
  object = λ r m m' m'' k l h i. same_refusal (stopped_is Value r m m' k (λ e. absurd (cc e)) h) (stopped_is Value r m m'' l (λ e. absurd (cc e)) i);
  measured = λ r m m' m'' k l h i. same_refusal (measured_is r m m' k h) (measured_is r m m'' l i);
  expected = λ e r m m' m'' k l h i. same_refusal (withheld_is e r m m' k h) (withheld_is e r m m'' l i);
  of_type = λ r m m' m'' k l h i. same_refusal (untyped_is r m m' k h) (untyped_is r m m'' l i);
}
