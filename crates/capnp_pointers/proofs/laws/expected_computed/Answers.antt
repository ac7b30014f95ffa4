use Rattle.capnp_pointers.specs.Expected.{expectation}
use Rattle.capnp_pointers.proofs.OneObject.ExpectedBySteps.{kind_below_two}
use Rattle.capnp_pointers.proofs.OneObject.ExpectedAsStated.{given_is, given_answers, given_if, withheld_is, withheld_if}
use Rattle.capnp_pointers.proofs.laws.expected_computed.Goals as goal

pub returns : goal.returns
returns c = record {
  object = λ e r m m' x. given_is (expectation e) r m m' x;
  exactly = λ e r m. (given_answers (expectation e) r m, given_if (expectation e) r m (kind_below_two e));
  refused = λ e r m m' k. (withheld_is (expectation e) r m m' k, withheld_if (expectation e) r m m' k (kind_below_two e));
}
