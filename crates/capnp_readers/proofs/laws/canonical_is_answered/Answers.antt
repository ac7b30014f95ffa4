use Rattle.capnp_pointers.proofs.CanonicalTest.AnswersWithinLimits.{all_can_answer, can_answers}
use Rattle.capnp_readers.proofs.laws.canonical_is_answered.Goals as goal

pub returns : goal.returns
returns c = record {
  place = can_answers;
  pointers = λ i r head m. all_can_answer r i head m;
}
