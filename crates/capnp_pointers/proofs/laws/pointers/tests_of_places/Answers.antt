use Rattle.std.proofs.Common.{subst}
use Rattle.capnp_pointers.proofs.CanonicalTest.AnswersWithinLimits.{found_if, found_is}
use Rattle.capnp_pointers.proofs.CanonicalTest.VerdictOfObject.{test_says}
use Rattle.capnp_pointers.proofs.CanonicalTest.VerdictsOfParts.{Says}
use Rattle.capnp_pointers.proofs.laws.pointers.tests_of_places.Goals as goal

pub returns : goal.returns
returns c = record {
  found = λ r h e m m' small. (found_if r h e m m' small, found_is r h e m m' small);
  fault = λ r h m m' f small is. subst (Says r h m) is (test_says r small h m);
}
