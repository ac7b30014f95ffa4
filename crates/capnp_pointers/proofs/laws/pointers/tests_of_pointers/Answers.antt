use Rattle.std.proofs.Common.{subst}
use Rattle.capnp_pointers.proofs.CanonicalTest.VerdictOfObject.{test_values_say}
use Rattle.capnp_pointers.proofs.CanonicalTest.VerdictsOfParts.{AllSay}
use Rattle.capnp_pointers.proofs.laws.pointers.tests_of_pointers.Goals as goal

pub returns : goal.returns
returns c = record {
  found = λ i r h e m m' small is. subst (AllSay r i h m) is (test_values_say i r small h m);
  fault = λ i r h m m' f small is. subst (AllSay r i h m) is (test_values_say i r small h m);
}
