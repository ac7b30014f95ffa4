use Rattle.capnp_readers.proofs.Charged.{place_charged, pointers_charged}
use Rattle.capnp_readers.proofs.laws.test_is_charged.Goals as goal

pub returns : goal.returns
returns c = record {
  place = λ r head m. place_charged r.levels r head m;
  pointers = pointers_charged;
}
