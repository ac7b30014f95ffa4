use Rattle.capnp_pointers.specs.Expected.{expectation}
use Rattle.typed_reading.proofs.Outcomes.{answered_if, charged_if, free_if, null_outcome, refused_if}
use Rattle.typed_reading.proofs.laws.outcome_of_reading.Goals as goal

pub returns : goal.returns
returns c = record {
  answered = answered_if;
  refused = refused_if;
  null = λ e r m. null_outcome (expectation e) r m;
  charged = charged_if;
  free = free_if;
}
