use Rattle.capnp_pointers.specs.Expected.{expectation}
use Rattle.typed_reading.proofs.Outcomes.{default_free, default_unread}
use Rattle.typed_reading.proofs.laws.outcome_with_default.Goals as goal

pub returns : goal.returns
returns c = record { unread = λ e bytes r m. default_unread (expectation e) bytes r m; free = default_free }
