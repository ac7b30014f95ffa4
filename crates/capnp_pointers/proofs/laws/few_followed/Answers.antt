use Rattle.std.proofs.Common.{inl, inr, subst}
use Rattle.capnp_pointers.proofs.WholeValue.OutcomesAreTrue.{few_followed, reading_spends}
use Rattle.capnp_pointers.proofs.WholeValue.UnreadableIfRefused.{unreadable, breaks_off_spends}
use Rattle.capnp_pointers.proofs.laws.few_followed.Goals as goal
use Rattle.capnp_pointers.proofs.WholeValue.Unreadable.{Spends}

pub returns : goal.returns
returns c = λ form r m m' x charging budget outcome.
    few_followed m m' x budget (subst (λ b. Spends b m m' 1) charging (elim outcome [ inl read ↦ reading_spends read.1 | inr rest ↦ elim rest [ inl refused ↦ (unreadable refused.1).spent | inr off ↦ breaks_off_spends off ] ]))
