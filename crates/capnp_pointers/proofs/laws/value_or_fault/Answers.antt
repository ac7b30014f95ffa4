-- Without a traversal limit, the reading of the value at a place is refused only if there is a fault.
use Rattle.std.proofs.Common.{◌⊎◌, inl, inr, ℕ, Bool, true, false, None, Result, Ok, Err}
use Rattle.capnp_words.specs.declared.error.ErrorKind.{ErrorKind}
use Rattle.capnp_words.specs.Meter.{Meter, unused, Affords}
use Rattle.capnp_format.specs.Tree.{Tree, capabilities}
use Rattle.capnp_pointers.specs.Faults.{HasFault}
use Rattle.capnp_pointers.specs.Outcomes.{MeansThere}
use Rattle.capnp_pointers.specs.Reading.{Reading}
use Rattle.capnp_pointers.specs.Values.{value}
use Rattle.capnp_pointers.specs.Wanted.{Form, AllowsCapabilities}
use Rattle.capnp_pointers.proofs.WholeValue.UnreadableIfRefused.{unreadable}
use Rattle.capnp_pointers.proofs.WholeValue.OutcomesAreTrue.{unlimited_refusal}
use Rattle.capnp_pointers.proofs.WholeValue.ValueAgrees.{Agree, value_agrees}
use Rattle.capnp_pointers.proofs.laws.value_or_fault.Goals as goal

affords_any : (charging : Bool) (x : ℕ) → Affords charging (unused None) x
affords_any true x = tt
affords_any false x = tt

value_or_fault : (form : Form) (r : Reading) → ((t : Tree) × (c : ℕ) × MeansThere r t c × AllowsCapabilities form (capabilities t)) ⊎ ((k : ErrorKind) × HasFault form r k)
value_or_fault form r = go (value form r (unused None)) (value_agrees form r (unused None))
  where
    go : (o : Result Tree ErrorKind × Meter) → Agree form r (unused None) o → ((t : Tree) × (c : ℕ) × MeansThere r t c × AllowsCapabilities form (capabilities t)) ⊎ ((k : ErrorKind) × HasFault form r k)
    go (Ok t, m) h = inl (t, h.cost, h.means, h.takes)
    go (Err k, m) h = inr (k, unlimited_refusal (affords_any r.charging) (unreadable h))

pub returns : goal.returns
returns c = value_or_fault
