-- The copy of a default spends nothing of a limiter, and each refusal to read it is a fault of the
-- default.
use Rattle.std.proofs.Common.{◌≡◌, inl, inr, ℕ, List, None, Result, Ok, Err, IfOk, IfErr, OnOk}
use Rattle.capnp_words.specs.declared.error.ErrorKind.{ErrorKind}
use Rattle.capnp_words.specs.Meter.{Meter, unused}
use Rattle.capnp_format.specs.Tree.{Tree, Null}
use Rattle.capnp_arena_traits.specs.View.{View}
use Rattle.capnp_pointers.specs.Wanted.{of_default}
use Rattle.capnp_pointers.proofs.WholeValue.UnreadableIfRefused.{breaks_off_spends, unreadable}
use Rattle.capnp_pointers.proofs.WholeValue.OutcomesAreTrue.{unlimited_refusal}
use Rattle.capnp_copies.specs.Changes.{CopyCall, copy_call, MakesCopy, StopsCopy}
use Rattle.capnp_copies.specs.Growth.{TakesAtMost}
use Rattle.capnp_copies.specs.Originals.{value_original}
use Rattle.capnp_allocation.specs.Makes.{call_at}
use Rattle.capnp_builders.specs.Defaults.{default_root, DropsDefault, PutsDefault, RefusesDefault}

-- The copy of a default to position at of segment id.
abbrev pub default_copy : ℕ → ℕ → View → View → CopyCall
default_copy id at old new = copy_call of_default (call_at id at old new) (unused None) (unused None)

-- reading a default spends nothing, whether it ends or stops
pub nothing_spent : {X E : Type 0} (o : Result X E) (bytes : List ℕ) (id at : ℕ) (old new : View) (m m' : Meter) → TakesAtMost o (value_original (default_root bytes)) (copy_call of_default (call_at id at old new) m m') → m' ≡ m
nothing_spent (Ok x) bytes id at old new m m' taken = taken.1.spent
nothing_spent (Err k) bytes id at old new m m' taken = let (g, r, covers, spent, few) = breaks_off_spends taken.0 in spent

pub puts_default : {X E : Type 0} (o : Result X E) (bytes : List ℕ) (id at : ℕ) (old new : View) → IfOk o (λ _. MakesCopy (value_original (default_root bytes)) (default_copy id at old new)) →
    TakesAtMost o (value_original (default_root bytes)) (default_copy id at old new) → OnOk o ((value : Tree) × PutsDefault bytes (call_at id at old new) value)
puts_default (Ok x) bytes id at old new made taken = (
  made.value,
  record {
    meant = (made.is_read.cost, made.is_read.means);
    plain = made.is_read.takes (λ e. absurd (cc e));
    replaced = made.made;
    stands = made.stands;
    memory = made.memory;
    taken = taken;
  },
)
puts_default (Err k) bytes id at old new made taken = tt

refuses_default : (bytes : List ℕ) (id at : ℕ) (old new : View) (k : ErrorKind) → StopsCopy (value_original (default_root bytes)) (default_copy id at old new) Null k → RefusesDefault bytes (call_at id at old new) k
refuses_default bytes id at old new k stop = elim stop.why [
  | inl x ↦ inr x
  | inr y ↦ elim y [ inl read ↦ inl (unlimited_refusal (λ x. tt) (unreadable read)) | inr none ↦ absurd none ]
]

pub drops_default : {X : Type 0} (o : Result X ErrorKind) (bytes : List ℕ) (id at : ℕ) (old new : View) → IfErr o (StopsCopy (value_original (default_root bytes)) (default_copy id at old new) Null) →
    TakesAtMost o (value_original (default_root bytes)) (default_copy id at old new) → IfErr o (DropsDefault bytes (call_at id at old new))
drops_default (Ok x) bytes id at old new stop taken = tt
drops_default (Err k) bytes id at old new stop taken = record { named = refuses_default bytes id at old new k stop; replaced = stop.left; memory = stop.memory; taken = taken }
