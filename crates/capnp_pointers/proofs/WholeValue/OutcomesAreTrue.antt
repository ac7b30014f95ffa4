-- What follows from an outcome.
use Rattle.std.proofs.Common.{◌≡◌, ◌⊎◌, inl, inr, ℕ, ◌+◌, ◌≤◌, Bool, true, false, Option, Some, None, sym, ap, subst, arith}
use Rattle.capnp_words.specs.declared.error.ErrorKind.{ErrorKind}
use Rattle.capnp_words.specs.declared.error.ErrorKind.TheVariants.{ReadLimitExceeded}
use Rattle.capnp_format.specs.Tree.{Tree}
use Rattle.capnp_words.specs.Meter.{Meter, FitsIn, less, Affords}
use Rattle.capnp_pointers.specs.Spending.{after_charge, pointers_in}
use Rattle.capnp_pointers.specs.Faults.{Somewhere, here, below, HasFault, Exceeds}
use Rattle.capnp_pointers.specs.Outcomes.{Reads}
use Rattle.capnp_pointers.proofs.WholeValue.Unreadable.{Unreadable, Spends, Fails}
use Rattle.capnp_pointers.specs.Wanted.{Form}
use Rattle.capnp_pointers.specs.Reading.{Reading}
use Rattle.capnp_pointers.proofs.Budget.PaidAndLeft.{pointers_within}

-- a refusal's error is that of a fault, or of a charge that exceeds what is left
named_so : (form : Form) (m : Meter) (k : ErrorKind) {r : Reading} → Somewhere (Fails form m k) r → HasFault form r k ⊎ ((k ≡ ReadLimitExceeded) × Somewhere (Exceeds m) r)
named_so form m k (here (inl b)) = inl (here b)
named_so form m k (here (inr x)) = inr (x.0, here x.1)
named_so form m k (below a q l o i rest) = elim (named_so form m k rest) [
  | inl f ↦ inl (below a q l o i f)
  | inr f ↦ inr (f.0, below a q l o i f.1)
]

pub named_truly : {form : Form} {r : Reading} {m m' : Meter} {k : ErrorKind} → Unreadable form r m m' k → HasFault form r k ⊎ ((k ≡ ReadLimitExceeded) × Somewhere (Exceeds m') r)
named_truly {form} {r} {m} {m'} {k} refused = named_so form m' k refused.named

-- every charge is within the limit: there is no limit, or nothing is charged
abbrev IsUnlimited : Bool → Meter → Type 0
IsUnlimited charging m = (x : ℕ) → Affords charging m x

never_exceeds : (m : Meter) {r : Reading} → Somewhere (Exceeds m) r → IsUnlimited r.charging m → ⊥
never_exceeds m (here b) free = b.2 (free b.0)
never_exceeds m (below a q l o i rest) free = never_exceeds m rest free

unlimited_after : (charging : Bool) (m : Meter) (g r : ℕ) → IsUnlimited charging m → IsUnlimited charging (after_charge charging m g r)
unlimited_after true m g r free x = go m.left (λ y. free y)
  where
    go : (o : Option ℕ) → ((y : ℕ) → FitsIn o y) → FitsIn (less o g) x
    go None f = tt
    go (Some l) f = absurd (omega (arith, f (l + 1)))
unlimited_after false m g r free x = tt

-- without a limit, the error of each refusal is that of a fault
pub unlimited_refusal : {form : Form} {r : Reading} {m m' : Meter} {k : ErrorKind} → IsUnlimited r.charging m → Unreadable form r m m' k → HasFault form r k
unlimited_refusal {form} {r} {m} {m'} free refused =
    let (g, x, covers, e, few) = refused.spent in
    elim (named_truly refused) [
      | inl f ↦ f
      | inr f ↦ absurd (never_exceeds m' f.1 (subst (IsUnlimited r.charging) (sym e) (unlimited_after r.charging m g x free)))
    ]

-- with a budget of x words, at most x + 1 pointers are followed
pub few_followed : (m m' : Meter) (x : ℕ) → m.left ≡ Some x → Spends true m m' 1 → m'.followed ≤ m.followed + (x + 1)
few_followed m m' x e (g, r, covers, f, few) =
    let paid : g ≤ x = rw e at covers in
    let now : m'.followed ≡ (after_charge true m g r).followed = ap (λ y. y.followed) f in
    omega (arith, paid, now, few)

pub reading_spends : {form : Form} {r : Reading} {m m' : Meter} {t : Tree} → Reads form r m m' t → Spends r.charging m m' 1
reading_spends {form} {r} {m} {m'} {t} a = (a.cost, pointers_in t, a.covers, a.spent, pointers_within r.segments r.levels r.segment r.at t (a.cost, a.means))
