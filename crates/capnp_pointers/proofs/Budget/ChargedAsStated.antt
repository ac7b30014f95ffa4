-- What charging and counting do to a limiter, as functions and as relations.
use Rattle.std.proofs.Common.{◌≡◌, ℕ, ◌<◌, ◌≤◌, Bool, true, false, nat_le, Option, Some, None, Result, Ok, Err, IsOk, OnOk, OnErr, IfErr, ◌↔◌, refl, sym, ap, ap₂, arith, le-leb}
use Rattle.std.proofs.lemmas.Bool.{false≢true}
use Rattle.capnp_words.specs.declared.error.ErrorKind.{ErrorKind}
use Rattle.capnp_words.specs.declared.error.ErrorKind.TheVariants.{ReadLimitExceeded}
use Rattle.capnp_words.specs.Meter.{Meter, FitsIn, raised, Affords, charged, counted_once}
use Rattle.capnp_pointers.specs.Metered.{fits, covers, charge_words}
use Rattle.capnp_pointers.specs.Spending.{after_charge}
use Rattle.capnp_pointers.proofs.Budget.PaidAndLeft.{less_none}

pub covers_true : (charging : Bool) (m : Meter) (n : ℕ) → Affords charging m n → covers charging m n ≡ true
covers_true false m n h = refl
covers_true true m n h = go m.left h
  where
    go : (o : Option ℕ) → FitsIn o n → fits o n ≡ true
    go None h = refl
    go (Some x) h = le-leb n x h

pub covers_false : (charging : Bool) (m : Meter) (n : ℕ) → (Affords charging m n → ⊥) → covers charging m n ≡ false
covers_false false m n h = absurd (h tt)
covers_false true m n h = go m.left h
  where
    go : (o : Option ℕ) → (FitsIn o n → ⊥) → fits o n ≡ false
    go None h = absurd (h tt)
    go (Some x) h = let lt : x < n = omega (arith, h) in let e : nat_le n x ≡ false = grind (arith, lt) in e

-- nothing is charged
pub charged_none : (charging : Bool) (m : Meter) → charged charging m 0 ≡ m
charged_none true m = ap (λ o. record { left = o; followed = m.followed }) (less_none m.left)
charged_none false m = refl

pub free : (charging : Bool) (m : Meter) → charge_words charging 0 m ≡ (Ok tt, m)
free false m = refl
free true m = rw (go m.left) (ap (λ y. (Ok tt, y)) (charged_none true m))
  where
    go : (o : Option ℕ) → fits o 0 ≡ true
    go None = refl
    go (Some x) = le-leb 0 x (let z : 0 ≤ x = omega arith in z)

pub counted_after : (charging : Bool) (m : Meter) → counted_once charging m ≡ after_charge charging m 0 1
counted_after true m = ap (λ o. record { left = o; followed = raised m.followed 1 }) (sym (less_none m.left))
counted_after false m = refl

-- an arena that was asked for words
pub charges : (charging : Bool) (m m' : Meter) (n : ℕ) (result : Result (Unit {0}) ErrorKind) → IsOk result ↔ Affords charging m n → OnOk result (m' ≡ charged charging m n) → OnErr result (m' ≡ m) → IfErr result (λ k. k ≡ ReadLimitExceeded) →
    charge_words charging n m ≡ (result, m')
charges charging m m' n (Ok tt) exactly granted refused named = rw (covers_true charging m n (exactly.0 refl)) (ap (λ y. (Ok tt, y)) (sym granted))
charges charging m m' n (Err k) exactly granted refused named = rw (covers_false charging m n (λ h. false≢true (exactly.1 h))) (ap₂ (λ l y. (Err l, y)) (sym named) (sym refused))
