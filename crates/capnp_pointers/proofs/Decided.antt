-- Two numbers are equal, or they aren't; one is at most the other, or greater.
use Rattle.std.proofs.Common.{◌≡◌, ◌≢◌, ◌⊎◌, inl, inr, ℕ, zero, suc, ◌<◌, ◌≤◌, Bool, true, false, nat_eq, refl, arith, eqb-true}
use Rattle.std.proofs.lemmas.Bool.{eqb-false}

pub same_or_not : (a b : ℕ) → (a ≡ b) ⊎ (a ≢ b)
same_or_not a b = go (nat_eq a b) refl
  where
    go : (c : Bool) → nat_eq a b ≡ c → (a ≡ b) ⊎ (a ≢ b)
    go true e = inl (eqb-true a b e)
    go false e = inr (eqb-false a b e)

pub within_or_not : (a b : ℕ) → (a ≤ b) ⊎ (b < a)
within_or_not zero b = inl (omega arith)
within_or_not (suc a) zero = inr (omega arith)
within_or_not (suc a) (suc b) = elim (within_or_not a b) [ inl h ↦ inl (omega arith) | inr h ↦ inr (omega arith) ]
