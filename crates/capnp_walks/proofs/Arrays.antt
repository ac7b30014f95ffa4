-- A walk into an array writes the entries that a walk into a list collects.
use Rattle.std.proofs.Common.{◌≡◌, inl, inr, ℕ, zero, suc, ◌+◌, ◌-◌, ◌^◌, ◌≤◌, List, [], ◌∷◌, ◌++◌, length, take, set, refl, ap, ap₂, sym, ◌∙◌, arith, length-append}
use Rattle.std.proofs.lemmas.List.{set_past}
use Rattle.std.proofs.lemmas.Bool.{cases_lt}
use Rattle.capnp_pointers.specs.Extents.{capped}
use Rattle.capnp_walks.specs.Listing.{into_array, into_list}
use Rattle.capnp_walks.specs.Walks.{written_over}
use Rattle.capnp_walks.specs.declared.walks.listing.WalkedObject.{WalkedObject}
use Rattle.capnp_walks.proofs.Mapped.{Maps}

take_none : {X : Type 0} (n : ℕ) → take {A = X} n [] ≡ []
take_none zero = refl
take_none (suc n) = refl

-- One more entry.
one_written : {X : Type 0} (xs ys : List X) (o : X) → set (written_over xs ys) (length xs) o ≡ written_over (xs ++ o ∷ []) ys
one_written [] [] o = refl
one_written [] (y ∷ ys) o = ap (λ zs. o ∷ (zs ++ ys)) (sym (take_none (length ys)))
one_written (x ∷ xs) [] o = refl
one_written (x ∷ xs) (y ∷ ys) o = ap (λ zs. x ∷ zs) (one_written xs ys o)

pub none_written : {X : Type 0} (ys : List X) → written_over [] ys ≡ ys
none_written [] = refl
none_written (y ∷ ys) = refl

same_length : {X : Type 0} (xs ys : List X) → length (written_over xs ys) ≡ length ys
same_length [] ys = ap length (none_written ys)
same_length (x ∷ xs) [] = refl
same_length (x ∷ xs) (y ∷ ys) = ap suc (same_length xs ys)

-- An index of 2^64 - 1 or more is past each array.
set_capped : {X : Type 0} (ys : List X) (n : ℕ) (o : X) → length ys ≤ 2 ^ 64 - 1 → set ys (capped n) o ≡ set ys n o
set_capped ys n o small = elim (cases_lt n (2 ^ 64 - 1)) [
  | inl less ↦ ap (λ i. set ys i o) (let same : capped n ≡ n = omega (arith, less) in same)
  | inr more ↦ set_past ys (capped n) o (omega (arith, small, more)) ∙ sym (set_past ys n o (omega (arith, small, more)))
]

-- An array of this many entries, and the entries that were collected.
abbrev pub in_array : List WalkedObject → List WalkedObject → List WalkedObject × ℕ
in_array ys xs = (written_over xs ys, capped (length xs))

pub maps_in_array : (ys : List WalkedObject) → length ys ≤ 2 ^ 64 - 1 → Maps into_list into_array (in_array ys)
maps_in_array ys small = record {
  collects = λ o xs. ap₂ (λ zs n. (zs, n))
      (set_capped (written_over xs ys) (length xs) o (omega (arith, small, same_length xs ys)) ∙ one_written xs ys o)
      (let long : length (xs ++ o ∷ []) ≡ length xs + 1 = length-append xs (o ∷ []) in omega (arith, long));
  nexts = λ xs. refl;
}
