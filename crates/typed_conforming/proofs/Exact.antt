-- When the walk succeeds, and what it charges.
use Rattle.std.proofs.Common.{◌≡◌, ◌↔◌, inl, inr, ℕ, Result, Ok, Err, IsOk, OnOk, List, refl, sym, ap, ap₂, ◌∙◌, subst}
use Rattle.std.proofs.lemmas.Bool.{false≢true}
use Rattle.capnp_words.specs.Meter.{Meter, Affords}
use Rattle.capnp_format.specs.Tree.{Tree}
use Rattle.capnp_format.proofs.Levels.{one_value}
use Rattle.capnp_pointers.specs.Outcomes.{MeansThere, Reads}
use Rattle.capnp_pointers.specs.Reading.{Reading}
use Rattle.capnp_pointers.specs.Spending.{Paid, after_charge, pointers_in}
use Rattle.capnp_pointers.specs.Values.{value}
use Rattle.capnp_pointers.specs.Wanted.{plain}
use Rattle.capnp_pointers.proofs.WholeValue.ValueAsStated.{reads_if, reads_is}
use Rattle.typed_conforming.specs.declared.conforms.SchemaPointer.{SchemaPointer}
use Rattle.typed_conforming.specs.declared.schema.Misfit.{Misfit}
use Rattle.typed_conforming.specs.Conforms.{Conforms}
use Rattle.typed_conforming.specs.Walk.{TestOutcome, check_place}
use Rattle.typed_conforming.proofs.Agreement.{Agrees, Outcome, place_conforms}

-- The value that conforms, if the walk has succeeded.
abbrev pub Succeeded : List ℕ → SchemaPointer → Reading → Meter → Meter → Type 0
Succeeded T k r m m' = (t : Tree) × Conforms T k.kind t × Reads plain r m m' t

not_both : {m m' : Meter} {e : Misfit} {o : TestOutcome} → o ≡ (Ok tt, m) → o ≡ (Err e, m') → ⊥
not_both a b = let both = ap (λ x. x.0) (sym a ∙ b) in cc both

pub succeeded : (T : List ℕ) (k : SchemaPointer) (r : Reading) (m m' : Meter) → check_place T k r m ≡ (Ok tt, m') → Succeeded T k r m m'
succeeded T k r m m' is = go (value plain r m) refl (place_conforms T k r m)
  where
    go : (x : Outcome Tree) → value plain r m ≡ x → Agrees (Conforms T k.kind) x (check_place T k r m) → Succeeded T k r m m'
    go (Ok t, m1) v (inl (e, h)) = (t, h, subst (λ n. Reads plain r m n t) (ap (λ x. x.1) (sym e ∙ is)) (reads_if plain r m m1 t v))
    go (Ok t, m1) v (inr ((e, m2, failed), not)) = absurd (not_both is failed)
    go (Err e, m1) v (k, m2, failed) = absurd (not_both is failed)

pub succeeds : (T : List ℕ) (k : SchemaPointer) (r : Reading) (m m' : Meter) (t : Tree) → Conforms T k.kind t → Reads plain r m m' t → check_place T k r m ≡ (Ok tt, m')
succeeds T k r m m' t h read = go (subst (λ (x : Outcome Tree). Agrees (Conforms T k.kind) x (check_place T k r m)) (reads_is plain r m m' t read) (place_conforms T k r m))
  where
    go : Agrees (Conforms T k.kind) (Ok t, m') (check_place T k r m) → check_place T k r m ≡ (Ok tt, m')
    go (inl (e, h)) = e
    go (inr (failed, not)) = absurd (not h)

-- The contract of the call.
abbrev pub Accepts : List ℕ → SchemaPointer → Reading → Meter → Type 0
Accepts T k r m = (t : Tree) × (c : ℕ) × Conforms T k.kind t × MeansThere r t c × Affords r.charging m c

pub exactly : (T : List ℕ) (k : SchemaPointer) (r : Reading) (m m' : Meter) (result : Result (Unit {0}) Misfit) → check_place T k r m ≡ (result, m') → IsOk result ↔ Accepts T k r m
exactly T k r m m' result is = (there result is, back result is)
  where
    there : (result : Result (Unit {0}) Misfit) → check_place T k r m ≡ (result, m') → IsOk result → Accepts T k r m
    there (Ok x) is ok = let s = succeeded T k r m m' is in (s.0, s.2.cost, s.1, s.2.means, s.2.covers)
    there (Err e) is ok = absurd (false≢true ok)

    back : (result : Result (Unit {0}) Misfit) → check_place T k r m ≡ (result, m') → Accepts T k r m → IsOk result
    back (Ok x) is s = refl
    back (Err e) is (t, c, h, means, covers) =
        absurd (not_both (succeeds T k r m (after_charge r.charging m c (pointers_in t)) t h (record { cost = c; means = means; takes = λ e. absurd (e refl); covers = covers; spent = refl })) is)

pub spent : (T : List ℕ) (k : SchemaPointer) (r : Reading) (m m' : Meter) (result : Result (Unit {0}) Misfit) → check_place T k r m ≡ (result, m') → (t : Tree) (c : ℕ) → MeansThere r t c → OnOk result (Paid r.charging m m' c (pointers_in t))
spent T k r m m' (Ok x) is t c means =
    let s = succeeded T k r m m' is in
    let same = one_value r.segments r.levels r.levels r.segment r.at s.0 t s.2.cost c s.2.means means in
    record { covers = subst (Affords r.charging m) same.1 s.2.covers; spent = s.2.spent ∙ ap₂ (λ x u. after_charge r.charging m x (pointers_in u)) same.1 same.0 }
spent T k r m m' (Err e) is t c means = tt
