-- The type of a pointer: the function `pointer_type` returns what the relations `IsOfType` and
-- `HasNoType` state, and they state what it returns.
use Rattle.std.proofs.Common.{◌≡◌, ◌≢◌, ◌⊎◌, inl, inr, false, nat_eq, Result, Ok, Err, IsOk, IfOk, IfErr, ◌↔◌, refl, sym, ap, ap₂, ◌∙◌, subst}
use Rattle.std.proofs.lemmas.Bool.{ne_eqb}
use Rattle.capnp_words.specs.declared.error.ErrorKind.{ErrorKind}
use Rattle.capnp_words.specs.declared.error.ErrorKind.TheVariants.{ReadLimitExceeded}
use Rattle.capnp_words.specs.declared.wire_pointer.PointerType.{PointerType}
use Rattle.capnp_words.specs.declared.wire_pointer.PointerType.TheVariants.{Null as NullType}
use Rattle.capnp_words.specs.Meter.{Meter, Affords, charged, counted_once}
use Rattle.capnp_format.specs.Segments.{Target}
use Rattle.capnp_pointers.specs.Metered.{onward, outcome}
use Rattle.capnp_pointers.specs.Reading.{Reading, word_of}
use Rattle.capnp_pointers.specs.Refusals.{landing_words, exceeding, leading_nowhere}
use Rattle.capnp_pointers.specs.Spending.{after_charge, Paid}
use Rattle.capnp_pointers.specs.Types.{type_of, IsOfType, HasNoType, not_followed, of_no_type}
use Rattle.capnp_pointers.specs.Values.{pointer_type}
use Rattle.capnp_pointers.specs.Wanted.{follow_at, FollowsTo}
use Rattle.capnp_pointers.proofs.Budget.PaidAndLeft.{affords_none}
use Rattle.capnp_pointers.proofs.OneObject.ReadAsStated.{onward_is, followed_is, unfollowed_is, pads_are, spent_once, not_null}
use Rattle.capnp_pointers.proofs.Decided.{same_or_not}
use Rattle.capnp_pointers.proofs.OneObject.ReadInOneWay.{affords_or_not, not_both, of_same_answer, of_same_refusal}

-- a pointer that is followed
target_typed : (r : Reading) (a : Target) (m m' : Meter) (x : Result PointerType ErrorKind) → FollowsTo r a → type_of a.word ≡ x → Paid r.charging m m' a.pads 1 → pointer_type r m ≡ (x, m')
target_typed r a m m' x f named paid =
    let some : nat_eq (word_of r) 0 ≡ false = ne_eqb _ _ f.0 in
    let there : pointer_type r m ≡ (type_of a.word, charged r.charging (counted_once r.charging m) a.pads) =
    rw some (onward_is (λ b. outcome (type_of b.word)) (followed_is r a m f.1 (pads_are r a f.1) paid.covers)) in
    there ∙ ap₂ (λ y n. (y, n)) named (spent_once r.charging m a.pads ∙ sym paid.spent)

pub typed_is : (r : Reading) (m m' : Meter) (t : PointerType) → IsOfType r m m' t → pointer_type r m ≡ (Ok t, m')
typed_is r m m' t (inl (z, null, same)) = rw (z, null, same) refl
typed_is r m m' t (inr (a, f, named, paid)) = target_typed r a m m' (Ok t) f named paid

pub untyped_is : (r : Reading) (m m' : Meter) (k : ErrorKind) → HasNoType r m m' k → pointer_type r m ≡ (Err k, m')
untyped_is r m m' k (not_followed u) =
    let some : nat_eq (word_of r) 0 ≡ false = ne_eqb _ _ (not_null u) in
    rw some (ap (onward (λ b. outcome (type_of b.word))) (unfollowed_is r m m' k u))
untyped_is r m m' k (of_no_type a f named paid) = target_typed r a m m' (Err k) f named paid

-- either the pointer has a type, or it has none
abbrev Typed : Reading → Meter → Type 0
Typed r m = ((t : PointerType) × (m' : Meter) × IsOfType r m m' t) ⊎ ((k : ErrorKind) × (m' : Meter) × HasNoType r m m' k)

typed_or_not : (r : Reading) (m : Meter) → Typed r m
typed_or_not r m = elim (same_or_not (word_of r) 0) [
  | inl z ↦ inl (NullType, m, inl (z, refl, refl))
  | inr some ↦ elim (affords_or_not r.charging m (landing_words r.segments (word_of r))) [
    | inl covered ↦ go some covered (follow_at r) refl
    | inr short ↦ inr (ReadLimitExceeded, after_charge r.charging m 0 1, not_followed (exceeding some short (record { covers = affords_none r.charging m; spent = refl }) refl))
  ]
]
  where
    at_target : (a : Target) → FollowsTo r a → Affords r.charging m a.pads → (x : Result PointerType ErrorKind) → type_of a.word ≡ x → Typed r m
    at_target a f covered (Ok t) e = inl (t, after_charge r.charging m a.pads 1, inr (a, f, e, record { covers = covered; spent = refl }))
    at_target a f covered (Err k) e = inr (k, after_charge r.charging m a.pads 1, of_no_type a f e (record { covers = covered; spent = refl }))

    go : word_of r ≢ 0 → Affords r.charging m (landing_words r.segments (word_of r)) → (x : Result Target ErrorKind) → follow_at r ≡ x → Typed r m
    go some covered (Ok a) e = at_target a (some, e) (subst (Affords r.charging m) (pads_are r a e) covered) (type_of a.word) refl
    go some covered (Err k) e = inr (k, after_charge r.charging m (landing_words r.segments (word_of r)) 1, not_followed (leading_nowhere some e (record { covers = covered; spent = refl })))

pub typed_if : (r : Reading) (m m' : Meter) (t : PointerType) → pointer_type r m ≡ (Ok t, m') → IsOfType r m m' t
typed_if r m m' t e = elim (typed_or_not r m) [
  | inl (u, n, h) ↦ of_same_answer (λ y v. IsOfType r m y v) (typed_is r m n u h) e h
  | inr (k, n, h) ↦ absurd (not_both e (untyped_is r m n k h))
]

pub untyped_if : (r : Reading) (m m' : Meter) (k : ErrorKind) → pointer_type r m ≡ (Err k, m') → HasNoType r m m' k
untyped_if r m m' k e = elim (typed_or_not r m) [
  | inl (u, n, h) ↦ absurd (not_both (typed_is r m n u h) e)
  | inr (l, n, h) ↦ of_same_refusal (HasNoType r m) (untyped_is r m n l h) e h
]

-- what a call that computes `pointer_type` returned
pub typed_ok : (r : Reading) (m m' : Meter) (result : Result PointerType ErrorKind) → pointer_type r m ≡ (result, m') → IfOk result (IsOfType r m m')
typed_ok r m m' (Ok t) e = typed_if r m m' t e
typed_ok r m m' (Err k) e = tt

pub typed_exactly : (r : Reading) (m m' : Meter) (result : Result PointerType ErrorKind) → pointer_type r m ≡ (result, m') → IsOk result ↔ ((t : PointerType) × (left : Meter) × IsOfType r m left t)
typed_exactly r m m' (Ok t) e = ((λ _. (t, m', typed_if r m m' t e)), (λ _. refl))
typed_exactly r m m' (Err k) e = ((λ f. absurd (cc f)), (λ h. absurd (not_both (typed_is r m h.1 h.0 h.2) e)))

pub untyped_refused : (r : Reading) (m m' : Meter) (result : Result PointerType ErrorKind) → pointer_type r m ≡ (result, m') → IfErr result (HasNoType r m m')
untyped_refused r m m' (Ok t) e = tt
untyped_refused r m m' (Err k) e = untyped_if r m m' k e
