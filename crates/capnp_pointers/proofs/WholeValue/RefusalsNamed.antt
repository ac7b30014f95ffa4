-- The errors with which a reading is refused. Following a pointer refuses with a place that isn't
-- there, so only a charge refuses with the read limit, and no reading refuses for lack of room.
use Rattle.std.proofs.Common.{◌≡◌, ◌⊎◌, inl, inr, ℕ, zero, suc, Bool, true, false, cond, nat_eq, nat_lt, Option, Some, None, Result, Ok, Err, IfErr, length, refl, sym, ◌∙◌, subst}
use Rattle.capnp_words.specs.declared.error.ErrorKind.{ErrorKind}
use Rattle.capnp_words.specs.declared.error.ErrorKind.TheVariants.{AllocationFailed, InvalidSegmentId, MessageContainsOutOfBoundsPointer, MessageTooLarge, NoSuchPlace, ReadLimitExceeded, TriedToReadFromNullArena}
use Rattle.capnp_format.specs.Word.{kind, upper_half, far_position, is_double}
use Rattle.capnp_format.specs.Segments.{Segments, word_at, Target, near, pad}
use Rattle.capnp_pointers.specs.Follow.{◌>=>◌}
use Rattle.capnp_pointers.specs.Faults.{Somewhere, here, below, HasFault, Exceeds}
use Rattle.capnp_words.specs.Meter.{Meter}
use Rattle.capnp_pointers.proofs.WholeValue.UnreadableIfRefused.{unreadable}
use Rattle.capnp_pointers.proofs.WholeValue.Unreadable.{Unreadable}
use Rattle.capnp_pointers.specs.Refusals.{Refused}
use Rattle.capnp_pointers.specs.Wanted.{Form, BreaksObject}
use Rattle.capnp_pointers.specs.Reading.{Reading}
use Rattle.capnp_pointers.specs.declared.object.Purpose.TheVariants.{Value}
use Rattle.capnp_pointers.proofs.WholeValue.OutcomesAreTrue.{named_truly}
use Rattle.capnp_pointers.proofs.Following.LeadsWhereFollowed.{or_named, far_named, follow, is_named, followed_at, existing, far_steps}

-- the errors with which a pointer isn't followed
abbrev IsNowhere : ErrorKind → Type 0
IsNowhere k = (k ≡ MessageContainsOutOfBoundsPointer) ⊎ (k ≡ TriedToReadFromNullArena) ⊎ ((u : ℕ) × (k ≡ InvalidSegmentId u))

abbrev Nowhere : {A : Type 0} → Result A ErrorKind → Type 0
Nowhere r = IfErr r IsNowhere

nowhere_named : {A : Type 0} (o : Option A) → Nowhere (or_named MessageContainsOutOfBoundsPointer o)
nowhere_named (Some x) = tt
nowhere_named None = inl refl

nowhere_then : {A B : Type 0} (r : Result A ErrorKind) (f : A → Result B ErrorKind) → Nowhere r → ((x : A) → Nowhere (f x)) → Nowhere (r >=> f)
nowhere_then (Ok x) f h g = g x
nowhere_then (Err k) f h g = h

nowhere_existing : {A : Type 0} (S : Segments) (u : ℕ) (x : A) → Nowhere (existing S u x)
nowhere_existing {A} S u x = go (nat_lt u (length S))
  where
    go : (b : Bool) → Nowhere {A = A} (cond b (Ok x) (Err (InvalidSegmentId u)))
    go true = tt
    go false = inr (inr (u, refl))

nowhere_far : (S : Segments) (x double : ℕ) → Nowhere (far_steps S x double)
nowhere_far S x zero = nowhere_then (existing S (upper_half x) x) _ (nowhere_existing S (upper_half x) x) (λ _. nowhere_then (or_named MessageContainsOutOfBoundsPointer (pad S x 0)) _ (nowhere_named (pad S x 0)) (λ w. nowhere_named (near S (upper_half x) (far_position x) w 1)))
nowhere_far S x (suc d) = nowhere_then (existing S (upper_half x) x) _ (nowhere_existing S (upper_half x) x) (λ _. nowhere_then (or_named MessageContainsOutOfBoundsPointer (pad S x 1)) _ (nowhere_named (pad S x 1)) (λ f. nowhere_existing S (upper_half f) _))

nowhere_choice : (b : Bool) (r t : Result Target ErrorKind) → Nowhere r → Nowhere t → Nowhere (cond b r t)
nowhere_choice true r t h g = h
nowhere_choice false r t h g = g

nowhere_follow : (S : Segments) (s p : ℕ) → Nowhere (follow S s p)
nowhere_follow S s p = let x = word_at S s p in nowhere_choice (nat_eq (kind x) 2) (far_steps S x (is_double x)) (or_named MessageContainsOutOfBoundsPointer (near S s p x 0)) (nowhere_far S x (is_double x)) (nowhere_named (near S s p x 0))

nowhere_named_far : (b : Bool) (result : Result Target ErrorKind) → Nowhere result → Nowhere (far_named b result)
nowhere_named_far true (Ok x) h = tt
nowhere_named_far false (Ok x) h = tt
nowhere_named_far true (Err k) h = inr (inl refl)
nowhere_named_far false (Err k) h = h

-- k isn't a fault's error, if it isn't one of these, and no object breaks a demand with it
no_fault : (form : Form) (k : ErrorKind) {r : Reading} → (IsNowhere k → ⊥) → ((S : Segments) (n : ℕ) (a : Target) → BreaksObject Value form S n a k → ⊥) → HasFault form r k → ⊥
no_fault form k {r} other none (here (some, inl f)) = other (subst Nowhere (sym (followed_at r) ∙ f) (nowhere_named_far (is_named r) (follow r.segments r.segment r.at) (nowhere_follow r.segments r.segment r.at)))
no_fault form k other none (here (some, inr (a, f, h))) = none _ _ a h
no_fault form k other none (below a q l o i rest) = no_fault form k other none rest

-- a reading is refused with the read limit only if some place that is reached charges more than is
-- left
pub limit_named : {form : Form} {r : Reading} {m m' : Meter} → Unreadable form r m m' ReadLimitExceeded → Somewhere (Exceeds m') r
limit_named {form} refused = elim (named_truly refused) [ inl f ↦ absurd (no_fault form ReadLimitExceeded (λ n. elim n [ inl e ↦ cc | inr (inl e) ↦ cc | inr (inr (u, e)) ↦ cc ]) (λ S n a h. h) f) | inr f ↦ f.1 ]

-- a reading is never refused with AllocationFailed
pub not_for_memory : {form : Form} {r : Reading} {m m' : Meter} → Refused form r m m' AllocationFailed → ⊥
not_for_memory {form} refused = elim (named_truly (unreadable refused)) [
  | inl f ↦ no_fault form AllocationFailed (λ n. elim n [ inl e ↦ cc | inr (inl e) ↦ cc | inr (inr (u, e)) ↦ cc ]) (λ S n a h. h) f
  | inr f ↦ let e = f.0 in cc
]

-- nor with MessageTooLarge
pub not_for_size : {form : Form} {r : Reading} {m m' : Meter} (w : ℕ) → Refused form r m m' (MessageTooLarge w) → ⊥
not_for_size {form} w refused = elim (named_truly (unreadable refused)) [
  | inl f ↦ no_fault form (MessageTooLarge w) (λ n. elim n [ inl e ↦ cc | inr (inl e) ↦ cc | inr (inr (u, e)) ↦ cc ]) (λ S n a h. h) f
  | inr f ↦ let e = f.0 in cc
]

-- nor with NoSuchPlace, which is for a place that an edit doesn't find
pub not_for_place : {form : Form} {r : Reading} {m m' : Meter} → Refused form r m m' NoSuchPlace → ⊥
not_for_place {form} refused = elim (named_truly (unreadable refused)) [
  | inl f ↦ no_fault form NoSuchPlace (λ n. elim n [ inl e ↦ cc | inr (inl e) ↦ cc | inr (inr (u, e)) ↦ cc ]) (λ S n a h. h) f
  | inr f ↦ let e = f.0 in cc
]
