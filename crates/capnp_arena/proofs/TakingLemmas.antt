-- Words allocated in a message: in the first segment with room, or in a segment after the others.
use Rattle.std.proofs.Common.{◌≡◌, ℕ, Bool, IsTrue, Result, Ok, Err, zero, suc, ◌<◌, ◌≤◌, ◌-◌, ◌^◌, inl, inr, List, [], ◌∷◌, ◌++◌, length, replicate, refl, sym, ap, ◌∙◌, arith, subst}
use Rattle.std.proofs.lemmas.Bool.{cases_lt}
use Rattle.capnp_format.specs.Bytes.{words_of, message}
use Rattle.capnp_format.specs.Segments.{Segments, segment}
use Rattle.capnp_arena_traits.proofs.MessageLemmas.{length-message}
use Rattle.capnp_words.specs.declared.error.ErrorKind.{ErrorKind}
use Rattle.capnp_words.specs.declared.error.ErrorKind.TheVariants.{MessageTooLarge}
use Rattle.capnp_arena.specs.Another.{TakesAnother}
use Rattle.capnp_arena.specs.Row.{allocated, capacity, shown, capacity_at}
use Rattle.capnp_arena_traits.specs.Allocations.{max_segments, max_segment_words}
use Rattle.capnp_arena_traits.specs.Taking.{GrowsSegment, IsAllocationRefusal, IsFull, IsFirstFit, IsTaken, SameRoomBelow, with_another}
use Rattle.capnp_arena_traits.specs.View.{View, view_of}
use Rattle.capnp_arena_traits.specs.Written.{extended, with_more}
use Rattle.capnp_arena.specs.declared.arena.allocator.Segment.{Ghosts}
use Rattle.capnp_arena.specs.declared.arena.row.Row.{Row}

-- there is at most one first fit
pub fit_unique : (v : View) (amount j k : ℕ) → IsFirstFit v amount j → IsFirstFit v amount k → j ≡ k
fit_unique v amount j k a b =
    elim (cases_lt j k) [
      | inl below ↦ absurd (omega (arith, a.1, b.2 j below))
      | inr above ↦ elim (cases_lt k j) [ inl below ↦ absurd (omega (arith, b.1, a.2 k below)) | inr same ↦ omega arith ]
    ]

pub fit_not_full : (v : View) (amount k : ℕ) → IsFirstFit v amount k → IsFull v amount → ⊥
fit_not_full v amount k fit full = omega (arith, fit.1, full k fit.0)

-- The first segment with room grows, if the search for it left the view unchanged.
module _ {old mid new : View} (k amount : ℕ) {p : ℕ} (same : mid ≡ old) (fit : IsFirstFit old amount k) (at : p ≡ length (segment mid.words k)) (taken : new ≡ with_more mid k (replicate amount 0)) where
  pub fit_grows : GrowsSegment old new amount k p
  fit_grows = (at ∙ ap (λ (v : View). length (segment v.words k)) same, taken ∙ ap (λ (v : View). with_more v k (replicate amount 0)) same)

  pub fit_taken : IsTaken old.words new.words amount k p
  fit_taken = inl (fit.0, fit_grows.0, ap (λ (v : View). v.words) fit_grows.1)

  pub fit_found : (j : ℕ) → IsFirstFit old amount j → (k ≡ j) × GrowsSegment old new amount j p
  fit_found j other =
      let one = fit_unique old amount k j fit other in
      (one, subst (λ i. GrowsSegment old new amount i p) one fit_grows)

  pub fit_another : IsFull old amount → ⊥
  fit_another full = fit_not_full old amount k fit full

  pub fit_granted : new ≡ record old { words = new.words; room = new.room }
  fit_granted = λ i. view_of new.words new.room (ap (λ (v : View). v.refusals) fit_grows.1 i) (ap (λ (v : View). v.offers) fit_grows.1 i)

-- words allocated in an empty segment after the others
pub extended_another : (S : Segments) (ws : List ℕ) → extended (S ++ [] ∷ []) (length S) ws ≡ S ++ ws ∷ []
extended_another [] ws = refl
extended_another (s ∷ S) ws = ap (λ T. s ∷ T) (extended_another S ws)

module _ {S : Type 0} (g : Ghosts S) where
  pub shown_pushed : (rows : List (Row S g)) (r : Row S g) → shown g (rows ++ r ∷ []) ≡ shown g rows ++ allocated g r ∷ []
  shown_pushed [] r = refl
  shown_pushed (q ∷ rows) r = ap (λ B. allocated g q ∷ B) (shown_pushed rows r)

  pub room_pushed : (rows : List (Row S g)) (r : Row S g) → capacity_at g (rows ++ r ∷ []) (length rows) ≡ capacity g r
  room_pushed [] r = refl
  room_pushed (q ∷ rows) r = room_pushed rows r

  pub room_below : (rows : List (Row S g)) (r : Row S g) (k : ℕ) → k < length rows → capacity_at g (rows ++ r ∷ []) k ≡ capacity_at g rows k
  room_below [] r k l = absurd (omega arith)
  room_below (q ∷ rows) r zero l = refl
  room_below (q ∷ rows) r (suc k) l = room_below rows r k (omega arith)

pub message-append : (B C : List (List ℕ)) → message (B ++ C) ≡ message B ++ message C
message-append [] C = refl
message-append (b ∷ B) C = ap (λ M. words_of b ∷ M) (message-append B C)

pub ruleset pushed = (shown_pushed, room_pushed, room_below)

-- words allocated in the segment that was added after the others
pub taken_another : (B : List (List ℕ)) {C : List (List ℕ)} {T : Segments} {n : ℕ} (amount : ℕ) → C ≡ B ++ [] ∷ [] → n ≡ length B → T ≡ extended (message C) n (replicate amount 0) → T ≡ with_another (message B) amount
taken_another B {n = n} amount pushed e taken =
    taken ∙ ap (λ M. extended M n (replicate amount 0)) (ap message pushed ∙ message-append B ([] ∷ []))
    ∙ ap (λ i. extended (message B ++ [] ∷ []) i (replicate amount 0)) (e ∙ sym (length-message B))
    ∙ extended_another (message B) (replicate amount 0)

-- words allocated in the segment that was added after those of B, or a refusal of that segment
module _ (B : List (List ℕ)) {C : List (List ℕ)} {room room' : ℕ → ℕ} {refusals refusals' : ℕ} {offers offers' : ℕ → ℕ → Bool} (amount : ℕ) where
  pub another_taken : {new : View} {id : ℕ} → C ≡ B ++ [] ∷ [] → id ≡ length B → new ≡ with_more (view_of (message C) room' refusals' offers') id (replicate amount 0) → amount ≤ room' (length B) → IsTrue (offers amount (room' (length B))) → refusals' ≡ refusals →
      SameRoomBelow (length B) room room' → offers' ≡ offers → (length B ≡ max_segments → ⊥) → (length B < max_segments → max_segment_words < amount → ⊥) →
      TakesAnother (view_of (message B) room refusals offers) new amount (Ok id)
  another_taken {id = id} made e taken least size granted kept same few small = subst (λ (v : View). TakesAnother (view_of (message B) room refusals offers) v amount (Ok id)) (sym taken) (record {
    taken = (
      e ∙ sym (length-message B),
      refl,
      taken_another B amount made e refl,
      subst (λ k. amount ≤ room' k) (sym e) least,
      subst (λ k. IsTrue (offers amount (room' k))) (sym e) size,
    );
    room = λ k below. kept k (subst (λ n. k < n) (length-message B) below);
    granted = λ i. view_of (extended (message C) id (replicate amount 0)) room' (granted i) (same i);
    many = λ most. absurd (few (sym (length-message B) ∙ most));
    large = λ more less. absurd (small (subst (λ n. n < max_segments) (length-message B) less) more);
    named = tt;
    refused = tt;
  })

  pub another_refused : (e : ErrorKind) → IsAllocationRefusal (view_of (message B) room refusals offers) (view_of (message C) room' refusals' offers') (length B) amount e → (length B ≡ max_segments → (let R : Type 0 = Result ℕ ErrorKind in ◌≡◌ {A = R} (Err e) (Err (MessageTooLarge (2 ^ 64 - 1))))) →
      (length B < max_segments → max_segment_words < amount → (let R : Type 0 = Result ℕ ErrorKind in ◌≡◌ {A = R} (Err e) (Err (MessageTooLarge amount)))) → C ≡ B → room' ≡ room → offers' ≡ offers → TakesAnother (view_of (message B) room refusals offers) (view_of (message C) room' refusals' offers') amount (Err e)
  another_refused e named many large same kept offered = record {
    taken = tt;
    room = λ k below. ap (λ (f : ℕ → ℕ). f k) kept;
    granted = tt;
    many = λ most. many (sym (length-message B) ∙ most);
    large = λ more less. large (subst (λ n. n < max_segments) (length-message B) less) more;
    named = subst (λ n. IsAllocationRefusal (view_of (message B) room refusals offers) (view_of (message C) room' refusals' offers') n amount e) (sym (length-message B)) named;
    refused = λ i. view_of (message (same i)) (kept i) refusals' (offered i);
  }

-- a search for a segment with room leaves the view unchanged
pub another_as_before : {old mid new : View} {amount : ℕ} {r : Result ℕ ErrorKind} → mid ≡ old → TakesAnother mid new amount r → TakesAnother old new amount r
another_as_before {new = new} {amount = amount} {r = r} same h = subst (λ (v : View). TakesAnother v new amount r) same h

pub ruleset found = (fit_unique, fit_not_full, length-message)
