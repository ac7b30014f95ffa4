-- What an arena states about a segment that was added after its others, or refused.
use Rattle.std.proofs.Common.{◌≡◌, ℕ, false, arith, ◌+◌, ◌/◌, ◌<◌, ◌≤◌, List, [], ◌∷◌, ◌++◌, length, inl, inr, refl, sym, ap, ◌∙◌, subst}
use Rattle.std.proofs.lemmas.Bool.{cases_lt}
use Rattle.std.proofs.lemmas.List.{length-append}
use Rattle.capnp_format.specs.Bytes.{message}
use Rattle.capnp_format.specs.Segments.{segment}
use Rattle.std.specs.Prelude.{OnOk, OnErr, IfErr, Ok, Err, Result}
use Rattle.capnp_words.specs.declared.error.ErrorKind.{ErrorKind}
use Rattle.capnp_words.specs.declared.error.ErrorKind.TheVariants.{AllocationFailed, MessageTooLarge}
use Rattle.capnp_arena_traits.specs.Allocations.{max_segments, max_segment_words, one_more}
use Rattle.capnp_arena_traits.specs.Taking.{IsAllocationRefusal, SameRoomBelow}
use Rattle.capnp_arena_traits.specs.View.{View, view_of}
use Rattle.capnp_arena.specs.Row.{GainsRow, capacity_at, shown}
use Rattle.capnp_arena.specs.declared.arena.allocator.Segment.{Ghosts}
use Rattle.capnp_arena.specs.declared.arena.row.Row.{Row}
use Rattle.capnp_arena.proofs.RowsLemmas.{length_shown}

-- an arena that has refused memory n times
abbrev pub refusing : ℕ → View
refusing n = view_of [] (λ _. 0) n (λ _ _. false)

-- an allocator's refusal, if there may be more segments
pub refused_by : {T : Type 0} {e : ErrorKind} {old new : ℕ} (n min : ℕ) → n < max_segments →
    (max_segment_words < min → (◌≡◌ {A = Result T ErrorKind} (Err e) (Err (MessageTooLarge min))) × (new ≡ old)) →
    (min ≤ max_segment_words → (e ≡ AllocationFailed) × (new ≡ one_more old)) → IsAllocationRefusal (refusing old) (refusing new) n min e
refused_by {e = e} n min few large small =
    elim (cases_lt max_segment_words min) [
      | inl more ↦ inr (inl (let is = (large more).0 in cc, more, few, (large more).1))
      | inr within ↦ inl ((small within).0, within, few, (small within).1)
    ]

module _ {S : Type 0} (g : Ghosts S) {T : Type 0} where
  pub put_made : (r : Result T ErrorKind) (old new : List (Row S g)) (segment : S) → OnOk r (GainsRow g old new segment) → OnOk r (shown g new ≡ shown g old ++ [] ∷ [])
  put_made (Ok v) old new segment h = h.shown_more
  put_made (Err e) old new segment h = tt

  -- what holds for the segment's words holds for the room of the last row
  pub put_room : (P : ℕ → Type 0) (r : Result T ErrorKind) (old new : List (Row S g)) (segment : S) → P (length (g.content segment) / 8) → OnOk r (GainsRow g old new segment) → OnOk r (P (capacity_at g new (length (shown g old))))
  put_room P (Ok v) old new segment p h = subst P (sym (ap (capacity_at g new) (length_shown g old) ∙ h.room_there)) p
  put_room P (Err e) old new segment p h = tt

  pub put_below : (r : Result T ErrorKind) (old new : List (Row S g)) (segment : S) → OnOk r (GainsRow g old new segment) → OnErr r (new ≡ old) → SameRoomBelow (length (shown g old)) (capacity_at g old) (capacity_at g new)
  put_below (Ok v) old new segment h e k below = h.room_below k (subst (λ n. k < n) (length_shown g old) below)
  put_below (Err x) old new segment h e k below = ap (λ rows. capacity_at g rows k) e

  pub put_same : {A : Type 0} (f : List (Row S g) → A) (r : Result T ErrorKind) (old new : List (Row S g)) → OnErr r (new ≡ old) → OnErr r (f new ≡ f old)
  put_same f (Ok v) old new e = tt
  put_same f (Err x) old new e = ap f e

pub put_named : {T : Type 0} (r : Result T ErrorKind) (n min : ℕ) {old mid : ℕ} (new : ℕ) → n < max_segments → min ≤ max_segment_words → mid ≡ old → IfErr r (λ e. e ≡ AllocationFailed) → OnErr r (new ≡ one_more mid) →
    IfErr r (λ e. IsAllocationRefusal (refusing old) (refusing new) n min e)
put_named (Ok v) n min new few small same named counted = tt
put_named (Err e) n min new few small same named counted = inl (named, small, few, counted ∙ ap one_more same)

-- a segment without words is after those of B
behind_none : (B : List (List ℕ)) → length (segment (message (B ++ [] ∷ [])) (length B)) ≡ 0
behind_none [] = refl
behind_none (b ∷ B) = behind_none B

pub behind_there : (B : List (List ℕ)) {C : List (List ℕ)} {id : ℕ} → C ≡ B ++ [] ∷ [] → id ≡ length B → id < length C
behind_there B made same = omega (arith, ap length made, length-append B ([] ∷ []), same)

-- and has room for the words that were requested
pub behind_fits : (B : List (List ℕ)) (room : ℕ → ℕ) (amount : ℕ) {C : List (List ℕ)} {id : ℕ} → C ≡ B ++ [] ∷ [] → id ≡ length B → amount ≤ room (length B) → length (segment (message C) id) + amount ≤ room id
behind_fits B room amount {C} made same least =
    let none = ap (λ D. length (segment (message D) (length B))) made ∙ behind_none B in
    subst (λ k. length (segment (message C) k) + amount ≤ room k) (sym same) (omega (arith, none, least))
