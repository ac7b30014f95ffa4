-- What an arena's view is after a call.
use Rattle.std.proofs.Common.{◌≡◌, inl, inr, ℕ, ◌+◌, ◌≤◌, true, length, refl, sym, ap, ap₂, ◌∙◌, subst, arith}
use Rattle.capnp_words.specs.declared.error.ErrorKind.{ErrorKind}
use Rattle.capnp_words.specs.declared.error.ErrorKind.TheVariants.{AllocationFailed}
use Rattle.capnp_format.specs.Segments.{Segments, segment}
use Rattle.capnp_arena_traits.specs.Allocations.{one_more}
use Rattle.capnp_arena_traits.specs.Taking.{IsAllocationRefusal}
use Rattle.capnp_arena_traits.specs.View.{View, KeepsLimits}
use Rattle.capnp_allocation.specs.Memory.{HasRoom, KeepsMemory, refusals_for, SpendsMemory, IsRefusedFor, RefusesWords}
use Rattle.capnp_allocation.specs.Zeroed.{IsPruned}
use Rattle.capnp_words.specs.Names.{is_allocation_name}

abbrev pub words_in : View → Segments
words_in v = v.words

-- Zeroing words leaves the room.
pub room_left : (old new : View) (id n : ℕ) → KeepsLimits old new → IsPruned old.words new.words → HasRoom old id n → HasRoom new id n
room_left old new id n limits pruned (inl fits) =
    let same : new.room ≡ old.room = ap (λ (v : View). v.room) limits in
    inl (omega (arith, fits, pruned.words id, ap (λ (room : ℕ → ℕ). room id) same))
room_left old new id n limits pruned (inr (k, first)) =
    let same : (j : ℕ) → new.room j ≡ old.room j = λ j. ap (λ (v : View). v.room j) limits in
    inr (k, (omega (arith, first.0, pruned.segments), omega (arith, first.1, pruned.words k, same k), λ j less. omega (arith, first.2 j less, pruned.words j, same j)))

-- A write changes only words, and so does one call after another.

pub limits_written : (a b : View) (S : Segments) → b ≡ record a { words = S } → KeepsLimits a b
limits_written a b S e = subst (KeepsLimits a) (sym e) refl

pub limits_again : (a b c : View) → KeepsLimits a b → KeepsLimits b c → KeepsLimits a c
limits_again a b c x y = y ∙ ap (λ (v : View). record v { words = c.words }) x

-- Memory is kept if nothing is done, and by one call after another.

pub keeps_itself : (v : View) → KeepsMemory v v
keeps_itself v = (refl, λ k l. refl)

pub keeps_both : (a b c : View) → length a.words ≤ length b.words → KeepsMemory a b → KeepsMemory b c → KeepsMemory a c
keeps_both a b c grows x y = (y.0 ∙ ap (λ (v : View). record v { words = c.words; room = c.room }) x.0, λ k l. y.1 k (omega arith) ∙ x.1 k l)

pub keeps_written : (a b : View) (S : Segments) → b ≡ record a { words = S } → KeepsMemory a b
keeps_written a b S e = subst (KeepsMemory a) (sym e) (refl, λ k l. refl)

-- A refusal that isn't the allocator's.
pub not_the_allocator : (k : ErrorKind) → (k ≡ AllocationFailed → ⊥) → (n : ℕ) → refusals_for k n ≡ n
not_the_allocator AllocationFailed other n = absurd (other refl)
not_the_allocator k other n = refl

pub spends_nothing : (a b : View) (k : ErrorKind) → ((n : ℕ) → refusals_for k n ≡ n) → KeepsMemory a b → SpendsMemory a b k
spends_nothing a b k other x =
    let same : b.refusals ≡ a.refusals = ap (λ (v : View). v.refusals) x.0 in
    (x.0 ∙ ap (λ n. record a { words = b.words; room = b.room; refusals = n }) (sym same), x.1, same ∙ sym (other a.refusals))

pub keeps_then_spends : (a b c : View) (k : ErrorKind) → length a.words ≤ length b.words → KeepsMemory a b → SpendsMemory b c k → SpendsMemory a c k
keeps_then_spends a b c k grows x y =
    let same : b.refusals ≡ a.refusals = ap (λ (v : View). v.refusals) x.0 in (
      y.0 ∙ ap (λ (v : View). record v { words = c.words; room = c.room; refusals = c.refusals }) x.0,
      λ j l. y.1 j (omega arith) ∙ x.1 j l,
      y.2 ∙ ap (refusals_for k) same,
    )

pub spends_then_limits : (a b c : View) (k : ErrorKind) → SpendsMemory a b k → KeepsLimits b c → SpendsMemory a c k
spends_then_limits a b c k x e =
    let room : c.room ≡ b.room = ap (λ (v : View). v.room) e in
    let times : c.refusals ≡ b.refusals = ap (λ (v : View). v.refusals) e in (
      e ∙ ap (λ (v : View). record v { words = c.words }) x.0 ∙ ap₂ (λ (n : ℕ) (f : ℕ → ℕ). record a { words = c.words; room = f; refusals = n }) (sym times) (sym room),
      λ j l. ap (λ (f : ℕ → ℕ). f j) room ∙ x.1 j l,
      times ∙ x.2,
    )

-- A refusal, as a statement about the view before and the view after.

refusal_of : (a b c d : View) (n m : ℕ) (k : ErrorKind) → b.refusals ≡ a.refusals → d.refusals ≡ c.refusals → IsAllocationRefusal b c n m k → IsAllocationRefusal a d n m k
refusal_of a b c d n m k before after (inl (e, f, g, h)) = inl (e, f, g, after ∙ h ∙ ap one_more before)
refusal_of a b c d n m k before after (inr (inl (e, f, g, h))) = inr (inl (e, f, g, after ∙ h ∙ before))
refusal_of a b c d n m k before after (inr (inr (e, f, h))) = inr (inr (e, f, after ∙ h ∙ before))

-- Words are zeroed before an object is refused.
pub refused_after : (a b c : View) (n : ℕ) (k : ErrorKind) → KeepsLimits a b → IsPruned a.words b.words → IsRefusedFor b c n k → IsRefusedFor a c n k
refused_after a b c n k limits pruned (r, e) = (
  subst (λ i. IsAllocationRefusal a c i (n + 1) k) pruned.segments (refusal_of a b c c (length b.words) (n + 1) k (ap (λ (v : View). v.refusals) limits) refl r),
  e ∙ ap (λ (v : View). record v { words = c.words; refusals = c.refusals }) limits,
)

pub words_refused_after : (a b c : View) (n : ℕ) (k : ErrorKind) → KeepsMemory a b → RefusesWords b c n k → RefusesWords a c n k
words_refused_after a b c n k x (r, full) = (refusal_of a b c c (length c.words) (n + 1) k (ap (λ (v : View). v.refusals) x.0) refl r, full)

pub words_refused_before : (a b c : View) (n : ℕ) (k : ErrorKind) → RefusesWords a b n k → KeepsLimits b c → IsPruned b.words c.words → RefusesWords a c n k
words_refused_before a b c n k (r, full) e pruned =
    let room : c.room ≡ b.room = ap (λ (v : View). v.room) e in
    let same : (j : ℕ) → c.room j ≡ b.room j = λ j. ap (λ (f : ℕ → ℕ). f j) room in (
      subst (λ i. IsAllocationRefusal a c i (n + 1) k) (sym pruned.segments) (refusal_of a a b c (length b.words) (n + 1) k refl (ap (λ (v : View). v.refusals) e) r),
      λ j fit. full j (omega (arith, fit.0, pruned.segments), omega (arith, fit.1, pruned.words j, same j), λ i less. omega (arith, fit.2 i less, pruned.words i, same i)),
    )

-- An object that is refused.
pub made_refused : (a b : View) (id n : ℕ) (k : ErrorKind) → IsRefusedFor a b n k → b.words ≡ a.words → (HasRoom a id n → ⊥) → RefusesWords a b n k × SpendsMemory a b k
made_refused a b id n k (r, e) words full =
    let room : b.room ≡ a.room = ap (λ (v : View). v.room) e in
    let same : (j : ℕ) → b.room j ≡ a.room j = λ j. ap (λ (f : ℕ → ℕ). f j) room in
    let segments : length b.words ≡ length a.words = ap length words in
    let lengths : (j : ℕ) → length (segment b.words j) ≡ length (segment a.words j) = λ j. ap (λ S. length (segment S j)) words in (
      (
        subst (λ i. IsAllocationRefusal a b i (n + 1) k) (sym segments) r,
        λ j fit. full (inr (j, (omega (arith, fit.0, segments), omega (arith, fit.1, lengths j, same j), λ i less. omega (arith, fit.2 i less, lengths i, same i)))),
      ),
      (
        e ∙ ap (λ (f : ℕ → ℕ). record a { words = b.words; room = f; refusals = b.refusals }) (sym room),
        λ j l. same j,
        elim r [
          | inl (x, f, g, h) ↦ h ∙ sym (ap (λ i. refusals_for i a.refusals) x)
          | inr (inl (x, f, g, h)) ↦ h ∙ sym (ap (λ i. refusals_for i a.refusals) x)
          | inr (inr (x, f, h)) ↦ h ∙ sym (ap (λ i. refusals_for i a.refusals) x)
        ],
      ),
    )

-- The errors with which words are refused.
pub words_named : (a b : View) (n : ℕ) (k : ErrorKind) → RefusesWords a b n k → is_allocation_name k ≡ true
words_named a b n k (inl h, none) = ap is_allocation_name h.0
words_named a b n k (inr (inl h), none) = ap is_allocation_name h.0
words_named a b n k (inr (inr h), none) = ap is_allocation_name h.0
