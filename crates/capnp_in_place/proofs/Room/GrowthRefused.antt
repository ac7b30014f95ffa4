-- Growths that are refused.
use Rattle.std.proofs.Common.{ap, inl, inr, length, refl, subst, sym, true, ℕ, ◌+◌, ◌∙◌, ◌≡◌, ◌≤◌}
use Rattle.capnp_words.specs.declared.error.ErrorKind.{ErrorKind}
use Rattle.capnp_format.specs.Segments.{Segments, segment}
use Rattle.capnp_arena_traits.specs.Taking.{IsAllocationRefusal, IsFirstFit}
use Rattle.capnp_arena_traits.specs.View.{View}
use Rattle.capnp_allocation.specs.Memory.{RefusesWords, SpendsMemory, refusals_for}
use Rattle.capnp_allocation.proofs.Memory.{keeps_itself, made_refused, spends_nothing, words_in, words_named}
use Rattle.capnp_in_place.specs.Rooms.{RefusesGrowth}
use Rattle.capnp_words.specs.Names.{is_allocation_name}
use Rattle.capnp_words.specs.declared.error.ErrorKind.TheVariants.{AllocationFailed, FoundBitListWhereStructListWasExpected, MessageContainsOutOfBoundsPointer, MessageTooLarge}
use Rattle.capnp_in_place.specs.Existing.{is_unfound}

-- n words are refused if segment id has no room for them, and no segment has room for one word
-- more.
pub anywhere_refused : (a mid b : View) (id n : ℕ) (k : ErrorKind) → mid ≡ a → (length (segment a.words id) + n ≤ a.room id → ⊥) → IsAllocationRefusal mid b (length mid.words) (n + 1) k → b ≡ record mid { refusals = b.refusals } →
    ((j : ℕ) → IsFirstFit mid (n + 1) j → ⊥) → RefusesWords a b n k
anywhere_refused a mid b id n k same full named e none =
    let all : b ≡ record mid { words = b.words; refusals = b.refusals } = e ∙ ap (λ (S : Segments). record mid { words = S; refusals = b.refusals }) (sym (ap words_in e)) in
    subst (λ v. (length (segment v.words id) + n ≤ v.room id → ⊥) → RefusesWords v b n k) same
    (λ closed. (made_refused mid b id n k (named, all) (ap words_in e) (λ room. elim room [ inl fits ↦ closed fits | inr (j, fit) ↦ none j fit ])).0) full

pub growth_named : (a b : View) (n pointers : ℕ) (k : ErrorKind) → RefusesGrowth a b n pointers k → is_allocation_name k ≡ true
growth_named a b n pointers k (inl (words, same)) = words_named a b n k words
growth_named a b n pointers k (inr (some, words)) = words_named a b 1 k words

-- Nothing, if its error isn't the allocator's.
nothing_spent : (a : View) (k : ErrorKind) → ((n : ℕ) → refusals_for k n ≡ n) → SpendsMemory a a k
nothing_spent a k other = spends_nothing a a k other (keeps_itself a)

-- Nothing is spent if there are too many words, or if what is found is outside the message or is a
-- list of bits.
pub too_large_spent : (a : View) (n : ℕ) → SpendsMemory a a (MessageTooLarge n)
too_large_spent a n = nothing_spent a (MessageTooLarge n) (λ n. refl)

pub outside_spent : (a : View) → SpendsMemory a a MessageContainsOutOfBoundsPointer
outside_spent a = nothing_spent a MessageContainsOutOfBoundsPointer (λ n. refl)

pub bits_spent : (a : View) → SpendsMemory a a FoundBitListWhereStructListWasExpected
bits_spent a = nothing_spent a FoundBitListWhereStructListWasExpected (λ n. refl)

-- Nothing is spent if nothing is found.
pub unfound_spent : (a : View) (k : ErrorKind) → is_unfound k ≡ true → SpendsMemory a a k
unfound_spent a AllocationFailed e = absurd (cc)
unfound_spent a k e = nothing_spent a k (λ n. refl)
