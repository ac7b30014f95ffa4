-- Words that are allocated in a segment, or in the next segment with room.
use Rattle.std.proofs.Common.{◌≡◌, ℕ, ◌+◌, ◌<◌, ◌≤◌, length, refl, sym, ap, ◌∙◌, subst, arith}
use Rattle.capnp_format.specs.Segments.{Segments, segment}
use Rattle.capnp_arena_traits.specs.Taking.{IsFirstFit, IsFull, GrowsSegment, GainsSegment}
use Rattle.capnp_arena_traits.specs.View.{View, KeepsLimits}
use Rattle.capnp_arena_traits.specs.Written.{with_word}
use Rattle.capnp_allocation.specs.Memory.{Lengthens, ComesAfter, TakesWords}
use Rattle.capnp_allocation.specs.Zeroed.{IsPruned}
use Rattle.capnp_arena_traits.specs.declared.arena.WordPlace.{WordPlace}
use Rattle.capnp_allocation.proofs.Memory.{words_in}
use Rattle.capnp_allocation.proofs.MadeWords.{word_put}
use Rattle.capnp_allocation.proofs.Taken.{anywhere_lengthens, extended_lengthens}
use Rattle.capnp_in_place.specs.Anew.{OnlyWrites}

-- A word is written over another.
pub put_writes : (a b : View) (s p x : ℕ) → p < length (segment a.words s) → b ≡ record a { words = with_word a.words s p x } → OnlyWrites a b
put_writes a b s p x place e =
    let put = word_put a.words b.words s p x place (ap words_in e) in
    record { limits = e ∙ ap (λ (S : Segments). record a { words = S }) (sym (ap words_in e)); segments = put.segments; words = put.words }

-- Words are zeroed.
pub pruned_writes : (a b : View) → KeepsLimits a b → IsPruned a.words b.words → OnlyWrites a b
pruned_writes a b limits p = record { limits = limits; segments = p.segments; words = p.words }

-- n words are allocated in segment id.
pub took_near : (a t : View) (id n p : ℕ) → id < length a.words → length (segment a.words id) + n ≤ a.room id → GrowsSegment a t n id p → TakesWords a t id n
took_near a t id n p there fits (at, grown) = record {
  near = λ room. subst (λ S. Lengthens a.words S id n) (sym (ap words_in grown)) (extended_lengthens a.words id n there);
  far = λ full. absurd (omega arith);
}

pub stands_near : (a t : View) (id n p : ℕ) → length (segment a.words id) + n ≤ a.room id → GrowsSegment a t n id p → ComesAfter a id n (record { segment = id; at = p })
stands_near a t id n p fits (at, grown) = record { near = λ some room. (refl, at); far = λ full. absurd (omega arith) }

-- Otherwise they are allocated elsewhere, with one more.
pub took_far : (a mid t : View) (id n k p : ℕ) → mid ≡ a → (length (segment a.words id) + n ≤ a.room id → ⊥) → ((j : ℕ) → IsFirstFit mid (n + 1) j → (k ≡ j) × GrowsSegment mid t (n + 1) j p) →
    (IsFull mid (n + 1) → GainsSegment mid t (n + 1) k p) → TakesWords a t id n × ComesAfter a id n (record { segment = k; at = p + 1 })
took_far a mid t id n k p e full first another =
    let (next, long, start) = anywhere_lengthens mid t (n + 1) k p first another in
    let h : WordPlace = record { segment = k; at = p + 1 } in
    subst (λ v. (length (segment v.words id) + n ≤ v.room id → ⊥) → TakesWords v t id n × ComesAfter v id n h) e
    (λ none. (
      record { near = λ fits. absurd (none fits); far = λ more. (k, next, long) },
      record { near = λ some fits. absurd (none fits); far = λ more. (next, ap (λ m. m + 1) start) },
    ))
    full
