-- The words of a replaced value stay zero: the new value is in other words.
use Rattle.std.proofs.Common.{◌≡◌, ℕ, ◌+◌, ◌*◌, ◌<◌, ◌≤◌, List, [], ◌∷◌, inl, inr, length, ap, ◌∙◌, arith}
use Rattle.std.proofs.lemmas.Bool.{cases_lt}
use Rattle.capnp_format.specs.Segments.{Segments, segment, word_at}
use Rattle.capnp_format.specs.Tree.{Tree, Null}
use Rattle.capnp_format.specs.Forest.{times, cover}
use Rattle.capnp_arena_traits.specs.View.{View}
use Rattle.capnp_arena_traits.specs.declared.arena.WordPlace.{WordPlace}
use Rattle.capnp_allocation.specs.Memory.{ComesAfter}
use Rattle.capnp_format.specs.Path.{extent, word_interval}
use Rattle.capnp_allocation.specs.Stored.{IsReplaced, IsStored}
use Rattle.capnp_allocation.specs.Zeroed.{IsApart, IsZeroed}
use Rattle.capnp_in_place.proofs.ByteLists.BytesWritten.{WritesBytes, written_beside}
use Rattle.capnp_allocation.proofs.Extents.{times-first}

-- The words of S that a value below (s, p) uses are zero in R. So if the place in R uses one of
-- these words, that word is zero.
abbrev pub ZeroesOld : Segments → Segments → ℕ → ℕ → Type 0
ZeroesOld S R s p = (t : Tree) → IsStored S s p t → (v r : ℕ) → 0 < times (cover S s p t) v r → word_at R v r ≡ 0

-- What the place holds is zeroed, and then another value is made there.
pub old_zeroed : (S M R : Segments) (s p : ℕ) (u : Tree) → ((t : Tree) → IsApart S s p t → IsZeroed S M (extent S s p t)) → IsReplaced M R s p Null u → ZeroesOld S R s p
old_zeroed S M R s p u zeroed made = λ t stored v r held.
    (let z = zeroed t (record { means = stored.means; apart = stored.apart }) in
    let whole = times-first (word_interval s p) (cover S s p t) v r in
    let some : 0 < times (extent S s p t) v r = omega (arith, held, whole) in
    let beside : times (word_interval s p ∷ []) v r ≡ 0 = omega (arith, held, whole, stored.apart v r) in
    made.kept v r beside (omega (arith, stored.inside v r some, z.words v)) ∙ z.zero v r some)

-- An object that is after all that was there starts at or after the old end of its segment.
starts_behind : (old : View) (id n : ℕ) (h : WordPlace) → 0 < n → ComesAfter old id n h → length (segment old.words h.segment) ≤ h.at
starts_behind old id n h some x = elim (cases_lt (old.room id) (length (segment old.words id) + n)) [
  | inl full ↦ (let (next, start) = x.far full in omega (arith, start))
  | inr fits ↦ (let (there, start) = x.near some (omega (arith, fits)) in omega (arith, start, ap (λ v. length (segment old.words v)) there))
]

-- Then bytes are written in the object: the old words stay zero.
pub old_beside : (old : View) (M R : Segments) (id p n : ℕ) (h : WordPlace) (xs : List ℕ) → ZeroesOld old.words M id p → ComesAfter old id n h → WritesBytes M R h xs → length xs ≤ 8 * n →
    h.at + n ≤ length (segment M h.segment) → ZeroesOld old.words R id p
old_beside old M R id p n h xs zero behind writes enough claim = λ t stored v r held.
    (let whole = times-first (word_interval id p) (cover old.words id p t) v r in
    let inside : r < length (segment old.words v) = stored.inside v r (omega (arith, held, whole)) in
    written_beside M R h xs n writes enough claim v r (λ there some. omega (arith, inside, starts_behind old id n h (omega (arith, some, enough)) behind, ap (λ u. length (segment old.words u)) there)) ∙ zero t stored v r held)
