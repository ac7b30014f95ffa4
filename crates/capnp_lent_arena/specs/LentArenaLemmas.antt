-- Lemmas on an arena in lent bytes. They are among the definitions because a trait's law may cite
-- nothing else.
use Rattle.std.specs.Prelude.{ℕ, List, ◌*◌, ◌/◌, ◌^◌, ◌≡◌, ◌≤◌, ◌<◌, ◌∷◌, [], length, take, min, slice_get, slice_set, slice_index_or, Some}
use Rattle.std.proofs.Common.{zero, suc, refl, ap, ◌∙◌, arith, length-take}
use Rattle.capnp_format.specs.Bytes.{words_of, message}
use Rattle.capnp_format.specs.Segments.{segment}
use Rattle.capnp_format.proofs.WordsOf.{words}
use Rattle.capnp_arena_traits.specs.Allocations.{max_segment_words}
use Rattle.capnp_arena_traits.specs.View.{view_of}
use Rattle.capnp_arena_traits.specs.Written.{with_front}
use Rattle.capnp_arena.specs.ClearLemmas.{length-with_front}
use Rattle.capnp_arena.specs.LendingLemmas.{front_taken}
use Rattle.capnp_lent_arena.specs.LentPlace.{ready_still}
use Rattle.capnp_lent_arena.specs.Lent.{allocated_bytes, capacity_of, lent_view, names, with_lent, with_lent_bytes}
use Rattle.capnp_lent_arena.specs.declared.lent_arena.LentArena.{LentArena}
use Rattle.capnp_arena.specs.declared.arena.allocator.Segment.{Ghosts}

module _ {S : Type 0} (g : Ghosts S) where
  -- There are as many allocated bytes as the words take.
  pub lent_whole : (a : LentArena S g) → length (allocated_bytes g a) ≡ 8 * a.used
  lent_whole a = omega (arith, length-take (8 * a.used) (g.ready a.bytes), a.inside)

  -- There are as many words as are allocated.
  pub allocated_words : (a : LentArena S g) → length (words_of (allocated_bytes g a)) ≡ a.used
  allocated_words a = words (allocated_bytes g a) ∙ omega (arith, lent_whole a)

  -- With the same number of other bytes in its allocated words, the arena has these bytes.
  pub with_lent_bytes-segments : (a : LentArena S g) (id : ℕ) (old ws : List ℕ) →
      slice_get (allocated_bytes g a ∷ []) id ≡ Some old → length ws ≡ length old →
      allocated_bytes g (with_lent_bytes g a id ws) ∷ [] ≡ slice_set (allocated_bytes g a ∷ []) id ws
  with_lent_bytes-segments a zero old ws e l =
      let same : old ≡ allocated_bytes g a = cc in
      let front = with_front (8 * a.used) (g.ready a.bytes) ws in
      ap (λ x. x ∷ [])
      (ap (take (8 * a.used)) (g.holds a.bytes front (length-with_front (8 * a.used) (g.ready a.bytes) ws a.inside))
      ∙ front_taken (8 * a.used) (g.ready a.bytes) ws (l ∙ ap length same ∙ lent_whole a))
  with_lent_bytes-segments a (suc id) old ws e l = cc

  -- With other bytes in its allocated words the arena is as large as before.
  pub with_lent_bytes-capacity : (a : LentArena S g) (id : ℕ) (ws : List ℕ) →
      capacity_of g (with_lent_bytes g a id ws) ≡ capacity_of g a
  with_lent_bytes-capacity a zero ws =
      ap (λ n. min (n / 8) max_segment_words) (ready_still g a.bytes a.used ws a.inside)
  with_lent_bytes-capacity a (suc id) ws = refl

  module _ (name : S → ℕ) where
    -- No more words are allocated than there is room for.
    pub lent_within : (a : LentArena S g) (id : ℕ) →
        length (segment (lent_view g name a).words id) ≤ (lent_view g name a).room id
    lent_within a zero = omega (arith, allocated_words a, a.inside, a.small)
    lent_within a (suc id) = omega arith

    -- There is room for fewer than 2^29 words.
    pub lent_small : (a : LentArena S g) (id : ℕ) → (lent_view g name a).room id < 2 ^ 29
    lent_small a zero = omega arith
    lent_small a (suc id) = omega arith

    -- With other bytes in its allocated words, the arena differs in nothing else than its words.
    pub with_lent_bytes-view : ((s : S) (w : List ℕ) → name (g.with_ready s w) ≡ name s) →
        (a : LentArena S g) (id : ℕ) (ws : List ℕ) →
        lent_view g name (with_lent_bytes g a id ws)
        ≡ record (lent_view g name a) { words = (lent_view g name (with_lent_bytes g a id ws)).words }
    with_lent_bytes-view kept a zero ws =
        let same = with_lent_bytes-capacity a zero ws in
        let named = kept a.bytes (with_front (8 * a.used) (g.ready a.bytes) ws) in
        λ i. view_of (message (allocated_bytes g (with_lent g a ws) ∷ []))
        (λ k. slice_index_or (same i ∷ []) k 0) a.refused (names (named i))
    with_lent_bytes-view kept a (suc id) ws = refl
