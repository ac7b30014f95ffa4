-- What a step of the walk over a message does: it marks each word that is reached once.
use Rattle.std.specs.Prelude.{◌≡◌, ℕ, ◌+◌, ◌^◌, ◌<◌, ◌≤◌, ◌↔◌, List, ◌∷◌, length, Bool, true, false}
use Rattle.std.specs.Global.{Vec}
use Rattle.capnp_format.specs.Segments.{Segments, segment, word_at, Target}
use Rattle.layout_vectors.specs.Counts.{Counts, ObjectCounts, IsOnce, Counting}
use Rattle.layout_vectors.specs.Marks.{rows_of, free, KeepsRows}
use Rattle.layout_vectors.specs.declared.vectors.marks.Marks.{Marks}
use Rattle.capnp_arena_traits.specs.declared.arena.WordPlace.{WordPlace}

-- The words that are marked, and the places that are still to be visited.
pub record Walk : Type 0 where
  pub marks : Segments
  pub pending : List WordPlace

abbrev pub walk : Marks → Vec WordPlace → Walk
walk m pending = record { marks = rows_of m; pending = pending.items }

-- M has a mark for each word of S, which has fewer than 2^32 segments of fewer than 2^32 words.
pub record FitsRows (S M : Segments) : Type 0 where
  pub few : length S < 2 ^ 32
  pub small : (u : ℕ) → length (segment S u) < 2 ^ 32
  pub segments : length M ≡ length S
  pub words : (u : ℕ) → length (segment M u) ≡ length (segment S u)

-- From w to v marks are only set: at least one for each added place.
pub record Proceeds (w v : Walk) : Type 0 where
  pub keeps : KeepsRows w.marks v.marks
  pub fewer : free v.marks + length v.pending ≤ free w.marks + length w.pending

-- The step from w to v marks the object at the target a: counting with the object in w has the same
-- result as counting without it in v.
pub record TakesTarget (S : Segments) (a : Target) (w v : Walk) : Type 0 where
  pub proceeds : Proceeds w v
  pub same : (F : Counting) → ObjectCounts S a (word_at w.marks) w.pending F
      ↔ Counts S (word_at v.marks) v.pending F

-- There is no object at the target a with which no word would be held twice.
abbrev pub HasNoObject : Segments → Target → Walk → Type 0
HasNoObject S a w = (F : Counting) → ObjectCounts S a (word_at w.marks) w.pending F → IsOnce F → ⊥

-- The step from w to v marks the object at the target a; or there is none.
abbrev pub TakesObject : Segments → Target → Walk → Walk → Bool → Type 0
TakesObject S a w v true = TakesTarget S a w v
TakesObject S a w v false = HasNoObject S a w

-- The step from w to v takes what the pointer at j leads to: counting with j pending in w has the
-- same result as counting without it in v.
pub record Goes (S : Segments) (j : WordPlace) (w v : Walk) : Type 0 where
  pub proceeds : Proceeds w v
  pub same : (F : Counting) → Counts S (word_at w.marks) (j ∷ w.pending) F
      ↔ Counts S (word_at v.marks) v.pending F

abbrev pub FailsWalk : Segments → WordPlace → Walk → Type 0
FailsWalk S j w = (F : Counting) → Counts S (word_at w.marks) (j ∷ w.pending) F → IsOnce F → ⊥

-- The step from w to v takes what the pointer at j leads to; or it can't.
abbrev pub TakesSpot : Segments → WordPlace → Walk → Walk → Bool → Type 0
TakesSpot S j w v true = Goes S j w v
TakesSpot S j w v false = FailsWalk S j w
