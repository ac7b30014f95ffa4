-- A value stored at a place, and a message in which another value is stored there, and the rest is
-- unchanged.
use Rattle.std.specs.Prelude.{◌≡◌, ℕ, ◌<◌, ◌≤◌, ◌⊎◌, length}
use Rattle.capnp_format.specs.Segments.{Segments, segment, word_at}
use Rattle.capnp_format.specs.Tree.{Tree, Null}
use Rattle.capnp_format.specs.Means.{Means}
use Rattle.capnp_format.specs.Forest.{times, IsTidy}
use Rattle.capnp_format.specs.Path.{extent}
use Rattle.capnp_allocation.specs.Zeroed.{IsPruned}

-- The word at (s, p) means t, and holds no word twice and none outside its segment.
pub record IsStored (S : Segments) (s p : ℕ) (t : Tree) : Type 0 where
  pub means : (n : ℕ) × (c : ℕ) × Means S n s p t c
  pub apart : (v r : ℕ) → times (extent S s p t) v r ≤ 1
  pub inside : (v r : ℕ) → 0 < times (extent S s p t) v r → r < length (segment S v)
  pub tidy : IsTidy S s p t

-- From S to R the place (s, p) gets u in place of t. u uses words of t and new ones, the rest of
-- these is zero, and all other words stay.
pub record IsReplaced (S R : Segments) (s p : ℕ) (t u : Tree) : Type 0 where
  pub segments : length S ≤ length R
  pub words : (v : ℕ) → length (segment S v) ≤ length (segment R v)
  pub stored : IsStored R s p u
  pub uses : (v r : ℕ) → 0 < times (extent R s p u) v r → (0 < times (extent S s p t) v r) ⊎
      (length (segment S v) ≤ r)
  pub zero_elsewhere : (v r : ℕ) → times (extent R s p u) v r ≡ 0 →
      (0 < times (extent S s p t) v r) ⊎ (length (segment S v) ≤ r) → word_at R v r ≡ 0
  pub kept : (v r : ℕ) → times (extent S s p t) v r ≡ 0 → r < length (segment S v) →
      word_at R v r ≡ word_at S v r

-- For every value t that (s, p) stores in S: from S to R, u replaces t.
abbrev pub Puts : Segments → Segments → ℕ → ℕ → Tree → Type 0
Puts S R s p u = (t : Tree) → IsStored S s p t → IsReplaced S R s p t u

-- From S to R, words are zeroed first, and then u replaces null at (s, p). Nothing is said about
-- what (s, p) stores in S.
abbrev pub PutsOnceZeroed : Segments → Segments → ℕ → ℕ → Tree → Type 0
PutsOnceZeroed S R s p u = (M : Segments) × IsPruned S M × IsReplaced M R s p Null u
