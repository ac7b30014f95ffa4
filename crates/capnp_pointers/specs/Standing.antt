-- Consecutive canonical words, as a test with a moving head finds them.
use Rattle.std.specs.Prelude.{◌≡◌, ◌≢◌, ℕ, ◌+◌, ◌-◌, ◌⊎◌, ⊤}
use Rattle.capnp_format.specs.Segments.{Segments, word_at}
use Rattle.capnp_format.specs.Tree.{Trees, no_trees, tree}
pub use Rattle.capnp_format.specs.Padding.{IsPadded}
use Rattle.capnp_format.specs.Canonical.{word_count, HasCanonicalAt}
use Rattle.capnp_format.specs.Canonical.{ForOffset}

-- S has the pointers of children from (s, p) on, and their bodies in order from the head h on.
abbrev pub HasBodiesAt : Segments → ℕ → ℕ → ℕ → Trees → Type 0
HasBodiesAt S s p h no_trees = ⊤
HasBodiesAt S s p h (tree t ts) = HasCanonicalAt S s p h t
    × HasBodiesAt S s (p + 1) (h + word_count t) ts

-- P, if the pointer of one of these values has an offset that counts words.
abbrev pub ForOffsets : Trees → Type 0 → Type 0
ForOffsets no_trees P = ⊤
ForOffsets (tree t ts) P = ForOffset t P × ForOffsets ts P

-- The last of the n words from (s, p) on isn't zero, or n is 0.
abbrev pub EndsUsed : Segments → ℕ → ℕ → ℕ → Type 0
EndsUsed S s p n = (n ≡ 0) ⊎ (word_at S s (p + n - 1) ≢ 0)
