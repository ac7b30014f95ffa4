-- Meanings as records, so that what they are about can be inferred from them: a lemma that takes
-- one leaves its place, its levels and its cost implicit.
use Rattle.std.proofs.Common.{ℕ}
use Rattle.capnp_format.specs.Segments.{Segments}
use Rattle.capnp_format.specs.Tree.{Tree, Trees, Elements}
use Rattle.capnp_format.specs.Means.{Means, MeansAll, MeansElements}

-- The place (s, p) means t.
pub record Meant (S : Segments) (n s p : ℕ) (t : Tree) (c : ℕ) : Type 0 where
  pub means : Means S n s p t c

-- Consecutive pointers from (s, p) on mean ts.
pub record AllMeant (S : Segments) (n s p : ℕ) (ts : Trees) (c : ℕ) : Type 0 where
  pub means : MeansAll S n s p ts c

-- Consecutive elements of d data words and q pointers from (s, p) on mean es.
pub record ElementsMeant (S : Segments) (n s p d q : ℕ) (es : Elements) (c : ℕ) : Type 0 where
  pub means : MeansElements S n s p d q es c
