-- Objects that are filled after they are made: consecutive null pointers, and elements of a list of
-- structs.
use Rattle.std.specs.Prelude.{◌≡◌, ℕ, ◌+◌, ◌*◌, ◌<◌, ◌≤◌, List, length}
use Rattle.capnp_format.specs.Segments.{Segments}
use Rattle.capnp_format.specs.Tree.{Null, Trees, no_trees, tree, count, Elements, no_elements}
use Rattle.capnp_format.specs.Tree.{element, element_count}
use Rattle.capnp_arena_traits.specs.Written.{with_words}
use Rattle.capnp_allocation.specs.Stored.{IsReplaced}

-- From S to R the consecutive null pointers from (s, p) on get these values, one after the other.
abbrev pub AreFilled : Segments → Segments → ℕ → ℕ → Trees → Type 0
AreFilled S R s p no_trees = R ≡ S
AreFilled S R s p (tree t ts) = (M : Segments) × IsReplaced S M s p Null t × AreFilled M R s (p + 1) ts

-- From S to R the element at (s, p) gets the data words ws, and then its first pointers get the
-- values ts.
pub record IsElementFilled (S R : Segments) (s p : ℕ) (ws : List ℕ) (ts : Trees) : Type 0 where
  pub written : Segments
  pub writes : written ≡ with_words S s p ws
  pub filled : AreFilled written R s (p + length ws) ts

-- From S to R consecutive elements of d data words and q pointers, from (s, p) on, get all their
-- values.
abbrev pub AreElementsFilled : Segments → Segments → ℕ → ℕ → ℕ → ℕ → Elements → Type 0
AreElementsFilled S R s p d q no_elements = R ≡ S
AreElementsFilled S R s p d q (element ws ts es) =
    (M : Segments) × (length ws ≡ d) × (count ts ≡ q) × IsElementFilled S M s p ws ts ×
    AreElementsFilled M R s (p + d + q) d q es

-- From S to R some of n elements get all their values, and then the next one gets its data words
-- and some of its values.
pub record ArePartlyFilled (S R : Segments) (s p d q n : ℕ) : Type 0 where
  pub elements : Elements
  pub fewer : element_count elements < n
  pub words : List ℕ
  pub wide : length words ≡ d
  pub children : Trees
  pub few : count children ≤ q
  pub between : Segments
  pub before : AreElementsFilled S between s p d q elements
  pub last : IsElementFilled between R s (p + element_count elements * (d + q)) words children
