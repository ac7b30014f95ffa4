-- What reading takes of a limiter: words of its budget, and pointers that it counts as followed.
use Rattle.std.specs.Prelude.{◌≡◌, ℕ, Bool, true, false, ◌+◌}
use Rattle.capnp_words.specs.Meter.{Meter, less, raised, Affords}
use Rattle.capnp_format.specs.Tree.{Tree, Null, Capability, Struct, Flat, Pointers, Structs, Trees}
use Rattle.capnp_format.specs.Tree.{no_trees, tree, Elements, no_elements, element}

-- The limiter m after g words were granted and r pointers followed; if nothing is charged, nothing
-- is counted either.
abbrev pub after_charge : Bool → Meter → ℕ → ℕ → Meter
after_charge true m g r = record { left = less m.left g; followed = raised m.followed r }
after_charge false m g r = m

-- From m to m' g words were granted and r pointers followed.
pub record Paid (charging : Bool) (m m' : Meter) (g r : ℕ) : Type 0 where
  pub covers : Affords charging m g
  pub spent : m' ≡ after_charge charging m g r

-- The number of subtrees that aren't Null, the value itself included, each as often as it occurs.
abbrev mutual
  pub pointers_in : Tree → ℕ
  pointers_in Null = 0
  pointers_in (Capability i) = 1
  pointers_in (Struct ws ts) = 1 + pointers_in_all ts
  pointers_in (Flat size ns) = 1
  pointers_in (Pointers ts) = 1 + pointers_in_all ts
  pointers_in (Structs d q es) = 1 + pointers_in_elements es

  -- The number in all children.
  pub pointers_in_all : Trees → ℕ
  pointers_in_all no_trees = 0
  pointers_in_all (tree t ts) = pointers_in t + pointers_in_all ts

  -- The number in the children of all elements.
  pub pointers_in_elements : Elements → ℕ
  pointers_in_elements no_elements = 0
  pointers_in_elements (element ws ts es) = pointers_in_all ts + pointers_in_elements es
