-- Paths into a value: the value with another one at the end of a path, and the place in a message
-- where a path leads.
use Rattle.std.specs.Prelude.{◌≡◌, ℕ, zero, suc, ◌+◌, ◌*◌, ◌<◌, List, [], ◌∷◌, length}
use Rattle.capnp_format.specs.Segments.{Segments}
use Rattle.capnp_format.specs.Tree.{Tree, Null, Struct, Pointers, Structs, Trees, no_trees, tree}
use Rattle.capnp_format.specs.Tree.{Elements, no_elements, element, count, element_count}
use Rattle.capnp_format.specs.Forest.{Interval, target, cover}

-- A step from a struct to a child, or from a list to an element, by its index.
pub data Step : Type 0 where
  Child : ℕ → Step
  Element : ℕ → Step

-- The child at index i; Null if there is none.
abbrev pub tree_at : Trees → ℕ → Tree
tree_at no_trees i = Null
tree_at (tree t ts) zero = t
tree_at (tree t ts) (suc i) = tree_at ts i

-- The children, with the one at index i replaced by u.
abbrev pub put_tree : Trees → ℕ → Tree → Trees
put_tree no_trees i u = no_trees
put_tree (tree t ts) zero u = tree u ts
put_tree (tree t ts) (suc i) u = tree t (put_tree ts i u)

-- The element at index i, as a struct; Null if there is none.
abbrev pub struct_at : Elements → ℕ → Tree
struct_at no_elements i = Null
struct_at (element ws ts es) zero = Struct ws ts
struct_at (element ws ts es) (suc i) = struct_at es i

-- The elements, with the one at index i replaced by the struct u.
abbrev pub put_struct : Elements → ℕ → Tree → Elements
put_struct (element ws ts es) zero (Struct vs us) = element vs us es
put_struct (element ws ts es) (suc i) u = element ws ts (put_struct es i u)
put_struct es i u = es

-- Where a step leads; Null if it leads nowhere.
abbrev pub next : Tree → Step → Tree
next (Struct ws ts) (Child i) = tree_at ts i
next (Pointers ts) (Element i) = tree_at ts i
next (Structs d q es) (Element i) = struct_at es i
next t step = Null

-- The tree, with what the step leads to replaced by u.
abbrev pub put : Tree → Step → Tree → Tree
put (Struct ws ts) (Child i) u = Struct ws (put_tree ts i u)
put (Pointers ts) (Element i) u = Pointers (put_tree ts i u)
put (Structs d q es) (Element i) u = Structs d q (put_struct es i u)
put t step u = t

-- The tree t, with what the path leads to replaced by u, and the rest unchanged.
abbrev pub update : Tree → List Step → Tree → Tree
update t [] u = u
update t (step ∷ path) u = put t step (update (next t step) path u)

-- A pointer of a message, by its segment and word, and the value that it means.
pub data Node : Type 0 where
  node : ℕ → ℕ → Tree → Node

-- The path leads from the pointer `from`, with its value, to the pointer `to`.
abbrev pub PathLeads : Segments → Node → List Step → Node → Type 0
PathLeads S from [] to = from ≡ to
PathLeads S (node s p (Struct ws ts)) (Child i ∷ path) to =
    let child = node (target S s p).segment ((target S s p).start + length ws + i) (tree_at ts i) in
    (i < count ts) × PathLeads S child path to
PathLeads S (node s p (Pointers ts)) (Element i ∷ path) to =
    let element = node (target S s p).segment ((target S s p).start + i) (tree_at ts i) in
    (i < count ts) × PathLeads S element path to
PathLeads S (node s p (Structs d k es)) (Element i ∷ Child j ∷ path) to =
    let child = node (target S s p).segment ((target S s p).start + 1 + i * (d + k) + d + j)
    (next (struct_at es i) (Child j)) in
    (i < element_count es) × (j < k) × PathLeads S child path to
PathLeads S from path to = ⊥

-- The word at (s, p), as an interval.
abbrev pub word_interval : ℕ → ℕ → Interval
word_interval s p = record { segment = s; start = p; words = 1 }

-- The word at (s, p), which means t, and all that is reached from there.
abbrev pub extent : Segments → ℕ → ℕ → Tree → List Interval
extent S s p t = word_interval s p ∷ cover S s p t
