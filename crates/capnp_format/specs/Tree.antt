-- The trees of values that a message can hold. A value doesn't say where its objects are, in how
-- many segments, or by which kind of pointer they are reached. It does say how long its data and
-- pointer sections are, until it is trimmed ("Canonicalization").
use Rattle.std.specs.Prelude.{◌≡◌, ◌⊎◌, ℕ, zero, suc, ◌+◌, max, List, [], ⊤}

-- A value: the null pointer; a capability by its index; a struct by the words of its data section
-- and its children; a list of numbers by an element size from 0 to 5 and the elements; a list of
-- pointers; a list of structs by the data words and pointers of each element, and the elements
-- ("Structs", "Lists", "Capabilities (Interfaces)").
mutual
  pub data Tree : Type 0 where
    Null : Tree
    Capability : ℕ → Tree
    Struct : List ℕ → Trees → Tree
    Flat : ℕ → List ℕ → Tree
    Pointers : Trees → Tree
    Structs : ℕ → ℕ → Elements → Tree

  -- Children in order.
  pub data Trees : Type 0 where
    no_trees : Trees
    tree : Tree → Trees → Trees

  -- The elements of a list of structs in order, each by its data words and its children.
  pub data Elements : Type 0 where
    no_elements : Elements
    element : List ℕ → Trees → Elements → Elements

-- The number of children ("Structs", "Lists").
abbrev pub count : Trees → ℕ
count no_trees = 0
count (tree t ts) = suc (count ts)

-- The number of elements ("Lists").
abbrev pub element_count : Elements → ℕ
element_count no_elements = 0
element_count (element ws ts es) = suc (element_count es)

-- The number of objects that are nested in each other, at most: the nesting limit of a reader
-- applies to this. Null and a capability count 0.
abbrev mutual
  pub depth : Tree → ℕ
  depth Null = 0
  depth (Capability i) = 0
  depth (Struct ws ts) = 1 + depth_all ts
  depth (Flat size ns) = 1
  depth (Pointers ts) = 1 + depth_all ts
  depth (Structs d q es) = 1 + depth_elements es

  -- The greatest depth of a child.
  pub depth_all : Trees → ℕ
  depth_all no_trees = 0
  depth_all (tree t ts) = max (depth t) (depth_all ts)

  -- The greatest depth of a child of any element.
  pub depth_elements : Elements → ℕ
  depth_elements no_elements = 0
  depth_elements (element ws ts es) = max (depth_all ts) (depth_elements es)

-- The number of capabilities inside a value. Canonical form is for values without any
-- ("Canonicalization").
abbrev mutual
  pub capabilities : Tree → ℕ
  capabilities Null = 0
  capabilities (Capability i) = 1
  capabilities (Struct ws ts) = capabilities_all ts
  capabilities (Flat size ns) = 0
  capabilities (Pointers ts) = capabilities_all ts
  capabilities (Structs d q es) = capabilities_elements es

  -- The number inside all children.
  pub capabilities_all : Trees → ℕ
  capabilities_all no_trees = 0
  capabilities_all (tree t ts) = capabilities t + capabilities_all ts

  -- The number inside the children of all elements.
  pub capabilities_elements : Elements → ℕ
  capabilities_elements no_elements = 0
  capabilities_elements (element ws ts es) = capabilities_all ts + capabilities_elements es

-- n elements without data words and pointers.
abbrev pub blank : ℕ → Elements
blank zero = no_elements
blank (suc n) = element [] no_trees (blank n)

-- One of the elements has the data words vs and the children us.
abbrev pub HasElement : Elements → List ℕ → Trees → Type 0
HasElement no_elements vs us = ⊥
HasElement (element ws ts es) vs us = ((vs ≡ ws) × (us ≡ ts)) ⊎ HasElement es vs us

-- All children from index n on are Null.
abbrev pub AreNullFrom : ℕ → Trees → Type 0
AreNullFrom n no_trees = ⊤
AreNullFrom zero (tree t ts) = (t ≡ Null) × AreNullFrom zero ts
AreNullFrom (suc n) (tree t ts) = AreNullFrom n ts
