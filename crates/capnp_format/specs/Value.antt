-- Which trees are values of the format: those whose sizes fit the bits of pointer words ("Structs",
-- "Lists").
use Rattle.std.specs.Prelude.{◌≡◌, ℕ, ◌+◌, ◌*◌, ◌<◌, ◌≤◌, ◌^◌, List, length, ⊤}
use Rattle.std.specs.List.{AllByRecursion}
use Rattle.capnp_format.specs.Numbers.{element_bits}
use Rattle.capnp_format.specs.Tree.{Tree, Null, Capability, Struct, Flat, Pointers, Structs, Trees}
use Rattle.capnp_format.specs.Tree.{no_trees, tree, Elements, no_elements, element, count}
use Rattle.capnp_format.specs.Tree.{element_count}

-- Each number is below the limit ("Lists").
abbrev pub AreBelow : ℕ → List ℕ → Type 0
AreBelow limit xs = AllByRecursion (λ x. x < limit) xs

-- A tree is a value if each of its parts fits. A capability has an index of 32 bits. A struct has
-- fewer than 2^16 data words, of 64 bits, and fewer than 2^16 children. A list of numbers has an
-- element size from 0 to 5, and fewer than 2^29 elements, which fit the bits of that size. A list
-- of pointers has fewer than 2^29 children. A list of structs has fewer than 2^16 data words and
-- pointers for each element, and fewer than 2^30 elements, which take fewer than 2^29 words
-- together. All children are values ("Structs", "Lists", "Capabilities (Interfaces)").
abbrev mutual
  pub IsValue : Tree → Type 0
  IsValue Null = ⊤
  IsValue (Capability i) = i < 2 ^ 32
  IsValue (Struct ws ts) =
      (length ws < 2 ^ 16) × (count ts < 2 ^ 16) × AreBelow (2 ^ 64) ws × AreValues ts
  IsValue (Flat size ns) = (size ≤ 5) × (length ns < 2 ^ 29) × AreBelow (2 ^ element_bits size) ns
  IsValue (Pointers ts) = (count ts < 2 ^ 29) × AreValues ts
  IsValue (Structs d q es) = (d < 2 ^ 16) × (q < 2 ^ 16) × (element_count es < 2 ^ 30) ×
      (element_count es * (d + q) < 2 ^ 29) × AreElements d q es

  -- Each child is a value.
  pub AreValues : Trees → Type 0
  AreValues no_trees = ⊤
  AreValues (tree t ts) = IsValue t × AreValues ts

  -- Each element has d data words of 64 bits and q children, which are values.
  pub AreElements : ℕ → ℕ → Elements → Type 0
  AreElements d q no_elements = ⊤
  AreElements d q (element ws ts es) =
      (length ws ≡ d) × (count ts ≡ q) × AreBelow (2 ^ 64) ws × AreValues ts × AreElements d q es
