-- The canonical words of a value ("Canonicalization"). They are one segment: the root pointer, then
-- each object directly after the one before it in preorder. All pointers are near. Structs have no
-- zeros at the ends of their sections, and a list of structs has the least widths that lose
-- nothing.
use Rattle.std.specs.Prelude.{◌≡◌, ℕ, zero, suc, ◌+◌, ◌-◌, ◌*◌, ◌<◌, ◌≤◌, ◌^◌, ◌%◌, max, Bool, true}
use Rattle.std.specs.Prelude.{false, nat_eq, List, [], ◌∷◌, ◌++◌, length, take, ⊤}
use Rattle.capnp_format.specs.Word.{struct_word, list_word, capability_word}
use Rattle.capnp_format.specs.Numbers.{words_for, packed}
use Rattle.capnp_format.specs.Segments.{Segments, word_at, HasWords, IsPlace}
use Rattle.capnp_format.specs.Value.{IsValue}
use Rattle.capnp_format.specs.Means.{count_cost}
use Rattle.capnp_format.specs.Tree.{Tree, Null, Capability, Struct, Flat, Pointers, Structs, Trees}
use Rattle.capnp_format.specs.Tree.{no_trees, tree, Elements, no_elements, element, count}
use Rattle.capnp_format.specs.Tree.{element_count, capabilities}

-- The used length of a list, from whether its first cell is empty and the used length of the rest
-- ("Canonicalization").
abbrev pub used_from : Bool → ℕ → ℕ
used_from true zero = 0
used_from empty n = suc n

-- The number of words that are left without the zeros at the end ("Canonicalization").
abbrev pub used_words : List ℕ → ℕ
used_words [] = 0
used_words (x ∷ xs) = used_from (nat_eq x 0) (used_words xs)

-- Whether a child is Null ("Structs").
abbrev pub is_null : Tree → Bool
is_null Null = true
is_null _ = false

-- The number of children that are left without the Nulls at the end ("Canonicalization").
abbrev pub used_trees : Trees → ℕ
used_trees no_trees = 0
used_trees (tree t ts) = used_from (is_null t) (used_trees ts)

-- The first n children ("Canonicalization").
abbrev pub take_trees : ℕ → Trees → Trees
take_trees zero ts = no_trees
take_trees (suc n) no_trees = no_trees
take_trees (suc n) (tree t ts) = tree t (take_trees n ts)

-- The least number of data words such that cutting every element to it loses only zeros; 0 without
-- elements ("Canonicalization").
abbrev pub data_width : Elements → ℕ
data_width no_elements = 0
data_width (element ws ts es) = max (used_words ws) (data_width es)

-- The least number of pointers such that cutting every element to it loses only Nulls; 0 without
-- elements ("Canonicalization").
abbrev pub pointer_width : Elements → ℕ
pointer_width no_elements = 0
pointer_width (element ws ts es) = max (used_trees ts) (pointer_width es)

-- The elements cut to d data words and q pointers ("Canonicalization").
abbrev pub cut_to : ℕ → ℕ → Elements → Elements
cut_to d q no_elements = no_elements
cut_to d q (element ws ts es) = element (take d ws) (take_trees q ts) (cut_to d q es)

-- A struct without the zeros and Nulls at the ends of its sections ("Canonicalization").
abbrev pub cut_struct : List ℕ → Trees → Tree
cut_struct ws ts = Struct (take (used_words ws) ws) (take_trees (used_trees ts) ts)

-- A list of structs at the least widths ("Canonicalization").
abbrev pub cut_structs : Elements → Tree
cut_structs es =
    Structs (data_width es) (pointer_width es) (cut_to (data_width es) (pointer_width es) es)

-- A value in canonical form: after its children are trimmed, a struct loses the zeros and Nulls at
-- the ends of its sections, and a list of structs gets the least widths. Everything else stays; a
-- list of pointers keeps its Nulls ("Canonicalization").
abbrev mutual
  pub trim : Tree → Tree
  trim Null = Null
  trim (Capability i) = Capability i
  trim (Struct ws ts) = cut_struct ws (trim_each ts)
  trim (Flat size ns) = Flat size ns
  trim (Pointers ts) = Pointers (trim_each ts)
  trim (Structs d q es) = cut_structs (trim_elements es)

  -- Each child trimmed.
  pub trim_each : Trees → Trees
  trim_each no_trees = no_trees
  trim_each (tree t ts) = tree (trim t) (trim_each ts)

  -- The children of each element trimmed.
  pub trim_elements : Elements → Elements
  trim_elements no_elements = no_elements
  trim_elements (element ws ts es) = element ws (trim_each ts) (trim_elements es)

-- The number of words of a value's objects, itself and all below, without its pointer and without
-- landing pads ("Structs", "Lists").
abbrev mutual
  pub word_count : Tree → ℕ
  word_count Null = 0
  word_count (Capability i) = 0
  word_count (Struct ws ts) = length ws + count ts + word_count_all ts
  word_count (Flat size ns) = words_for size (length ns)
  word_count (Pointers ts) = count ts + word_count_all ts
  word_count (Structs d q es) = 1 + element_count es * (d + q) + word_count_elements es

  -- The total over all children.
  pub word_count_all : Trees → ℕ
  word_count_all no_trees = 0
  word_count_all (tree t ts) = word_count t + word_count_all ts

  -- The total over the children of all elements.
  pub word_count_elements : Elements → ℕ
  word_count_elements no_elements = 0
  word_count_elements (element ws ts es) = word_count_all ts + word_count_elements es

-- The pointer word of a value. k is the 30 bits of the offset: the number of words between the
-- pointer and the object. A struct of no words always has offset -1, so that it isn't the null
-- pointer ("Structs", "Canonicalization").
abbrev pub pointer : Tree → ℕ → ℕ
pointer Null k = 0
pointer (Capability i) k = capability_word i
pointer (Struct [] no_trees) k = struct_word (2 ^ 30 - 1) 0 0
pointer (Struct ws ts) k = struct_word k (length ws) (count ts)
pointer (Flat size ns) k = list_word k size (length ns)
pointer (Pointers ts) k = list_word k 6 (count ts)
pointer (Structs d q es) k = list_word k 7 (element_count es * (d + q))

-- The consecutive pointers of children, with k words between the last pointer and the first body
-- ("Canonicalization").
abbrev pub pointers : ℕ → Trees → List ℕ
pointers k no_trees = []
pointers k (tree t ts) = pointer t (count ts + k) ∷ pointers (k + word_count t) ts

-- Consecutive elements of d data words and q pointers, with k words of bodies between the last
-- element and the first body of these ("Lists", "Canonicalization").
abbrev pub rows : ℕ → ℕ → ℕ → Elements → List ℕ
rows d q k no_elements = []
rows d q k (element ws ts es) =
    ws ++ pointers (element_count es * (d + q) + k) ts ++ rows d q (k + word_count_all ts) es

-- The words after a value's pointer: its object, then the bodies of its children in order, which is
-- preorder ("Canonicalization").
abbrev mutual
  pub body : Tree → List ℕ
  body Null = []
  body (Capability i) = []
  body (Struct ws ts) = ws ++ pointers 0 ts ++ bodies ts
  body (Flat size ns) = packed size ns
  body (Pointers ts) = pointers 0 ts ++ bodies ts
  body (Structs d q es) = (struct_word (element_count es) d q ∷ rows d q 0 es) ++ element_bodies es

  -- The bodies of children in order.
  pub bodies : Trees → List ℕ
  bodies no_trees = []
  bodies (tree t ts) = body t ++ bodies ts

  -- The bodies of the children of all elements in order.
  pub element_bodies : Elements → List ℕ
  element_bodies no_elements = []
  element_bodies (element ws ts es) = bodies ts ++ element_bodies es

-- The canonical words of a trimmed value: its pointer, then its body ("Canonicalization").
abbrev pub encoding : Tree → List ℕ
encoding t = pointer t 0 ∷ body t

-- P, if the pointer of the value has an offset that counts words; always true of Null, a capability
-- and an empty struct, which have none ("Structs").
abbrev pub ForOffset : Tree → Type 0 → Type 0
ForOffset Null P = ⊤
ForOffset (Capability i) P = ⊤
ForOffset (Struct [] no_trees) P = ⊤
ForOffset t P = P

-- The offsets of children, as `pointers` makes them, fit the 29 bits of a number that isn't
-- negative ("Structs", "Lists").
abbrev pub OffsetsFit : ℕ → Trees → Type 0
OffsetsFit k no_trees = ⊤
OffsetsFit k (tree t ts) = ForOffset t (count ts + k < 2 ^ 29) × OffsetsFit (k + word_count t) ts

-- The offsets of the elements' children, as `rows` makes them, fit ("Lists").
abbrev pub RowsFit : ℕ → ℕ → ℕ → Elements → Type 0
RowsFit d q k no_elements = ⊤
RowsFit d q k (element ws ts es) =
    OffsetsFit (element_count es * (d + q) + k) ts × RowsFit d q (k + word_count_all ts) es

-- Each offset inside the body of a value fits. This always holds for a value of fewer than 2^29
-- words ("Structs", "Lists").
abbrev mutual
  pub IsEncodable : Tree → Type 0
  IsEncodable Null = ⊤
  IsEncodable (Capability i) = ⊤
  IsEncodable (Struct ws ts) = OffsetsFit 0 ts × AreEncodable ts
  IsEncodable (Flat size ns) = ⊤
  IsEncodable (Pointers ts) = OffsetsFit 0 ts × AreEncodable ts
  IsEncodable (Structs d q es) = RowsFit d q 0 es × AreEncodableElements es

  -- The same for each child.
  pub AreEncodable : Trees → Type 0
  AreEncodable no_trees = ⊤
  AreEncodable (tree t ts) = IsEncodable t × AreEncodable ts

  -- The same for the children of each element.
  pub AreEncodableElements : Elements → Type 0
  AreEncodableElements no_elements = ⊤
  AreEncodableElements (element ws ts es) = AreEncodable ts × AreEncodableElements es

-- Trimming changes nothing ("Canonicalization").
abbrev pub IsTrimmed : Tree → Type 0
IsTrimmed t = trim t ≡ t

-- The value has no capability inside ("Canonicalization").
abbrev pub HasNoCapabilities : Tree → Type 0
HasNoCapabilities t = capabilities t ≡ 0

-- The 30 bits of the offset from the word after position p to position h.
abbrev pub offset_to : ℕ → ℕ → ℕ
offset_to p h = (h + 2 ^ 30 - (p + 1)) % 2 ^ 30

-- The offset from the word after position p to position h fits: it is from -2^29 to 2^29 - 1.
abbrev pub Reaches : ℕ → ℕ → Type 0
Reaches p h = (h < p + 1 + 2 ^ 29) × (p + 1 ≤ h + 2 ^ 29)

-- S has the pointer of t at (s, p), with an offset that fits, and the body of t where that leads,
-- at position h of segment s.
abbrev pub HasBodyAt : Segments → ℕ → ℕ → ℕ → Tree → Type 0
HasBodyAt S s p h t = ForOffset t (Reaches p h) × (word_at S s p ≡ pointer t (offset_to p h)) ×
    HasWords S s h (body t)

-- S has canonical words of t at (s, p), with the body at position h of segment s; t is a value that
-- is trimmed and encodable and has no capabilities. In a canonical message such a t is at the root,
-- with its body directly after the root.
abbrev pub HasCanonicalAt : Segments → ℕ → ℕ → ℕ → Tree → Type 0
HasCanonicalAt S s p h t = IsPlace S s p × IsValue t × IsTrimmed t × HasNoCapabilities t
    × IsEncodable t × HasBodyAt S s p h t

-- The cost of reading a value in this form, with near pointers and exact claims.
abbrev mutual
  pub charge : Tree → ℕ
  charge Null = 0
  charge (Capability i) = 0
  charge (Struct ws ts) = length ws + count ts + charge_all ts
  charge (Flat size ns) = words_for size (length ns) + count_cost size (length ns)
  charge (Pointers ts) = count ts + charge_all ts
  charge (Structs d q es) =
      (element_count es * (d + q) + 1) + count_cost (d + q) (element_count es) + charge_elements es

  -- The total over all children.
  pub charge_all : Trees → ℕ
  charge_all no_trees = 0
  charge_all (tree t ts) = charge t + charge_all ts

  -- The total over the children of all elements.
  pub charge_elements : Elements → ℕ
  charge_elements no_elements = 0
  charge_elements (element ws ts es) = charge_all ts + charge_elements es
