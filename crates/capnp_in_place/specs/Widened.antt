-- Objects filled up with zeros and Nulls, and a struct for each element of another list ("Structs",
-- "Lists").
use Rattle.std.specs.Prelude.{◌≡◌, ℕ, zero, suc, ◌+◌, ◌-◌, ◌*◌, ◌^◌, ◌≤◌, ◌<◌, max, if◌then◌else◌}
use Rattle.std.specs.Prelude.{◌&&◌, nat_le, nat_lt, Result, Ok, Err, List, [], ◌∷◌, ◌++◌, length}
use Rattle.std.specs.Prelude.{Some}
use Rattle.capnp_format.specs.Segments.{Segments, Grows, segment, word_at}
use Rattle.capnp_format.specs.Tree.{Tree, Null, Capability, Struct, Flat, Pointers, Structs, Trees}
use Rattle.capnp_format.specs.Tree.{no_trees, tree, Elements, no_elements, element, count}
use Rattle.capnp_format.specs.Tree.{element_count}
use Rattle.capnp_words.specs.declared.wire_pointer.StructSize.{StructSize}
use Rattle.capnp_in_place.specs.declared.existing.ExistingStruct.{ExistingStruct}
use Rattle.capnp_allocation.specs.Made.{words_of_zero, nulls, zero_elements}
use Rattle.capnp_format.specs.Forest.{target}
use Rattle.capnp_words.specs.declared.error.ErrorKind.{ErrorKind}
use Rattle.capnp_words.specs.declared.error.ErrorKind.TheVariants.{ExistingPointerIsNotAList}
use Rattle.capnp_words.specs.declared.error.ErrorKind.TheVariants.{FoundBitListWhereStructListWasExpected}
use Rattle.capnp_words.specs.declared.error.ErrorKind.TheVariants.{MessageTooLarge}
use Rattle.capnp_in_place.specs.Existing.{struct_in}
use Rattle.capnp_allocation.specs.Stored.{IsStored}

-- The words filled up to n with zeros, and never cut.
abbrev pub fill_words : ℕ → List ℕ → List ℕ
fill_words n ws = ws ++ words_of_zero (n - length ws)

-- The children filled up to n with Nulls, and never cut.
abbrev pub fill_trees : ℕ → Trees → Trees
fill_trees n no_trees = nulls n
fill_trees zero ts = ts
fill_trees (suc n) (tree t ts) = tree t (fill_trees n ts)

-- The sections of each element filled up, and never cut.
abbrev pub fill_elements : ℕ → ℕ → Elements → Elements
fill_elements d q no_elements = no_elements
fill_elements d q (element ws ts es) = element (fill_words d ws) (fill_trees q ts) (fill_elements d q es)

-- A struct for each number.
abbrev pub struct_for_each : ℕ → ℕ → List ℕ → Elements
struct_for_each d q [] = no_elements
struct_for_each d q (x ∷ xs) = element (fill_words d (x ∷ [])) (nulls q) (struct_for_each d q xs)

-- A struct for each child.
abbrev pub struct_for_each_tree : ℕ → ℕ → Trees → Elements
struct_for_each_tree d q no_trees = no_elements
struct_for_each_tree d q (tree t ts) =
    element (words_of_zero d) (fill_trees q (tree t no_trees)) (struct_for_each_tree d q ts)

-- From S to R there may be more words, all zero; those of S stay.
pub record GrowsByZeros (S R : Segments) : Type 0 where
  pub grows : Grows S R
  pub kept : (x y : ℕ) → y < length (segment S x) → word_at R x y ≡ word_at S x y
  pub zero : (x y : ℕ) → length (segment S x) ≤ y → word_at R x y ≡ 0

-- (s, p) stores t in S, which is the struct e.
abbrev pub IsStruct : Segments → ℕ → ℕ → ExistingStruct → Tree → Type 0
IsStruct S s p e t = IsStored S s p t × (struct_in (target S s p) t ≡ Some e)

-- The struct that a struct becomes if sections of this size are wanted: each is filled up, and
-- never cut.
abbrev pub widened : StructSize → List ℕ → Trees → Tree
widened size ws ts = Struct (fill_words size.data_words ws) (fill_trees size.pointers ts)

-- A struct, or each struct of a list, has sections of at least this size. False of all other
-- values, Null included.
abbrev pub HasSections : StructSize → Tree → Type 0
HasSections size (Struct ws ts) = (size.data_words ≤ length ws) × (size.pointers ≤ count ts)
HasSections size (Structs d q es) = (size.data_words ≤ d) × (size.pointers ≤ q)
HasSections size t = ⊥

-- The struct e is at least as large as requested.
abbrev pub IsAtLeast : StructSize → ExistingStruct → Type 0
IsAtLeast size e = (size.data_words ≤ e.size.data_words) × (size.pointers ≤ e.size.pointers)

-- The list of structs t, of n words; refused with MessageTooLarge if n is 2^29 or more.
abbrev pub limited : ℕ → Tree → Result Tree ErrorKind
limited n t = if nat_lt n (2 ^ 29) then Ok t else Err (MessageTooLarge n)

-- What a list becomes if structs of at least d data words and q pointers are wanted, leaving memory
-- aside; or the error with which that is refused. Null stays. Elements of void become structs of
-- exactly that size; a number becomes the lowest bits of a first data word, and a pointer the first
-- pointer of a struct ("Lists").
abbrev pub list_widened : ℕ → ℕ → Tree → Result Tree ErrorKind
list_widened d q Null = Ok Null
list_widened d q (Capability i) = Err ExistingPointerIsNotAList
list_widened d q (Struct ws ts) = Err ExistingPointerIsNotAList
list_widened d q (Flat zero ns) =
    limited (length ns * (d + q)) (Structs d q (zero_elements d q (length ns)))
list_widened d q (Flat (suc zero) ns) = Err FoundBitListWhereStructListWasExpected
list_widened d q (Flat size ns) =
    limited (length ns * (max 1 d + q)) (Structs (max 1 d) q (struct_for_each d q ns))
list_widened d q (Pointers ts) =
    limited (count ts * (d + max 1 q)) (Structs d (max 1 q) (struct_for_each_tree d q ts))
list_widened d q (Structs e k es) =
    if nat_le d e && nat_le q k then Ok (Structs e k es)
    else limited (element_count es * (max e d + max k q))
    (Structs (max e d) (max k q) (fill_elements d q es))
