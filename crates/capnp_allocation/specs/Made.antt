-- New objects, all zero.
use Rattle.std.specs.Prelude.{◌≡◌, ℕ, zero, suc, ◌+◌, ◌*◌, ◌<◌, ◌≤◌, ◌^◌, List, [], ◌∷◌, ◌++◌}
use Rattle.std.specs.Prelude.{length, replicate, if◌then◌else◌, nat_eq, ⊤}
use Rattle.capnp_format.specs.Word.{kind, data_words, pointer_count, element_size, list_count}
use Rattle.capnp_words.specs.Sizes.{size_number}
use Rattle.capnp_words.specs.declared.wire_pointer.StructSize.{StructSize}
use Rattle.capnp_format.specs.Segments.{Segments, segment, word_at, Target, Grows}
use Rattle.capnp_format.specs.Numbers.{words_for}
use Rattle.capnp_format.specs.Tree.{Tree, Null, Struct, Flat, Pointers, Structs, Trees, no_trees}
use Rattle.capnp_format.specs.Tree.{tree, Elements, no_elements, element}
use Rattle.capnp_format.specs.Means.{Leads}
use Rattle.capnp_format.specs.Forest.{times, pads_of, object_of, target}
use Rattle.capnp_format.specs.Path.{word_interval}
use Rattle.capnp_allocation.specs.declared.making.Shape.{Shape}
use Rattle.capnp_arena_traits.specs.declared.arena.WordPlace.{WordPlace}
use Rattle.capnp_allocation.specs.declared.making.Shape.TheVariants.{Struct as StructShape, List as ListShape}

-- The word's kind and upper half are those of the shape.
abbrev pub IsShape : Shape → ℕ → Type 0
IsShape (StructShape size) x =
    (kind x ≡ 0) × (data_words x ≡ size.data_words) × (pointer_count x ≡ size.pointers)
IsShape (ListShape size n) x = (kind x ≡ 1) × (element_size x ≡ size_number size) × (list_count x ≡ n)

-- A list's count fits its bits.
abbrev pub CountFits : Shape → Type 0
CountFits (StructShape size) = ⊤
CountFits (ListShape size n) = n < 2 ^ 29

-- A struct has at least one word.
abbrev pub AsksWords : Shape → Type 0
AsksWords (StructShape size) = 0 < size.data_words + size.pointers
AsksWords (ListShape size n) = ⊤

-- n zero words.
abbrev pub words_of_zero : ℕ → List ℕ
words_of_zero n = replicate n 0

-- n null pointers.
abbrev pub nulls : ℕ → Trees
nulls zero = no_trees
nulls (suc n) = tree Null (nulls n)

-- n structs of d data words and q pointers, all zero.
abbrev pub zero_elements : ℕ → ℕ → ℕ → Elements
zero_elements d q zero = no_elements
zero_elements d q (suc n) = element (words_of_zero d) (nulls q) (zero_elements d q n)

-- A struct of this size, all zero ("Structs").
abbrev pub zero_struct : StructSize → Tree
zero_struct size = Struct (words_of_zero size.data_words) (nulls size.pointers)

-- A list of n structs, all zero ("Lists").
abbrev pub zero_structs : ℕ → StructSize → Tree
zero_structs n size =
    Structs size.data_words size.pointers (zero_elements size.data_words size.pointers n)

-- A list of n elements that aren't structs, all zero or null, by the number of its element size
-- ("Lists").
abbrev pub zero_list : ℕ → ℕ → Tree
zero_list size n = if nat_eq size 6 then Pointers (nulls n) else Flat size (words_of_zero n)

-- The number of words of n elements of a size that aren't structs.
abbrev pub list_words : ℕ → ℕ → ℕ
list_words size n = if nat_eq size 6 then n else words_for size n

-- The number of words of a list of n structs of a size, including its tag.
abbrev pub structs_words : ℕ → StructSize → ℕ
structs_words n size = 1 + n * (size.data_words + size.pointers)

-- From S to R there are n more words at (s, p), after what was there, and all new words are zero.
pub record IsGrown (S R : Segments) (s p n : ℕ) : Type 0 where
  pub grows : Grows S R
  pub behind : length (segment S s) ≤ p
  pub room : p + n ≤ length (segment R s)
  pub exists : s < length R
  pub kept : (v r : ℕ) → r < length (segment S v) → word_at R v r ≡ word_at S v r
  pub zero : (v r : ℕ) → length (segment S v) ≤ r → word_at R v r ≡ 0

-- From S to R the pointer at (s, p) is written, and leads to n new words at the target a, all zero.
-- Its landing pads are new as well, and nothing else is written.
pub record IsMade (S R : Segments) (s p : ℕ) (a : Target) (n : ℕ) : Type 0 where
  pub grows : Grows S R
  pub leads_there : Leads R s p a
  pub exists : a.segment < length R
  pub claims : a.start + n ≤ length (segment R a.segment)
  pub once : (v r : ℕ) → times (pads_of (word_at R s p) ++ object_of a n ∷ []) v r ≤ 1
  pub fresh : (v r : ℕ) → 0 < times (pads_of (word_at R s p) ++ object_of a n ∷ []) v r →
      (length (segment S v) ≤ r) × (r < length (segment R v))
  pub kept : (v r : ℕ) → times (word_interval s p ∷ []) v r ≡ 0 → r < length (segment S v) →
      word_at R v r ≡ word_at S v r
  pub zero : (v r : ℕ) → times (pads_of (word_at R s p)) v r ≡ 0 → length (segment S v) ≤ r →
      word_at R v r ≡ 0

-- The pointer at (s, p) leads to the object that starts at h.
abbrev pub LeadsToStart : Segments → ℕ → ℕ → WordPlace → Type 0
LeadsToStart S s p h = (h.segment ≡ (target S s p).segment) × (h.at ≡ (target S s p).start)
