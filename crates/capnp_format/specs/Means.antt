-- What a message says: which value the word at a place means, within how many levels of nesting,
-- and what reading it costs in words of the traversal limit. `Means S n s p t c`: in the message S,
-- the word at position p of segment s means the value t, within n levels, at cost c. A word that is
-- wrong in any way means nothing: there are no such t and c. The cases are the kinds of pointers,
-- in the encoding specification's sections "Structs", "Lists", "Inter-Segment Pointers" and
-- "Capabilities (Interfaces)". A nesting limit below zero counts as 0 levels.
use Rattle.std.specs.Prelude.{◌≡◌, ◌≢◌, ℕ, pred, ◌+◌, ◌*◌, ◌<◌, ◌≤◌, if◌then◌else◌, nat_eq, length, Some}
use Rattle.capnp_format.specs.Word.{kind, offset_bits, data_words, pointer_count, element_size}
use Rattle.capnp_format.specs.Word.{list_count, capability_word}
use Rattle.capnp_format.specs.Numbers.{words_for, unpacked}
use Rattle.capnp_format.specs.Segments.{Segments, segment, word_at, words_at, HasWords, Target, leads}
use Rattle.capnp_format.specs.Tree.{Tree, Null, Capability, Struct, Flat, Pointers, Structs, Trees}
use Rattle.capnp_format.specs.Tree.{no_trees, tree, Elements, no_elements, element, count}
use Rattle.capnp_format.specs.Tree.{element_count}

-- The word at (s, p) isn't zero, and leads to the target a ("Structs", "Inter-Segment Pointers").
abbrev pub Leads : Segments → ℕ → ℕ → Target → Type 0
Leads S s p a = (word_at S s p ≢ 0) × (leads S s p ≡ Some a)

-- The n words from the target a on are inside their segment ("Structs", "Lists").
abbrev pub Claims : Segments → Target → ℕ → Type 0
Claims S a n = a.start + n ≤ length (segment S a.segment)

-- The word at (s, p) leads to the target a, a struct of d data words and q pointers ("Structs").
pub record StructAt (S : Segments) (s p : ℕ) (a : Target) (d q : ℕ) : Type 0 where
  pub leads_to : Leads S s p a
  pub is_struct : kind a.word ≡ 0
  pub data_of : data_words a.word ≡ d
  pub pointers : pointer_count a.word ≡ q

-- The word at (s, p) leads to the target a, a list of element size `size` and count n ("Lists").
pub record ListAt (S : Segments) (s p : ℕ) (a : Target) (size n : ℕ) : Type 0 where
  pub leads_to : Leads S s p a
  pub is_list : kind a.word ≡ 1
  pub is_size : element_size a.word ≡ size
  pub counts : list_count a.word ≡ n

-- The word g is the tag of a list of structs: n elements of d data words and q pointers ("Lists").
pub record IsTag (g n d q : ℕ) : Type 0 where
  pub is_struct : kind g ≡ 0
  pub counts : offset_bits g ≡ n
  pub data_of : data_words g ≡ d
  pub pointers : pointer_count g ≡ q

-- The extra cost of n elements of this width: one word for each element of width 0, so that a short
-- message can't make a reader work long ("Security Considerations").
abbrev pub count_cost : ℕ → ℕ → ℕ
count_cost width n = if nat_eq width 0 then n else 0

-- One case for each kind of value ("Structs", "Lists", "Capabilities (Interfaces)").
-- - Null is the zero word, and costs nothing.
-- - A capability is a word whose lower half is exactly 3. It costs only its landing pads.
-- - Every other case requires a level, and that the claimed words are inside their segment. Its
--   children are read within one level less. It costs its landing pads, what its children cost, and
--   the following.
-- - A struct is its data section, and its children from the pointer section on. It costs its own
--   words.
-- - A list of numbers has its elements packed in the least number of words. It costs these words; a
--   list of void also costs the number of elements.
-- - A list of pointers costs one word for each.
-- - A list of structs claims m words after a tag, and its elements take at most these. It costs the
--   tag and the m words, and one for each element if elements have no width.
abbrev mutual
  pub Means : Segments → ℕ → ℕ → ℕ → Tree → ℕ → Type 0
  Means S n s p Null c = (word_at S s p ≡ 0) × (c ≡ 0)
  Means S n s p (Capability i) c =
      (a : Target) × Leads S s p a × (a.word ≡ capability_word i) × (c ≡ a.pads)
  Means S n s p (Struct words children) c =
      (a : Target) × (k : ℕ) × (0 < n) × StructAt S s p a (length words) (count children) ×
      Claims S a (length words + count children)
      × HasWords S a.segment a.start words
      × MeansAll S (pred n) a.segment (a.start + length words) children k
      × (c ≡ a.pads + (length words + count children) + k)
  Means S n s p (Flat size numbers) c =
      (a : Target) × (0 < n) × (size ≤ 5) × ListAt S s p a size (length numbers) ×
      Claims S a (words_for size (length numbers))
      × (numbers ≡ unpacked size (length numbers)
      (words_at S a.segment a.start (words_for size (length numbers))))
      × (c ≡ a.pads + words_for size (length numbers) + count_cost size (length numbers))
  Means S n s p (Pointers children) c =
      (a : Target) × (k : ℕ) × (0 < n) × ListAt S s p a 6 (count children) × Claims S a (count children)
      × MeansAll S (pred n) a.segment a.start children k
      × (c ≡ a.pads + count children + k)
  Means S n s p (Structs d q elements) c =
      (a : Target) × (m : ℕ) × (k : ℕ) × (0 < n) × ListAt S s p a 7 m × Claims S a (m + 1)
      × IsTag (word_at S a.segment a.start) (element_count elements) d q ×
      (element_count elements * (d + q) ≤ m)
      × MeansElements S (pred n) a.segment (a.start + 1) d q elements k
      × (c ≡ a.pads + (m + 1) + count_cost (d + q) (element_count elements) + k)

  -- Consecutive pointers, from (s, p) on, mean these children; the cost c is the sum.
  pub MeansAll : Segments → ℕ → ℕ → ℕ → Trees → ℕ → Type 0
  MeansAll S n s p no_trees c = c ≡ 0
  MeansAll S n s p (tree t ts) c =
      (k : ℕ) × (l : ℕ) × Means S n s p t k × MeansAll S n s (p + 1) ts l × (c ≡ k + l)

  -- Consecutive elements of d data words and q pointers, from (s, p) on, mean these elements; the
  -- cost c is that of their children.
  pub MeansElements : Segments → ℕ → ℕ → ℕ → ℕ → ℕ → Elements → ℕ → Type 0
  MeansElements S n s p d q no_elements c = c ≡ 0
  MeansElements S n s p d q (element words children es) c =
      (k : ℕ) × (l : ℕ) × (length words ≡ d) × (count children ≡ q) × HasWords S s p words
      × MeansAll S n s (p + d) children k × MeansElements S n s (p + d + q) d q es l × (c ≡ k + l)
