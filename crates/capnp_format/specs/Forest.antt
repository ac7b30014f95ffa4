-- Which words of a message its value covers, and what messages builders make: no word is covered
-- twice, and words that aren't covered are zero ("Messages", "Inter-Segment Pointers").
use Rattle.std.specs.Prelude.{◌≡◌, ◌⊎◌, ℕ, ◌+◌, ◌*◌, ◌<◌, ◌≤◌, Bool, if◌then◌else◌, ◌&&◌, nat_eq}
use Rattle.std.specs.Prelude.{nat_le, nat_lt, List, [], ◌∷◌, ◌++◌, length, Option, Some, None, ⊤}
use Rattle.capnp_format.specs.Word.{kind, is_double, far_position, upper_half, list_count}
use Rattle.capnp_format.specs.Numbers.{words_for, packed}
use Rattle.capnp_format.specs.Segments.{Segments, segment, word_at, words_at, Target, leads}
use Rattle.capnp_format.specs.Tree.{Tree, Null, Capability, Struct, Flat, Pointers, Structs, Trees}
use Rattle.capnp_format.specs.Tree.{no_trees, tree, Elements, no_elements, element, count}
use Rattle.capnp_format.specs.Tree.{element_count}
use Rattle.capnp_format.specs.Means.{Means}

-- Consecutive words of a segment.
pub record Interval : Type 0 where
  pub segment : ℕ
  pub start : ℕ
  pub words : ℕ

-- The n words from (s, p) on.
abbrev pub row : ℕ → ℕ → ℕ → Interval
row s p n = record { segment = s; start = p; words = n }

-- Whether the interval i holds the word at (u, q).
abbrev pub holds : Interval → ℕ → ℕ → Bool
holds i u q = nat_eq u i.segment && nat_le i.start q && nat_lt q (i.start + i.words)

-- The number of intervals that hold the word at (u, q).
abbrev pub times : List Interval → ℕ → ℕ → ℕ
times [] u q = 0
times (i ∷ is) u q = (if holds i u q then 1 else 0) + times is u q

-- The landing pad of the word x, if x is a far pointer ("Inter-Segment Pointers").
abbrev pub pads_of : ℕ → List Interval
pads_of x = if nat_eq (kind x) 2 then
    record { segment = upper_half x; start = far_position x; words = 1 + is_double x } ∷ [] else []

-- The landing pad of the word x, if x is a far pointer, is inside the message.
abbrev pub PadsInside : Segments → ℕ → Type 0
PadsInside S x = kind x ≡ 2 → far_position x + (1 + is_double x) ≤ length (segment S (upper_half x))

-- The n words from the target a on.
abbrev pub object_of : Target → ℕ → Interval
object_of a n = record { segment = a.segment; start = a.start; words = n }

-- The target, or one without words if there is none.
abbrev pub target_in : Option Target → Target
target_in (Some a) = a
target_in None = record { word = 0; segment = 0; start = 0; pads = 0 }

-- Where the word at (s, p) leads, if anywhere.
abbrev pub target : Segments → ℕ → ℕ → Target
target S s p = target_in (leads S s p)

-- The intervals that a value at (s, p) reaches, without the place itself: landing pads and object,
-- once for each pointer that leads there. For a list of structs the object is the tag and the
-- elements.
abbrev mutual
  pub cover : Segments → ℕ → ℕ → Tree → List Interval
  cover S s p Null = []
  cover S s p (Capability i) = pads_of (word_at S s p)
  cover S s p (Struct ws ts) =
      pads_of (word_at S s p) ++ object_of (target S s p) (length ws + count ts)
      ∷ cover_all S (target S s p).segment ((target S s p).start + length ws) ts
  cover S s p (Flat size ns) =
      pads_of (word_at S s p) ++ object_of (target S s p) (words_for size (length ns)) ∷ []
  cover S s p (Pointers ts) =
      pads_of (word_at S s p) ++ object_of (target S s p) (count ts)
      ∷ cover_all S (target S s p).segment (target S s p).start ts
  cover S s p (Structs d q es) =
      pads_of (word_at S s p) ++ object_of (target S s p) (1 + element_count es * (d + q))
      ∷ cover_elements S (target S s p).segment ((target S s p).start + 1) d q es

  -- The same for consecutive children, from (s, p) on.
  pub cover_all : Segments → ℕ → ℕ → Trees → List Interval
  cover_all S s p no_trees = []
  cover_all S s p (tree t ts) = cover S s p t ++ cover_all S s (p + 1) ts

  -- The same for the children of consecutive elements, from (s, p) on.
  pub cover_elements : Segments → ℕ → ℕ → ℕ → ℕ → Elements → List Interval
  cover_elements S s p d q no_elements = []
  cover_elements S s p d q (element ws ts es) =
      cover_all S s (p + d) ts ++ cover_elements S s (p + d + q) d q es

-- The intervals that a value at the target a reaches, without its landing pads.
abbrev pub object_cover : Segments → Target → Tree → List Interval
object_cover S a Null = []
object_cover S a (Capability i) = []
object_cover S a (Struct ws ts) =
    object_of a (length ws + count ts) ∷ cover_all S a.segment (a.start + length ws) ts
object_cover S a (Flat size ns) = object_of a (words_for size (length ns)) ∷ []
object_cover S a (Pointers ts) = object_of a (count ts) ∷ cover_all S a.segment a.start ts
object_cover S a (Structs d q es) =
    object_of a (1 + element_count es * (d + q)) ∷ cover_elements S a.segment (a.start + 1) d q es

-- In the value at (s, p), all padding of lists is zero, and each list of structs claims exactly its
-- elements ("Lists").
abbrev mutual
  pub IsTidy : Segments → ℕ → ℕ → Tree → Type 0
  IsTidy S s p Null = ⊤
  IsTidy S s p (Capability i) = ⊤
  IsTidy S s p (Struct ws ts) = AreTidy S (target S s p).segment ((target S s p).start + length ws) ts
  IsTidy S s p (Flat size ns) =
      words_at S (target S s p).segment (target S s p).start (words_for size (length ns))
      ≡ packed size ns
  IsTidy S s p (Pointers ts) = AreTidy S (target S s p).segment (target S s p).start ts
  IsTidy S s p (Structs d q es) =
      (list_count (target S s p).word ≡ element_count es * (d + q)) ×
      AreTidyElements S (target S s p).segment ((target S s p).start + 1) d q es

  -- The same for consecutive children, from (s, p) on.
  pub AreTidy : Segments → ℕ → ℕ → Trees → Type 0
  AreTidy S s p no_trees = ⊤
  AreTidy S s p (tree t ts) = IsTidy S s p t × AreTidy S s (p + 1) ts

  -- The same for the children of consecutive elements, from (s, p) on.
  pub AreTidyElements : Segments → ℕ → ℕ → ℕ → ℕ → Elements → Type 0
  AreTidyElements S s p d q no_elements = ⊤
  AreTidyElements S s p d q (element ws ts es) =
      AreTidy S s (p + d) ts × AreTidyElements S s (p + d + q) d q es

-- The root pointer: word 0 of segment 0 ("Messages").
abbrev pub root : Interval
root = record { segment = 0; start = 0; words = 1 }

-- The root of S means t; no word is covered twice; the covered words are inside the message; all
-- other words are zero; lists are tidy ("Messages").
pub record IsForest (S : Segments) (t : Tree) : Type 0 where
  pub means : (n : ℕ) × (c : ℕ) × Means S n 0 0 t c
  pub apart : (u q : ℕ) → times (root ∷ cover S 0 0 t) u q ≤ 1
  pub inside : (u q : ℕ) → 0 < times (root ∷ cover S 0 0 t) u q → q < length (segment S u)
  pub zero_elsewhere : (u q : ℕ) → times (root ∷ cover S 0 0 t) u q ≡ 0 → word_at S u q ≡ 0
  pub tidy : IsTidy S 0 0 t

-- The allocated words S of a builder hold the value t. Either S is a forest of t; or segment 0 has
-- no word yet, all words are zero, and t is Null.
abbrev pub ArenaHolds : Segments → Tree → Type 0
ArenaHolds S t =
    IsForest S t
    ⊎ ((length (segment S 0) ≡ 0) × (t ≡ Null) × ((u q : ℕ) → word_at S u q ≡ 0))
