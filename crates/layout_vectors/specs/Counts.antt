-- What is reached from places that are still to be visited, counted word by word.
use Rattle.std.specs.Prelude.{◌≡◌, ℕ, ◌+◌, ◌*◌, ◌≤◌, List, [], ◌∷◌, length, ⊤}
use Rattle.capnp_format.specs.Word.{kind, data_words, pointer_count, element_size, list_count}
use Rattle.capnp_format.specs.Word.{capability_word}
use Rattle.capnp_format.specs.Numbers.{words_for, unpacked, packed}
use Rattle.capnp_format.specs.Segments.{Segments, word_at, words_at, HasWords, Target}
use Rattle.capnp_format.specs.Tree.{Tree, Null, Capability, Struct, Flat, Pointers, Structs, Trees}
use Rattle.capnp_format.specs.Tree.{no_trees, tree, count, Elements, no_elements, element}
use Rattle.capnp_format.specs.Tree.{element_count}
use Rattle.capnp_format.specs.Means.{Means, Claims, IsTag}
use Rattle.capnp_format.specs.Forest.{times, cover, object_cover, IsTidy}
use Rattle.capnp_arena_traits.specs.declared.arena.WordPlace.{WordPlace}

-- How often each word of a message is held.
abbrev pub Counting : Type 0
Counting = ℕ → ℕ → ℕ

abbrev pub plus : Counting → Counting → Counting
plus M N u q = M u q + N u q

-- The word at (s, p) means t, and everything below it is tidy.
pub record MeansTidily (S : Segments) (s p : ℕ) (t : Tree) : Type 0 where
  pub means : (n : ℕ) × (c : ℕ) × Means S n s p t c
  pub tidy : IsTidy S s p t

-- F is M plus what is reached from these places, for some values that they mean.
abbrev pub Counts : Segments → Counting → List WordPlace → Counting → Type 0
Counts S M [] F = (u q : ℕ) → F u q ≡ M u q
Counts S M (j ∷ J) F = (t : Tree) × MeansTidily S j.segment j.at t ×
    Counts S (plus M (times (cover S j.segment j.at t))) J F

-- Consecutive pointers mean values, and everything below them is tidy; the same for the pointers of
-- elements.
abbrev pub AreRead : Segments → ℕ → ℕ → Trees → Type 0
AreRead S s p no_trees = ⊤
AreRead S s p (tree t ts) = MeansTidily S s p t × AreRead S s (p + 1) ts

abbrev pub AreElementsRead : Segments → ℕ → ℕ → ℕ → ℕ → Elements → Type 0
AreElementsRead S s p d q no_elements = ⊤
AreElementsRead S s p d q (element ws ts es) =
    (length ws ≡ d) × (count ts ≡ q) × HasWords S s p ws × AreRead S s (p + d) ts ×
    AreElementsRead S s (p + d + q) d q es

-- The target a leads to an object with the value t, and everything is tidy.
abbrev pub IsTidyObject : Segments → Target → Tree → Type 0
IsTidyObject S a Null = ⊥
IsTidyObject S a (Capability i) = a.word ≡ capability_word i
IsTidyObject S a (Struct ws ts) =
    (kind a.word ≡ 0) × (data_words a.word ≡ length ws) × (pointer_count a.word ≡ count ts) ×
    Claims S a (length ws + count ts) × HasWords S a.segment a.start ws
    × AreRead S a.segment (a.start + length ws) ts
IsTidyObject S a (Flat size ns) =
    (size ≤ 5) × (kind a.word ≡ 1) × (element_size a.word ≡ size) ×
    (list_count a.word ≡ length ns) × Claims S a (words_for size (length ns))
    × (ns ≡ unpacked size (length ns) (words_at S a.segment a.start (words_for size (length ns)))) ×
    (words_at S a.segment a.start (words_for size (length ns)) ≡ packed size ns)
IsTidyObject S a (Pointers ts) =
    (kind a.word ≡ 1) × (element_size a.word ≡ 6) × (list_count a.word ≡ count ts) ×
    Claims S a (count ts) × AreRead S a.segment a.start ts
IsTidyObject S a (Structs d q es) =
    (kind a.word ≡ 1) × (element_size a.word ≡ 7) ×
    (list_count a.word ≡ element_count es * (d + q)) × Claims S a (1 + element_count es * (d + q))
    × IsTag (word_at S a.segment a.start) (element_count es) d q ×
    AreElementsRead S a.segment (a.start + 1) d q es

-- F is M plus what is reached from an object at the target a, and from these places.
abbrev pub ObjectCounts : Segments → Target → Counting → List WordPlace → Counting → Type 0
ObjectCounts S a M J F =
    (t : Tree) × IsTidyObject S a t × Counts S (plus M (times (object_cover S a t))) J F

-- No word is held more than once.
abbrev pub IsOnce : Counting → Type 0
IsOnce F = (u q : ℕ) → F u q ≤ 1
