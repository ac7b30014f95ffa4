-- Zeroed words, and the value that a pointer leads to.
use Rattle.std.specs.Prelude.{◌≡◌, ◌⊎◌, ℕ, ◌+◌, ◌*◌, ◌<◌, ◌≤◌, List, [], ◌∷◌, ◌++◌, length}
use Rattle.capnp_format.specs.Word.{kind, data_words, pointer_count, element_size, list_count}
use Rattle.capnp_format.specs.Word.{upper_half, far_position, is_double}
use Rattle.capnp_format.specs.Numbers.{words_for}
use Rattle.capnp_format.specs.Segments.{Segments, segment, word_at, Target}
use Rattle.capnp_format.specs.Tree.{Tree, Null, Capability, Struct, Flat, Pointers, Structs, Trees}
use Rattle.capnp_format.specs.Tree.{Elements, no_elements, element, count, element_count}
use Rattle.capnp_format.specs.Means.{Means, MeansAll, MeansElements, Claims, IsTag}
pub use Rattle.capnp_format.specs.Forest.{row, PadsInside, object_cover}
use Rattle.capnp_format.specs.Forest.{Interval, times, pads_of, cover_all, cover_elements}
use Rattle.capnp_words.specs.declared.wire_pointer.StructSize.{StructSize}
use Rattle.capnp_arena_traits.specs.View.{View, KeepsLimits}
use Rattle.capnp_format.specs.Path.{word_interval, extent}
use Rattle.capnp_words.specs.Sizes.{sized}

-- From S to R the words in these intervals are zeroed; all others stay.
pub record IsZeroed (S R : Segments) (is : List Interval) : Type 0 where
  pub segments : length R ≡ length S
  pub words : (v : ℕ) → length (segment R v) ≡ length (segment S v)
  pub zero : (v r : ℕ) → 0 < times is v r → word_at R v r ≡ 0
  pub kept : (v r : ℕ) → times is v r ≡ 0 → word_at R v r ≡ word_at S v r

-- R has as many words as S, and each is unchanged or zeroed.
pub record IsPruned (S R : Segments) : Type 0 where
  pub segments : length R ≡ length S
  pub words : (v : ℕ) → length (segment R v) ≡ length (segment S v)
  pub only : (v r : ℕ) → (word_at R v r ≡ word_at S v r) ⊎ (word_at R v r ≡ 0)

-- R has as many words as S. It has x at (s, p), and each other word is unchanged or zeroed.
pub record IsPrunedBut (S R : Segments) (s p x : ℕ) : Type 0 where
  pub segments : length R ≡ length S
  pub words : (v : ℕ) → length (segment R v) ≡ length (segment S v)
  pub here : word_at R s p ≡ x
  pub only : (v r : ℕ) → times (word_interval s p ∷ []) v r ≡ 0 → (word_at R v r ≡ word_at S v r) ⊎
      (word_at R v r ≡ 0)

-- The word at (s, p) means t, which holds no word twice.
pub record IsApart (S : Segments) (s p : ℕ) (t : Tree) : Type 0 where
  pub means : (n : ℕ) × (c : ℕ) × Means S n s p t c
  pub apart : (v r : ℕ) → times (extent S s p t) v r ≤ 1

-- Consecutive pointers from (s, p) on mean values whose words are all held once.
pub record AreApart (S : Segments) (s p : ℕ) (ts : Trees) : Type 0 where
  pub mean : (n : ℕ) × (c : ℕ) × MeansAll S n s p ts c
  pub apart : (v r : ℕ) → times (row s p (count ts) ∷ cover_all S s p ts) v r ≤ 1

-- The pointers of consecutive elements from (s, p) on mean values whose words are all held once.
pub record AreApartElements (S : Segments) (s p : ℕ) (size : StructSize) (es : Elements) : Type 0 where
  pub mean : (n : ℕ) × (c : ℕ) × MeansElements S n s p size.data_words size.pointers es c
  pub apart :
      (v r : ℕ) →
      times
      (row s p (element_count es * (size.data_words + size.pointers)) ∷
      cover_elements S s p size.data_words size.pointers es) v r
      ≤ 1

-- The target a leads to an object with the value t, whose children are read within n levels.
abbrev pub IsObjectAt : Segments → ℕ → Target → Tree → Type 0
IsObjectAt S n a Null = ⊥
IsObjectAt S n a (Capability i) = kind a.word ≡ 3
IsObjectAt S n a (Struct ws ts) =
    (k : ℕ) × (kind a.word ≡ 0) × (data_words a.word ≡ length ws) ×
    (pointer_count a.word ≡ count ts) × Claims S a (length ws + count ts)
    × MeansAll S n a.segment (a.start + length ws) ts k
IsObjectAt S n a (Flat size ns) =
    (kind a.word ≡ 1) × (size ≤ 5) × (element_size a.word ≡ size) ×
    (list_count a.word ≡ length ns) × Claims S a (words_for size (length ns))
IsObjectAt S n a (Pointers ts) =
    (k : ℕ) × (kind a.word ≡ 1) × (element_size a.word ≡ 6) × (list_count a.word ≡ count ts) ×
    Claims S a (count ts) × MeansAll S n a.segment a.start ts k
IsObjectAt S n a (Structs d q es) =
    (k : ℕ) × (kind a.word ≡ 1) × (element_size a.word ≡ 7) ×
    IsTag (word_at S a.segment a.start) (element_count es) d q
    × Claims S a (1 + element_count es * (d + q)) × MeansElements S n a.segment (a.start + 1) d q es k

-- The target a leads to an object with the value t, which holds no word twice.
pub record IsObjectApart (S : Segments) (a : Target) (t : Tree) : Type 0 where
  pub stands : (n : ℕ) × IsObjectAt S n a t
  pub apart : (v r : ℕ) → times (object_cover S a t) v r ≤ 1

-- The pointers of consecutive elements, with all that is reached from them.
abbrev pub element_extents : Segments → ℕ → ℕ → StructSize → Elements → List Interval
element_extents S s p size no_elements = []
element_extents S s p size (element ws ts es) =
    (row s (p + size.data_words) size.pointers ∷ cover_all S s (p + size.data_words) ts) ++
    element_extents S s (p + size.data_words + size.pointers) size es

-- S has a list of structs from (s, p) on: its tag, and elements that hold no word twice.
abbrev pub IsStructListApart : Segments → ℕ → ℕ → Tree → Type 0
IsStructListApart S s p (Structs d q es) =
    IsTag (word_at S s p) (element_count es) d q
    × (p + (1 + element_count es * (d + q)) ≤ length (segment S s))
    × AreApartElements S s (p + 1) (sized d q) es
IsStructListApart S s p t = ⊥

-- The words of a list of structs from (s, p) on, with all that is reached from it.
abbrev pub struct_list_cover : Segments → ℕ → ℕ → Tree → List Interval
struct_list_cover S s p (Structs d q es) =
    row s p (1 + element_count es * (d + q)) ∷ cover_elements S s (p + 1) d q es
struct_list_cover S s p t = []

-- A call zeroes words, and changes nothing else. If `Holds x`, they are exactly the words of the
-- intervals `held x`.
pub record Zeroes {B : Type 0} (old new : View) (Holds : B → Type 0) (held : B → List Interval)
    : Type 0 where
  pub zeroed : (x : B) → Holds x → IsZeroed old.words new.words (held x)
  pub pruned : IsPruned old.words new.words
  pub limits : KeepsLimits old new

-- A call zeroes the landing pads of the pointer word x, if that is a far pointer and they are
-- inside their segment; otherwise it changes nothing.
pub record ZeroesPads (old new : View) (x : ℕ) : Type 0 where
  pub zeroed : PadsInside old.words x → IsZeroed old.words new.words (pads_of x)
  pub beyond : length (segment old.words (upper_half x)) < far_position x + (1 + is_double x) → new ≡ old
  pub pruned : IsPruned old.words new.words
  pub limits : KeepsLimits old new
