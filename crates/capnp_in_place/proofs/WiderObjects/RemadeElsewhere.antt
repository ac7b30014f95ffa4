-- What is there once an object is remade in other words, and the landing pads of rows of pointers.
use Rattle.std.specs.Prelude.{cond, flat_map, nat_eq, ◌≡◌, ◌≢◌, ℕ, zero, suc, ◌+◌, ◌<◌, ◌≤◌, ◌⊎◌, List, [], ◌∷◌, ◌++◌, length}
use Rattle.capnp_format.specs.Segments.{Segments, segment, word_at, Target}
use Rattle.capnp_format.specs.Tree.{Tree, Struct}
use Rattle.capnp_format.specs.Forest.{Interval, times, pads_of, object_of}
use Rattle.capnp_format.specs.Word.{kind}
use Rattle.capnp_format.specs.Path.{word_interval}
use Rattle.capnp_in_place.specs.Moved.{Move}

-- The data words of a struct.
abbrev pub struct_data_words : Tree → List ℕ
struct_data_words (Struct ws ts) = ws
struct_data_words t = []

-- The landing pads of n consecutive pointers from a place on; and those of n rows of k pointers,
-- which start every w words.
abbrev pub pads_from : Segments → ℕ → ℕ → ℕ → List Interval
pads_from S s p zero = []
pads_from S s p (suc n) = pads_of (word_at S s p) ++ pads_from S s (p + 1) n

abbrev pub pads_in_rows : Segments → ℕ → ℕ → ℕ → ℕ → ℕ → List Interval
pads_in_rows S s p w k zero = []
pads_in_rows S s p w k (suc n) = pads_from S s p k ++ pads_in_rows S s (p + w) w k n

-- An object of `size` words, to which the pointer at (u, q) leads in S, is remade in `wide` words.
-- From S to M the new object b and its pads are written into new words. From M to Q the pointer is
-- overwritten, last of all, and the old object and its pads are zeroed. Its pointers had the pads
-- `before`, and have the pads `after`; `fresh` are the new words that are used.
pub record IsRehoused (S M Q : Segments) (u q : ℕ) (a : Target) (size : ℕ) (b : Target) (wide : ℕ) (before after fresh : List Interval) : Type 0 where
  pub more_segments : length S ≤ length M
  pub more_words : (x : ℕ) → length (segment S x) ≤ length (segment M x)
  pub same_segments : length Q ≡ length M
  pub same_words : (x : ℕ) → length (segment Q x) ≡ length (segment M x)
  pub extends : (x y : ℕ) → y < length (segment S x) → word_at M x y ≡ word_at S x y
  pub zero_new : (x y : ℕ) → length (segment S x) ≤ y → times fresh x y ≡ 0 → word_at M x y ≡ 0
  pub fresh_once : (x y : ℕ) → times fresh x y ≤ 1
  pub fresh_new : (x y : ℕ) → 0 < times fresh x y → (length (segment S x) ≤ y) × (y < length (segment M x))
  pub all_fresh : (x y : ℕ) → times (pads_of (word_at Q u q)) x y + times (object_of b wide ∷ []) x y + times after x y ≡ times fresh x y + times before x y
  pub object_new : (y : ℕ) → b.start ≤ y → y < b.start + wide → length (segment S b.segment) ≤ y
  pub claim : b.start + wide ≤ length (segment M b.segment)
  pub only_old : (x y : ℕ) → times (word_interval u q ∷ pads_of (word_at S u q) ++ object_of a size ∷ []) x y ≡ 0 → word_at Q x y ≡ word_at M x y
  pub zero_old : (x y : ℕ) → (x ≢ u) ⊎ (y ≢ q) → 0 < times (pads_of (word_at S u q) ++ object_of a size ∷ []) x y → word_at Q x y ≡ 0

-- The landing pads of moved pointers at their old places, and at the new ones; and the own landing
-- pads of one pointer.
abbrev pub old_pads : Segments → List Move → List Interval
old_pads R ms = flat_map (λ (m : Move). pads_of (word_at R m.from.segment m.from.at)) ms

abbrev pub new_pads : Segments → List Move → List Interval
new_pads R ms = flat_map (λ (m : Move). pads_of (word_at R m.to.segment m.to.at)) ms

abbrev pub own_pads : Segments → Move → List Interval
own_pads R m = cond (nat_eq (kind (word_at R m.from.segment m.from.at)) 2) [] (pads_of (word_at R m.to.segment m.to.at))
