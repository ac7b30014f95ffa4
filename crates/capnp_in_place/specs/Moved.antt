-- Pointers rewritten at other places, to what the old ones lead to ("Inter-Segment Pointers").
use Rattle.std.specs.List.{AllByRecursion}
use Rattle.std.specs.Prelude.{flat_map, map, ◌≡◌, ℕ, zero, suc, ◌+◌, ◌*◌, ◌%◌, ◌^◌, ◌<◌, ◌≤◌, ◌⊎◌}
use Rattle.std.specs.Prelude.{if◌then◌else◌, nat_eq, nat_lt, List, [], ◌∷◌, ◌++◌, length}
use Rattle.capnp_format.specs.Word.{kind, upper_half}
use Rattle.capnp_format.specs.Segments.{Segments, Grows, segment, word_at, Target}
use Rattle.capnp_format.specs.Tree.{Tree, Struct, Pointers, Structs, count, element_count}
use Rattle.capnp_format.specs.Means.{Leads, Means}
use Rattle.capnp_format.specs.Forest.{Interval, times, pads_of}
use Rattle.capnp_format.specs.Path.{word_interval, extent}
use Rattle.capnp_allocation.specs.Zeroed.{IsZeroed}
use Rattle.capnp_arena_traits.specs.declared.arena.WordPlace.{WordPlace}
use Rattle.capnp_in_place.specs.declared.moving.PointerRows.{PointerRows}

-- Two targets are the same object. It starts at the same place, or it has no words, being an empty
-- struct or a capability.
pub record SameObject (S : Segments) (a b : Target) : Type 0 where
  pub same_kind : kind b.word ≡ kind a.word
  pub same_sizes : upper_half b.word ≡ upper_half a.word
  pub capability : a.word % 2 ^ 32 ≡ 3 → b.word % 2 ^ 32 ≡ 3
  pub same_start : ((b.segment ≡ a.segment) × (b.start ≡ a.start))
      ⊎ (((kind a.word ≡ 0) × (upper_half a.word ≡ 0) × (b.start ≤ length (segment S b.segment)))
      ⊎ (a.word % 2 ^ 32 ≡ 3))

-- The word at (v, r) leads to what the word at (s, p) leads to, or both are null.
abbrev pub IsMoved : Segments → ℕ → ℕ → ℕ → ℕ → Type 0
IsMoved S s p v r = ((word_at S s p ≡ 0) × (word_at S v r ≡ 0)) ⊎
    ((a : Target) × (b : Target) × Leads S s p a × Leads S v r b × SameObject S a b)

-- A pointer that is rewritten at another place.
pub record Move : Type 0 where
  pub from : WordPlace
  pub to : WordPlace

-- k consecutive pointers, rewritten at consecutive places.
abbrev pub row_of_moves : WordPlace → WordPlace → ℕ → List Move
row_of_moves from to zero = []
row_of_moves from to (suc k) =
    record { from = from; to = to }
    ∷ row_of_moves (record from { at = from.at + 1 }) (record to { at = to.at + 1 }) k

-- n words from each of two places are inside their segments.
pub record AreBothInside (S : Segments) (a b : WordPlace) (n : ℕ) : Type 0 where
  pub from : a.at + n ≤ length (segment S a.segment)
  pub to : b.at + n ≤ length (segment S b.segment)

-- n rows of k pointers are inside their segment, and so are n other rows.
pub record AreRowsInside (S : Segments) (a b : PointerRows) (k n : ℕ) : Type 0 where
  pub from : a.at + n * a.step + k ≤ length (segment S a.segment) + a.step
  pub to : b.at + n * b.step + k ≤ length (segment S b.segment) + b.step
  pub small : (a.step < 2 ^ 18) × (b.step < 2 ^ 18)

-- n rows of k pointers, rewritten in other rows.
abbrev pub rows_of_moves : PointerRows → PointerRows → ℕ → ℕ → List Move
rows_of_moves from to k zero = []
rows_of_moves from to k (suc n) =
    row_of_moves (record { segment = from.segment; at = from.at })
    (record { segment = to.segment; at = to.at }) k
    ++ rows_of_moves (record from { at = from.at + from.step }) (record to { at = to.at + to.step }) k n

-- The moves of the pointers of the object t at a into the object u at b that it becomes.
abbrev pub moves_into : WordPlace → WordPlace → Tree → Tree → List Move
moves_into a b (Struct ws ts) (Struct vs us) =
    row_of_moves (record a { at = a.at + length ws }) (record b { at = b.at + length vs }) (count ts)
moves_into a b (Pointers ts) (Structs d q es) =
    rows_of_moves (record { segment = a.segment; at = a.at; step = 1 })
    (record { segment = b.segment; at = b.at + 1 + d; step = d + q }) 1 (count ts)
moves_into a b (Structs e k es) (Structs d q fs) =
    rows_of_moves (record { segment = a.segment; at = a.at + 1 + e; step = e + k })
    (record { segment = b.segment; at = b.at + 1 + d; step = d + q }) k (element_count es)
moves_into a b t u = []

-- The number of the old pointers that are near and not null: in another segment each of these needs
-- a landing pad.
abbrev pub near_pointers : Segments → List Move → ℕ
near_pointers S [] = 0
near_pointers S (m ∷ ms) =
    (if nat_eq (word_at S m.from.segment m.from.at) 0 then 0
    else if nat_lt (kind (word_at S m.from.segment m.from.at)) 2 then 1 else 0) + near_pointers S ms

-- The new places.
abbrev pub new_places : List Move → List Interval
new_places [] = []
new_places (m ∷ ms) = word_interval m.to.segment m.to.at ∷ new_places ms

-- The landing pads that were written for the new pointers. A far pointer is copied unchanged, and
-- has none of its own.
abbrev pub fresh_pads : Segments → List Move → List Interval
fresh_pads R ms =
    flat_map (λ m. if nat_eq (kind (word_at R m.from.segment m.from.at)) 2 then []
    else pads_of (word_at R m.to.segment m.to.at)) ms

-- The pointer at (s, p) means a value whose words are inside their segments.
abbrev pub HasValueInside : Segments → ℕ → ℕ → Type 0
HasValueInside B s p = (t : Tree) × (n : ℕ) × (c : ℕ) × Means B n s p t c ×
    ((x y : ℕ) → 0 < times (extent B s p t) x y → y < length (segment B x))

-- S has the words of B, in which the old pointers mean values. After these words it has the new
-- places, each once, all zero.
pub record CanMove (B S : Segments) (ms : List Move) : Type 0 where
  pub grows : Grows B S
  pub kept : (x y : ℕ) → y < length (segment B x) → word_at S x y ≡ word_at B x y
  pub stand : AllByRecursion (λ (m : Move). HasValueInside B m.from.segment m.from.at) ms
  pub behind : (x y : ℕ) → 0 < times (new_places ms) x y → (length (segment B x) ≤ y) ×
      (y < length (segment S x)) × (word_at S x y ≡ 0)
  pub once : (x y : ℕ) → times (new_places ms) x y ≤ 1

-- From S to R the new pointers are written, each to what the old one leads to, and their own
-- landing pads into new words, each once. Nothing else is written. The pads of the new pointers are
-- these and those of the old ones.
pub record AreMoved (S R : Segments) (ms : List Move) : Type 0 where
  pub grows : Grows S R
  pub moved : AllByRecursion (λ (m : Move). IsMoved R m.from.segment m.from.at m.to.segment m.to.at) ms
  pub kept : (x y : ℕ) → times (new_places ms) x y ≡ 0 → y < length (segment S x) →
      word_at R x y ≡ word_at S x y
  pub sums :
      (x y : ℕ) → times (flat_map (λ (m : Move). pads_of (word_at R m.to.segment m.to.at)) ms) x y
      ≡ times (fresh_pads R ms) x y + times
      (flat_map (λ (m : Move). pads_of (word_at R m.from.segment m.from.at)) ms) x y
  pub fresh : (x y : ℕ) → 0 < times (fresh_pads R ms) x y → (length (segment S x) ≤ y) ×
      (y < length (segment R x))
  pub once : (x y : ℕ) → times (fresh_pads R ms) x y ≤ 1
  pub zero : (x y : ℕ) → times (fresh_pads R ms) x y ≡ 0 → length (segment S x) ≤ y → word_at R x y ≡ 0

-- From S to R these pointers are moved, if they mean values.
abbrev pub Moves : Segments → Segments → List Move → Type 0
Moves S R ms = (B : Segments) → CanMove B S ms → AreMoved S R ms

-- From S to R some of the first pointers are moved.
pub record MovesSome (S R : Segments) (ms : List Move) : Type 0 where
  pub done : List Move
  pub left : List Move
  pub all : ms ≡ done ++ left
  pub moves : Moves S R done

-- From S to R the pads that were written for these pointers are zeroed, if they are inside S and
-- none of these pointers, old or new, is in them.
abbrev pub Unmoves : Segments → Segments → List Move → Type 0
Unmoves S R ms =
    ((x y : ℕ) → 0 < times (fresh_pads S ms) x y → y < length (segment S x))
    → ((x y : ℕ) → 0 < times (map (λ (m : Move). word_interval m.from.segment m.from.at) ms) x y →
    times (fresh_pads S ms) x y ≡ 0)
    → ((x y : ℕ) → 0 < times (new_places ms) x y → times (fresh_pads S ms) x y ≡ 0)
    → IsZeroed S R (fresh_pads S ms)
