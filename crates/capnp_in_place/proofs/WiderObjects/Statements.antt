-- What lemmas require of calls and of moved pointers, with names: parts of what contracts state.
use Rattle.std.specs.List.{AllByRecursion}
use Rattle.std.proofs.Common.{List, Ok, Option, [], length, map, true, ℕ, ◌%◌, ◌*◌, ◌+◌, ◌<◌, ◌^◌, ◌∷◌, ◌≡◌, ◌≢◌, ◌≤◌, ◌⊎◌}
use Rattle.capnp_format.specs.Word.{kind, upper_half}
use Rattle.capnp_format.specs.Segments.{Grows, Segments, Target, segment, word_at}
use Rattle.capnp_format.specs.Tree.{Null, Tree}
use Rattle.capnp_format.specs.Means.{Leads}
use Rattle.capnp_format.specs.Forest.{Interval, pads_of, times}
use Rattle.capnp_words.specs.declared.wire_pointer.StructSize.{StructSize}
use Rattle.capnp_arena_traits.specs.View.{view_of}
use Rattle.capnp_allocation.specs.Made.{IsShape}
use Rattle.capnp_allocation.specs.Makes.{CallAt, call_at}
use Rattle.capnp_allocation.specs.Memory.{TakesWords}
use Rattle.capnp_format.specs.Path.{word_interval}
use Rattle.capnp_allocation.specs.Stored.{IsReplaced, IsStored}
use Rattle.capnp_allocation.specs.Zeroed.{row}
use Rattle.capnp_allocation.specs.declared.making.Shape.{Shape}
use Rattle.capnp_arena_traits.specs.declared.arena.WordPlace.{WordPlace}
use Rattle.capnp_in_place.specs.declared.existing.ExistingList.{ExistingList}
use Rattle.capnp_in_place.specs.declared.widening.Allocation.{Allocation}
use Rattle.capnp_in_place.specs.Anew.{BecomesAnew, IsWrittenAnew, pad_words}
use Rattle.capnp_in_place.specs.Housed.{Settles}
use Rattle.capnp_in_place.specs.Moved.{HasValueInside, IsMoved, Move, row_of_moves, rows_of_moves}
use Rattle.capnp_in_place.specs.Opening.{LeadsToAll}
use Rattle.capnp_in_place.specs.Pointed.{PointsTo}
use Rattle.capnp_in_place.specs.RowsRemade.{AreRowsCopied}
use Rattle.capnp_in_place.specs.Widened.{HasSections, list_widened}

-- A call in which only the words matter.
abbrev pub rewriting : ℕ → ℕ → Segments → Segments → CallAt
rewriting s p S R = call_at s p (view_of S (λ v. 0) 0 (λ n m. true)) (view_of R (λ v. 0) 0 (λ n m. true))

-- A list is widened.

abbrev pub WidensListAnew : (Tree → Type 0) → StructSize → CallAt → Type 0
WidensListAnew Stands size c = (t u : Tree) → Stands t → t ≢ Null → list_widened size.data_words size.pointers t ≡ Ok u → (HasSections size t → ⊥) → BecomesAnew c t u

abbrev pub WidensList : StructSize → CallAt → Type 0
WidensList size c = (t : Tree) → IsStored c.old.words c.segment c.at t → (u : Tree) × (list_widened size.data_words size.pointers t ≡ Ok u) × IsReplaced c.old.words c.new.words c.segment c.at t u

abbrev pub LeadsToWiderList : StructSize → CallAt → Option ExistingList → Type 0
LeadsToWiderList size c l = (t u : Tree) → IsStored c.old.words c.segment c.at t → list_widened size.data_words size.pointers t ≡ Ok u → LeadsToAll c.new.words c.segment c.at u l

abbrev pub ListLiesIn : Segments → ExistingList → Type 0
ListLiesIn S l = l.start + l.count * (l.struct_size.data_words + l.struct_size.pointers) ≤ length (segment S l.segment)

-- A pointer is overwritten, which leads to b behind pads from (v, at) on.
pub record IsSettled (S R : Segments) (u q : ℕ) (b : Target) (v at pads : ℕ) : Type 0 where
  pub segments : length R ≡ length S
  pub words : (x : ℕ) → length (segment R x) ≡ length (segment S x)
  pub leads_there : Leads R u q b
  pub pads_there : (x y : ℕ) → times (pads_of (word_at R u q)) x y ≡ times (row v at pads ∷ []) x y
  pub kept : (x y : ℕ) → times (word_interval u q ∷ []) x y ≡ 0 → times (row v at pads ∷ []) x y ≡ 0 → word_at R x y ≡ word_at S x y

pub is_settled : {S R : Segments} {place : WordPlace} {h : Allocation} {shape : Shape} → (s : Settles S R place h shape) → IsSettled S R place.segment place.at s.object h.segment h.at h.pads
is_settled s = record { segments = s.segments; words = s.words; leads_there = s.leads_there; pads_there = s.pads_there; kept = s.kept }

pub settles : (S R : Segments) (place : WordPlace) (h : Allocation) (shape : Shape) (b : Target) → IsSettled S R place.segment place.at b h.segment h.at h.pads → IsShape shape b.word → b.segment ≡ h.segment → b.start ≡ h.at + h.pads → Settles S R place h shape
settles S R place h shape b s shaped there start = record {
  object = b;
  segments = s.segments;
  words = s.words;
  leads_there = s.leads_there;
  pads_there = s.pads_there;
  kept = s.kept;
  is_shape = shaped;
  in_segment = there;
  starts = start;
}

-- A pointer is written, which leads to a.
pub record IsPointed (S R : Segments) (s p : ℕ) (a : Target) : Type 0 where
  pub grows : Grows S R
  pub leads_there : Leads R s p a
  pub inside : a.start ≤ length (segment R a.segment)
  pub kept : (x y : ℕ) → times (word_interval s p ∷ []) x y ≡ 0 → y < length (segment S x) → word_at R x y ≡ word_at S x y
  pub fresh : (x y : ℕ) → 0 < times (pads_of (word_at R s p)) x y → (length (segment S x) ≤ y) × (y < length (segment R x))
  pub zero : (x y : ℕ) → times (pads_of (word_at R s p)) x y ≡ 0 → length (segment S x) ≤ y → word_at R x y ≡ 0

pub is_pointed : {S R : Segments} {shape : Shape} {h at : WordPlace} → (p : PointsTo S R shape h at) → IsPointed S R at.segment at.at p.object
is_pointed p = record { grows = p.grows; leads_there = p.leads_there; inside = p.inside; kept = p.kept; fresh = p.fresh; zero = p.zero }

pub points_to : (S R : Segments) (shape : Shape) (h at : WordPlace) (a : Target) → IsPointed S R at.segment at.at a → IsShape shape a.word → ((a.segment ≡ h.segment) × (a.start ≡ h.at)) ⊎ ((kind a.word ≡ 0) × (upper_half a.word ≡ 0)) →
    PointsTo S R shape h at
points_to S R shape h at a p shaped start = record {
  object = a;
  grows = p.grows;
  leads_there = p.leads_there;
  inside = p.inside;
  kept = p.kept;
  fresh = p.fresh;
  zero = p.zero;
  is_shape = shaped;
  starts = start;
}

-- The pointer x, whose object is in segment s, is rewritten.
pub record WritesPointer (s x : ℕ) (c : CallAt) : Type 0 where
  pub form : IsWrittenAnew s c.segment x (word_at c.new.words c.segment c.at)
  pub taken : TakesWords c.old c.new s (pad_words s c.segment x)

-- Moved pointers.

abbrev pub SameStart : Segments → Target → Target → Type 0
SameStart S a b =
    ((b.segment ≡ a.segment) × (b.start ≡ a.start)) ⊎ (((kind a.word ≡ 0) × (upper_half a.word ≡ 0) × (b.start ≤ length (segment S b.segment))) ⊎ (a.word % 2 ^ 32 ≡ 3))

pub record Extends (B R : Segments) : Type 0 where
  pub grows : Grows B R
  pub kept : (x y : ℕ) → y < length (segment B x) → word_at R x y ≡ word_at B x y

abbrev pub old_places : List Move → List Interval
old_places ms = map (λ (m : Move). word_interval m.from.segment m.from.at) ms

abbrev pub HaveValuesInside : Segments → List Move → Type 0
HaveValuesInside B ms = AllByRecursion (λ (m : Move). HasValueInside B m.from.segment m.from.at) ms

abbrev pub AllMoved : Segments → List Move → Type 0
AllMoved R ms = AllByRecursion (λ (m : Move). IsMoved R m.from.segment m.from.at m.to.segment m.to.at) ms

-- Moved pointers, by the numbers of their places.

abbrev pub a_move : ℕ → ℕ → ℕ → ℕ → Move
a_move s p v r = record { from = record { segment = s; at = p }; to = record { segment = v; at = r } }

abbrev pub row_moves : ℕ → ℕ → ℕ → ℕ → ℕ → List Move
row_moves s p v r k = row_of_moves (record { segment = s; at = p }) (record { segment = v; at = r }) k

abbrev pub rows_moves : ℕ → ℕ → ℕ → ℕ → ℕ → ℕ → ℕ → ℕ → List Move
rows_moves s p w v r z k n = rows_of_moves (record { segment = s; at = p; step = w }) (record { segment = v; at = r; step = z }) k n

abbrev pub CopiedRows : Segments → Segments → ℕ → ℕ → ℕ → ℕ → ℕ → ℕ → ℕ → ℕ → Type 0
CopiedRows S R s p w v r z d n = AreRowsCopied S R (record { from = record { segment = s; at = p; step = w }; to = record { segment = v; at = r; step = z }; words = d; count = n })
