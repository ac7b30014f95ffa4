-- The room of an arena's rows, and the bounds on it by which the first row with enough room is
-- found.
use Rattle.std.specs.Prelude.{ℕ, List, false, ◌≡◌, ◌≤◌, ◌<◌, ◌+◌, ◌-◌, ◌*◌, ◌^◌, length, map}
use Rattle.std.specs.Prelude.{slice_index_or, Option, IfSome, IsNone}
use Rattle.capnp_format.specs.Bytes.{message}
use Rattle.capnp_arena_traits.specs.Taking.{IsFirstFit, IsFull}
use Rattle.capnp_arena_traits.specs.View.{View, view_of}
use Rattle.capnp_arena.specs.Row.{capacity, capacity_at, shown}
use Rattle.capnp_arena.specs.declared.arena.row.Row.{Row}
use Rattle.capnp_arena.specs.declared.arena.allocator.Segment.{Ghosts}

-- The `width` rows from `from` on are a range: `width` is a power of two, and `from` a multiple of
-- twice that. Each row is the last of one range.
abbrev pub IsRange : ℕ → ℕ → Type 0
IsRange from width = ((e : ℕ) × (width ≡ 2 ^ e)) × ((a : ℕ) × (from ≡ a * (2 * width)))

-- No row of the range that ends with row `at` has more room than `bound`.
abbrev pub IsBoundAt : List ℕ → ℕ → ℕ → Type 0
IsBoundAt rooms at bound = (from width k : ℕ) → IsRange from width → from + width ≡ at + 1 →
    from ≤ k → k ≤ at → slice_index_or rooms k 0 ≤ bound

-- The rows from `from` to before `end` have room for fewer than `amount` words each.
abbrev pub HaveNoRoom : List ℕ → ℕ → ℕ → ℕ → Type 0
HaveNoRoom rooms from end amount = (k : ℕ) → from ≤ k → k < end → slice_index_or rooms k 0 < amount

-- No row of a range has more room than the bound that the range's last row holds.
pub record IsBounded (rooms bounds : List ℕ) : Type 0 where
  pub within : (from width k : ℕ) → IsRange from width → from ≤ k → k < from + width →
      from + width ≤ length rooms → slice_index_or rooms k 0
      ≤ slice_index_or bounds (from + width - 1) 0

module _ {S : Type 0} (g : Ghosts S) where
  -- How many more words a row can hold.
  abbrev pub room : Row S g → ℕ
  room r = capacity g r - r.used

  abbrev pub rooms : List (Row S g) → List ℕ
  rooms rows = map room rows

  abbrev pub bounds : List (Row S g) → List ℕ
  bounds rows = map (λ (r : Row S g). r.bound) rows

  abbrev pub HasBounds : List (Row S g) → Type 0
  HasBounds rows = IsBounded (rooms rows) (bounds rows)

  -- What rows by themselves hold and can still grant.
  abbrev pub view_of_rows : List (Row S g) → View
  view_of_rows rows = view_of (message (shown g rows)) (capacity_at g rows) 0 (λ _ _. false)

  -- From old to new the first row with room for `amount` more words is found, if there is one. The
  -- rows stay unchanged, except for their bounds.
  pub record FindsFit (old new : List (Row S g)) (amount : ℕ) (found : Option ℕ) : Type 0 where
    pub fit : IfSome found (λ k. IsFirstFit (view_of_rows old) amount k)
    pub full : IsNone found → IsFull (view_of_rows old) amount
    pub segments : shown g new ≡ shown g old
    pub capacity : capacity_at g new ≡ capacity_at g old
