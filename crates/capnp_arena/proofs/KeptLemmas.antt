-- The rows that an arena keeps, if it is known in which way.
use Rattle.std.proofs.Common.{◌≡◌, ℕ, Bool, true, false, Option, Some, None, IfSome, List, [], ◌≤◌, length, replicate, refl, sym}
use Rattle.std.proofs.lemmas.Bool.{false≢true}
use Rattle.capnp_format.specs.Bytes.{message}
use Rattle.capnp_format.specs.Segments.{Segments, segment}
use Rattle.capnp_arena_traits.specs.Allocations.{max_segments}
use Rattle.capnp_arena_traits.specs.Taking.{GrowsSegment}
use Rattle.capnp_arena_traits.specs.View.{view_of}
use Rattle.capnp_arena_traits.specs.Written.{extended}
use Rattle.capnp_arena.specs.Kept.{arena_rows}
use Rattle.capnp_arena.specs.Row.{capacity_at, shown}
use Rattle.capnp_arena.specs.Rows.{all}
use Rattle.capnp_arena.specs.declared.arena.row.Row.{Row}
use Rattle.capnp_arena.specs.declared.arena.rows.Rows.{Rows}
use Rattle.capnp_arena.specs.declared.arena.listed.Listed.{Listed}
use Rattle.capnp_arena.specs.declared.arena.allocator.Segment.{Ghosts}
use Rattle.capnp_arena.proofs.ListedLemmas.{listed_few}

module _ {S : Type 0} (g : Ghosts S) where
  pub kept_apart : (f : Bool) (v : Listed S g) (b : Rows S g) → f ≡ true → arena_rows g f v b ≡ all g b
  kept_apart false v b e = cc
  kept_apart true v b e = refl

  pub kept_listed : (f : Bool) (v : Listed S g) (b : Rows S g) → f ≡ false → arena_rows g f v b ≡ v.rows.items
  kept_listed false v b e = refl
  kept_listed true v b e = cc

  pub kept_none : (f : Bool) (v : Listed S g) (b : Rows S g) → v.rows.items ≡ [] → all g b ≡ [] → arena_rows g f v b ≡ []
  kept_none false v b e h = e
  kept_none true v b e h = h

  -- what holds for all rows of the arena, if it keeps them apart or in a list
  pub of_apart : (P : List (Row S g) → Type 0) (f : Bool) (v : Listed S g) (b : Rows S g) → f ≡ true → P (arena_rows g f v b) → P (all g b)
  of_apart P false v b e p = absurd (false≢true e)
  of_apart P true v b e p = p

  pub of_listed : (P : List (Row S g) → Type 0) (f : Bool) (v : Listed S g) (b : Rows S g) → f ≡ false → P (arena_rows g f v b) → P v.rows.items
  of_listed P false v b e p = p
  of_listed P true v b e p = absurd (false≢true (sym e))

  -- an upper limit of the number of rows
  pub kept_few : (f : Bool) (v : Listed S g) (b : Rows S g) → length (arena_rows g f v b) ≤ max_segments
  kept_few false v b = v.few
  kept_few true v b = listed_few g b.there b.first b.others.items b.few

  -- words written in rows of either way are written in the arena's view
  pub written_apart : (W : Segments → Segments) {refusals : ℕ} {offers : ℕ → ℕ → Bool} (f : Bool) (v : Listed S g) (old new : Rows S g) → f ≡ true →
      message (shown g (all g new)) ≡ W (message (shown g (all g old))) → capacity_at g (all g new) ≡ capacity_at g (all g old) →
      view_of (message (shown g (arena_rows g f v new))) (capacity_at g (arena_rows g f v new)) refusals offers
      ≡ view_of (W (message (shown g (arena_rows g f v old)))) (capacity_at g (arena_rows g f v old)) refusals offers
  written_apart W false v old new e words room = absurd (false≢true e)
  written_apart W {refusals} {offers} true v old new e words room = λ i. view_of (words i) (room i) refusals offers

  pub written_listed : (W : Segments → Segments) {refusals : ℕ} {offers : ℕ → ℕ → Bool} (f : Bool) (old new : Listed S g) (b : Rows S g) → f ≡ false →
      message (shown g new.rows.items) ≡ W (message (shown g old.rows.items)) → capacity_at g new.rows.items ≡ capacity_at g old.rows.items →
      view_of (message (shown g (arena_rows g f new b))) (capacity_at g (arena_rows g f new b)) refusals offers
      ≡ view_of (W (message (shown g (arena_rows g f old b)))) (capacity_at g (arena_rows g f old b)) refusals offers
  written_listed W {refusals} {offers} false old new b e words room = λ i. view_of (words i) (room i) refusals offers
  written_listed W true old new b e words room = absurd (false≢true (sym e))

module _ {S : Type 0} (g : Ghosts S) where
  -- words allocated in rows of either way, if there is room, are allocated in the arena's view
  pub grown_apart : (r : Option ℕ) (id amount refusals : ℕ) (offers : ℕ → ℕ → Bool) (f : Bool) (v : Listed S g) (old new : Rows S g) → f ≡ true →
      IfSome r (λ at. (at ≡ length (segment (message (shown g (all g old))) id)) × (message (shown g (all g new)) ≡ extended (message (shown g (all g old))) id (replicate amount 0))) → capacity_at g (all g new) ≡ capacity_at g (all g old) →
      IfSome r (GrowsSegment (view_of (message (shown g (arena_rows g f v old))) (capacity_at g (arena_rows g f v old)) refusals offers) (view_of (message (shown g (arena_rows g f v new))) (capacity_at g (arena_rows g f v new)) refusals offers) amount id)
  grown_apart None id amount refusals offers f v old new e h room = tt
  grown_apart (Some at) id amount refusals offers false v old new e h room = absurd (false≢true e)
  grown_apart (Some at) id amount refusals offers true v old new e h room = (h.0, λ i. view_of (h.1 i) (room i) refusals offers)

  pub grown_listed : (r : Option ℕ) (id amount refusals : ℕ) (offers : ℕ → ℕ → Bool) (f : Bool) (old new : Listed S g) (b : Rows S g) → f ≡ false →
      IfSome r (λ at. (at ≡ length (segment (message (shown g old.rows.items)) id)) × (message (shown g new.rows.items) ≡ extended (message (shown g old.rows.items)) id (replicate amount 0))) → capacity_at g new.rows.items ≡ capacity_at g old.rows.items →
      IfSome r (GrowsSegment (view_of (message (shown g (arena_rows g f old b))) (capacity_at g (arena_rows g f old b)) refusals offers) (view_of (message (shown g (arena_rows g f new b))) (capacity_at g (arena_rows g f new b)) refusals offers) amount id)
  grown_listed None id amount refusals offers f old new b e h room = tt
  grown_listed (Some at) id amount refusals offers false old new b e h room = (h.0, λ i. view_of (h.1 i) (room i) refusals offers)
  grown_listed (Some at) id amount refusals offers true old new b e h room = absurd (false≢true (sym e))

pub ruleset keeping = (kept_apart, kept_listed, kept_none)
