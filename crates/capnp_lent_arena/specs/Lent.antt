-- An arena of one segment in lent bytes.
use Rattle.std.specs.Prelude.{ℕ, Bool, List, ◌*◌, ◌/◌, ◌∷◌, [], length, take, min, nat_eq, slice_index_or}
use Rattle.std.proofs.Common.{zero, suc}
use Rattle.capnp_format.specs.Bytes.{message}
use Rattle.capnp_arena_traits.specs.Allocations.{max_segment_words}
use Rattle.capnp_arena_traits.specs.View.{View, view_of}
use Rattle.capnp_arena_traits.specs.Written.{with_front}
use Rattle.capnp_lent_arena.specs.LentPlace.{inside_still}
use Rattle.capnp_lent_arena.specs.declared.lent_arena.LentArena.{LentArena}
use Rattle.capnp_arena.specs.declared.arena.allocator.Segment.{Ghosts}

-- What the view of an arena in lent bytes has for `offers`: it tells the name of the reference to
-- the bytes. Such an arena never has a second segment, so nothing is ever offered. Each
-- call keeps `offers`, and so the reference: its lender has the bytes of the arena after the call.
abbrev pub names : ℕ → ℕ → ℕ → Bool
names name asked given = nat_eq asked name

module _ {S : Type 0} (g : Ghosts S) where
  -- The bytes of the allocated words.
  abbrev pub allocated_bytes : LentArena S g → List ℕ
  allocated_bytes a = take (8 * a.used) (g.ready a.bytes)

  -- How many words the segment can hold.
  abbrev pub capacity_of : LentArena S g → ℕ
  capacity_of a = min (length (g.ready a.bytes) / 8) max_segment_words

  -- The arena with the bytes ws over its allocated words.
  abbrev pub with_lent : LentArena S g → List ℕ → LentArena S g
  with_lent a ws =
      record a {
        bytes = g.with_ready a.bytes (with_front (8 * a.used) (g.ready a.bytes) ws);
        inside = inside_still g a.bytes a.used ws a.inside;
      }

  -- The same, if the segment is 0.
  abbrev pub with_lent_bytes : LentArena S g → ℕ → List ℕ → LentArena S g
  with_lent_bytes a zero ws = with_lent a ws
  with_lent_bytes a (suc k) ws = a

  -- What the arena holds, and can still grant.
  abbrev pub lent_view : (S → ℕ) → LentArena S g → View
  lent_view name a =
      view_of (message (allocated_bytes a ∷ [])) (λ k. slice_index_or (capacity_of a ∷ []) k 0)
      a.refused (names (name a.bytes))
