-- A segment in borrowed memory or on the heap, and an allocator with one in borrowed memory.
use Rattle.std.specs.Prelude.{ℕ, Bool, List, ◌/◌, ◌&&◌, ◌||◌, ◌==◌, length, min, nat_le, nat_lt, ⊤}
use Rattle.std.specs.Borrow.{MutBor}
use Rattle.capnp_arena_traits.specs.Allocations.{max_segment_words}
use Rattle.capnp_arena.specs.Heap.{with_bytes}
use Rattle.capnp_arena.specs.declared.arena.allocator.Segment.{Ghosts}
use Rattle.capnp_arena.specs.declared.arena.heap_allocator.HeapAllocator.{HeapAllocator}
use Rattle.capnp_arena.specs.declared.arena.scratch_allocator.ScratchSegment.{ScratchSegment}
use Rattle.capnp_arena.specs.declared.arena.scratch_allocator.ScratchSegment.TheVariants.{Borrowed, Owned}

module _ {B : Type 0} where
  abbrev pub IsBorrowed : ScratchSegment B → Type 0
  IsBorrowed (Borrowed segment) = ⊤
  IsBorrowed (Owned segment) = ⊥

  abbrev pub IsOwned : ScratchSegment B → Type 0
  IsOwned (Borrowed segment) = ⊥
  IsOwned (Owned segment) = ⊤

module _ {B : Type 0} (g : Ghosts B) where
  abbrev pub content_of : ScratchSegment B → List ℕ
  content_of (Borrowed segment) = g.content segment
  content_of (Owned segment) = segment.bytes.items

  -- The bytes that are ready.
  abbrev pub ready_of : ScratchSegment B → List ℕ
  ready_of (Borrowed segment) = g.ready segment
  ready_of (Owned segment) = segment.bytes.items

  -- The segment with w in place of the ready bytes.
  abbrev pub with_ready_of : ScratchSegment B → List ℕ → ScratchSegment B
  with_ready_of (Borrowed segment) w = Borrowed (g.with_ready segment w)
  with_ready_of (Owned segment) w = Owned (with_bytes segment w)

-- The bytes of a segment, borrowed or on the heap.
abbrev pub bytes_of : ScratchSegment (MutBor (List ℕ)) → List ℕ
bytes_of (Borrowed bytes) = bytes.now
bytes_of (Owned segment) = segment.bytes.items

-- The number of words of the segment that a scratch space provides.
abbrev pub whole_words : List ℕ → ℕ
whole_words bytes = min (length bytes / 8) max_segment_words

-- An allocator with a scratch space: whether the space is here, and not in use as a segment; its
-- number of bytes if it is here, all of them zero, otherwise 0; its number of words; and the
-- allocator of the other segments.
pub record Scratch : Type 0 where
  pub here : Bool
  pub zeros : ℕ
  pub scratch_words : ℕ
  pub heap : HeapAllocator

-- Whether the scratch space meets a request for `asked` words: it is here, has at least one word,
-- and has at least `asked`.
abbrev pub lends : Scratch → ℕ → Bool
lends a asked = a.here && (nat_lt 0 a.scratch_words && nat_le asked a.scratch_words)

-- Whether a request for `asked` words may be met by a segment of `words` words, if the scratch
-- space has `scratch_words`.
abbrev pub offered : (ℕ → ℕ → Bool) → ℕ → ℕ → ℕ → Bool
offered heap scratch_words asked words =
    heap asked words || ((words == scratch_words) && nat_le asked words)
