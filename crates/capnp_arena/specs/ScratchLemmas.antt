-- Lemmas on a segment in borrowed memory or on the heap. They are among the definitions because a
-- trait's law may cite nothing else.
use Rattle.std.specs.Prelude.{ℕ, List, ◌≡◌, ◌-◌, ◌++◌, length, replicate}
use Rattle.capnp_arena.specs.HeapLemmas.{all_ready, with_bytes-as_long, with_bytes-holds}
use Rattle.capnp_arena.specs.Scratch.{content_of, ready_of, with_ready_of}
use Rattle.capnp_arena.specs.declared.arena.allocator.Segment.{Ghosts}
use Rattle.capnp_arena.specs.declared.arena.scratch_allocator.ScratchSegment.{ScratchSegment}
use Rattle.capnp_arena.specs.declared.arena.scratch_allocator.ScratchSegment.TheVariants.{Borrowed, Owned}

module _ {B : Type 0} (g : Ghosts B) where
  -- A segment whose ready bytes are replaced by as many others has these ready.
  pub with_ready_of-holds : (s : ScratchSegment B) (w : List ℕ) → length w ≡ length (ready_of g s) →
      ready_of g (with_ready_of g s w) ≡ w
  with_ready_of-holds (Borrowed segment) w same = g.holds segment w same
  with_ready_of-holds (Owned segment) w same = with_bytes-holds segment w same

  -- A segment whose ready bytes are replaced by as many others is as long as before.
  pub with_ready_of-as_long : (s : ScratchSegment B) (w : List ℕ) → length w ≡ length (ready_of g s) →
      length (content_of g (with_ready_of g s w)) ≡ length (content_of g s)
  with_ready_of-as_long (Borrowed segment) w same = g.as_long segment w same
  with_ready_of-as_long (Owned segment) w same = with_bytes-as_long segment w same

  -- All bytes after the ready ones are zero.
  pub zeros_behind_of : (s : ScratchSegment B) →
      content_of g s ≡ ready_of g s ++ replicate (length (content_of g s) - length (ready_of g s)) 0
  zeros_behind_of (Borrowed segment) = g.zeros_behind segment
  zeros_behind_of (Owned segment) = all_ready segment.bytes.items
