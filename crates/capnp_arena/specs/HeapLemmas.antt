-- Lemmas on segments on the heap. They are among the definitions because a trait's law may cite
-- nothing else.
use Rattle.std.specs.Prelude.{ℕ, List, ◌++◌, ◌≡◌, ◌-◌, length, take, drop, replicate}
use Rattle.std.proofs.Common.{arith, ap, ◌∙◌}
use Rattle.std.proofs.lemmas.Grind.{common_steps}
use Rattle.capnp_arena.specs.Heap.{with_bytes}
use Rattle.capnp_arena.specs.declared.arena.heap_allocator.HeapSegment.{HeapSegment}

refilled : (n : ℕ) (w old : List ℕ) → length w ≡ length old → n ≡ length old →
    take n (w ++ drop (length w) old) ≡ w
refilled n w old same len = grind (arith, common_steps)

-- A segment whose bytes are replaced by as many others has these bytes.
pub with_bytes-holds : (s : HeapSegment) (w : List ℕ) → length w ≡ length s.bytes.items →
    (with_bytes s w).bytes.items ≡ w
with_bytes-holds s w same = refilled s.bytes.len w s.bytes.items same s.bytes.ok.0

-- A segment whose bytes are replaced by as many others is as long as before.
pub with_bytes-as_long : (s : HeapSegment) (w : List ℕ) → length w ≡ length s.bytes.items →
    length (with_bytes s w).bytes.items ≡ length s.bytes.items
with_bytes-as_long s w same = ap length (with_bytes-holds s w same) ∙ same

-- If all bytes are ready, no zeros come after the ready ones.
pub all_ready : (bytes : List ℕ) → bytes ≡ bytes ++ replicate (length bytes - length bytes) 0
all_ready bytes = grind (arith, common_steps)
