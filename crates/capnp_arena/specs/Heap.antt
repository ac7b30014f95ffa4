-- A segment on the heap, with other bytes.
use Rattle.std.specs.Prelude.{ℕ, List}
use Rattle.std.specs.Vec.{with_items}
use Rattle.capnp_arena.specs.declared.arena.heap_allocator.HeapSegment.{HeapSegment}

-- The segment with the bytes w.
abbrev pub with_bytes : HeapSegment → List ℕ → HeapSegment
with_bytes s w = record s { bytes = with_items s.bytes w }
