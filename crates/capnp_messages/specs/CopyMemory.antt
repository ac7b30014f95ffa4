-- Segments of memory for copies. Only their first bytes are initialized. And the same segments with
-- other bytes.
use Rattle.std.specs.Prelude.{ℕ, List, ◌++◌, replicate}
use Rattle.std.specs.Vec.{with_items}
use Rattle.capnp_messages.specs.declared.messages.copy_memory.CopySegment.{CopySegment}

-- All bytes: the ready ones, then zeros.
abbrev pub copy_content : CopySegment → List ℕ
copy_content s = s.bytes.items ++ replicate s.unready 0

-- The segment with w in place of the ready bytes.
abbrev pub with_copy_bytes : CopySegment → List ℕ → CopySegment
with_copy_bytes s w = record s { bytes = with_items s.bytes w; room = s.room }
