use Rattle.std.proofs.Common.{◌≡◌, ℕ, ◌<◌}
use Rattle.capnp_format.specs.Bytes.{message}
use Rattle.capnp_format.specs.Segments.{word_at}
use Rattle.layout_vectors.specs.Marks.{rows_of}
use Rattle.layout_vectors.proofs.vectors.walk.rest_is_zero.Given as goal

abbrev pub invariant-loop-id : goal.invariant-loop-id
invariant-loop-id g l = (u q : ℕ) → u < l.id → word_at (rows_of l.marks) u q ≡ 0 → word_at (message (g.A.ReaderArena.segments l.arena)) u q ≡ 0
